use Rattle.encounters.proofs.Lasting.{after_seen}
use Rattle.encounters.proofs.engagement.take_step.Goals as goal

pub returns-in-Some-clause-state : goal.returns-in-Some-clause-state
returns-in-Some-clause-state c = λ steps short before.
    rw c.in-Some.is (after_seen c.args.detect.now steps c.in-Some.pair.now c.args.state.now c.take_seen.new.state short before c.take_seen.ensures.follows)
