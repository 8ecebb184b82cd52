use Rattle.refutations.proofs.Replays.{turned}
use Rattle.refutations.proofs.replay.Replay.turn_to.Goals as goal

pub returns-clause-replay : goal.returns-clause-replay
returns-clause-replay c = turned c.args.self.now c.turn_to.new.self c.requires.replay c.turn_to.ensures.course c.turn_to.ensures.situation
