use Rattle.std.proofs.Common.{◌∙◌}
use Rattle.mtl_monitor.proofs.Runs.{ring_still, run_still}
use Rattle.mtl_monitor.proofs.delay_line.delay.Goals as goal

pub returns-then-i-from-clause-still : goal.returns-then-i-from-clause-still
returns-then-i-from-clause-still c = λ rests run.
    let full = c.push.ensures.still rests in (
      c.push.ensures.ring ∙ ring_still c.args.ring.now c.args.run.now c.args.value run full.0 full.1,
      c.push.ensures.run ∙ run_still c.args.ring.now c.args.run.now c.args.value run full.0 full.1,
    )
