use Rattle.planner.proofs.Extending.{after_none}
use Rattle.planner.proofs.walk.Walk.new.Goals as goal

pub returns-in-Ok : goal.returns-in-Ok
returns-in-Ok c = record {
  ground = c.in_ok-basis.ensures.is_basis;
  start = after_none c.args.situation.now c.in_ok-basis.basis c.in_ok-basis.start c.in_ok-basis.ensures;
  places = c.in-Ok.ensures;
}
