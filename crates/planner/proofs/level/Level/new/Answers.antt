use Rattle.std.proofs.Common.{◌∷◌, [], length, ap, sym, subst, arith, length-append}
use Rattle.std.specs.List.{All}
use Rattle.std.proofs.lemmas.List.Elements.{All-push}
use Rattle.planner.specs.Inner.Watching.{IsReady}
use Rattle.planner.proofs.level.Level.new.Goals as goal

pub loop-target-preserved : goal.loop-target-preserved
loop-target-preserved c =
    let was = c.loop-target.invariant.count in
    record {
      count = omega (arith, ap length c.in_ok-push.ensures.items, length-append c.loop-target.watched.items (c.in_ok-unwatched.field-0 ∷ []));
      ready = subst (All (IsReady c.args.basis.now.program)) (sym c.in_ok-push.ensures.items)
          (All-push (IsReady c.args.basis.now.program) c.loop-target.watched.items c.in_ok-unwatched.field-0 c.loop-target.invariant.ready c.in_ok-unwatched.ensures);
    }
