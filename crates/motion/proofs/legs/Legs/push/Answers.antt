use Rattle.std.proofs.Common.{sym, subst, List, IfSome, None, ◌≤◌}
use Rattle.std.specs.List.{last_or}
use Rattle.motion.specs.declared.leg.Leg.{Leg}
use Rattle.motion.proofs.Search.{one_more}
use Rattle.motion.proofs.legs.Legs.push.Goals as goal

pub invariant_of-self-2 : goal.invariant_of-self-2
invariant_of-self-2 c =
    let after = subst (λ (legs : List Leg). IfSome (last_or None legs) (λ last. last.t2 ≤ c.args.leg.t1)) (sym c.self.view_is) c.requires.after in
    rw c.in_ok-push.ensures.items (one_more c.self.inside.legs.items c.args.leg c.self.invariant c.requires.leg after)
