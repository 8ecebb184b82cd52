use Rattle.std.proofs.Common.{◌≡◌, ◌+◌, ◌*◌, ◌≤◌, List, [], ◌∷◌, ◌++◌, IfSome, None, Some, refl, sym, subst, ◌∙◌, ap, arith}
use Rattle.std.specs.Prelude.{Option}
use Rattle.std.specs.List.{last_or}
use Rattle.motion.specs.declared.leg.Leg.{Leg}
use Rattle.plane_rows.proofs.legs.fifty_legs_are_kept.Goals as goal

last_or-push : (o : Option Leg) (xs : List Leg) (x : Leg) → last_or o (xs ++ x ∷ []) ≡ Some x
last_or-push o [] x = refl
last_or-push o (y ∷ xs) x = last_or-push (Some y) xs x

pub loop-k-preserved : goal.loop-k-preserved
loop-k-preserved g c =
    let last = ap (last_or None) c.in_ok-push.ensures.ok ∙ last_or-push None c.loop-k.legs c.still.result in
    subst (λ (o : Option Leg). IfSome o (λ leg. leg.t2 ≤ 10 * (c.loop-k.k + 1))) (sym last) (omega arith)
