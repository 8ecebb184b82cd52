use Rattle.std.proofs.Common.{◌≡◌, IsTrue, refl, arith}
use Rattle.std.specs.Prelude.{Bool, true, false, ◌↔◌, ℤ, ◌≤ℤ◌, int_le, pos, ◌*◌}
use Rattle.std.proofs.lemmas.Int.{ints}
use Rattle.fixed_geometry.specs.Displacement.{displacement}
use Rattle.fixed_geometry.specs.Plane.{norm2_of}
use Rattle.plan_situations.proofs.near.is_within.Goals as goal

same : (a b : Bool) → (IsTrue a → IsTrue b) → (IsTrue b → IsTrue a) → a ≡ b
same true b to from = let h : b ≡ true = to refl in cc
same false true to from = let h : false ≡ true = from refl in cc
same false false to from = refl

tells : (answer : Bool) (x y : ℤ) → (IsTrue answer ↔ (x ≤ℤ y)) → answer ≡ int_le x y
tells answer x y h = same answer (int_le x y) (λ t. let le = h.0 t in grind (arith, ints, le)) (λ t. h.1 (grind (arith, ints, t)))

pub returns : goal.returns
returns c = tells c.within.result (norm2_of (displacement c.args.a c.args.b)) (pos (c.args.range * c.args.range)) c.within.ensures
