-- Separation by the two ends is one test.
use Rattle.std.proofs.Common.{◌≡◌, ℕ, ◌*◌, ℤ, pos, neg_ℤ, ◌*ℤ◌, ◌≤ℤ◌, ◌<ℤ◌, IsTrue, refl, arith}
use Rattle.std.specs.Prelude.{Bool, true, false, ◌&&◌, ◌||◌, int_le}
use Rattle.std.proofs.lemmas.Int.{ints}
use Rattle.fixed_geometry.specs.Plane.{dot_of, norm2_of, turn_of}
use Rattle.motion.specs.Steps.{RelativeMove}
use Rattle.closest_approach.specs.Separation.{IsSeparated, IsSeparatedByEnds}
use Rattle.closest_approach.proofs.Ends.{by_ends, from_ends}
use Rattle.meetings.specs.Ahead.{end_point}
use Rattle.meetings.specs.Inner.Tests.{is_separated}

record AreEnds (r2 s e a n m t : ℤ) : Type 0 where
  start : r2 ≤ℤ s
  end : r2 ≤ℤ e
  between : a <ℤ pos 0 → neg_ℤ a <ℤ n → m ≤ℤ t

test : ℤ → ℤ → ℤ → ℤ → ℤ → ℤ → ℤ → Bool
test r2 s e a n m t = int_le r2 s && (int_le r2 e && (int_le (pos 0) a || (int_le n (neg_ℤ a) || int_le m t)))

test_true : (r2 s e a n m t : ℤ) → IsTrue (test r2 s e a n m t) → AreEnds r2 s e a n m t
unfolding test
test_true r2 s e a n m t h = record {
  start = grind (arith, ints, h);
  end = grind (arith, ints, h);
  between = λ inwards more. grind (arith, ints, h);
}

true_test : (r2 s e a n m t : ℤ) → AreEnds r2 s e a n m t → IsTrue (test r2 s e a n m t)
unfolding test
true_test r2 s e a n m t h = grind (arith, ints, h.start, h.end, h.between)

-- The test holds exactly if the vessels are so far apart at every instant.
pub by_test : (step : RelativeMove) (r : ℕ) → IsTrue (is_separated step r) → IsSeparatedByEnds step r
unfolding is_separated test
by_test step r h =
    let ends = test_true (pos (r * r)) (norm2_of step.p) (norm2_of (end_point step)) (dot_of step.p step.w) (norm2_of step.w)
    (pos (r * r) *ℤ norm2_of step.w) (turn_of step.p step.w *ℤ turn_of step.p step.w) h in
    record { start = ends.start; end = ends.end; between = ends.between }

pub to_test : (step : RelativeMove) (r : ℕ) → IsSeparatedByEnds step r → IsTrue (is_separated step r)
unfolding is_separated test
to_test step r h = true_test (pos (r * r)) (norm2_of step.p) (norm2_of (end_point step)) (dot_of step.p step.w) (norm2_of step.w)
    (pos (r * r) *ℤ norm2_of step.w) (turn_of step.p step.w *ℤ turn_of step.p step.w)
    (record { start = h.start; end = h.end; between = h.between })

pub separated_exactly : (step : RelativeMove) (r : ℕ) → (IsTrue (is_separated step r) → IsSeparated step r) × (IsSeparated step r → IsTrue (is_separated step r))
separated_exactly step r = (λ h. from_ends step r (by_test step r h), λ h. to_test step r (by_ends step r h))

-- A test that decides the same is the same.
pub same_test : (step : RelativeMove) (r : ℕ) (answer : Bool) → (IsTrue answer → IsSeparatedByEnds step r) → (IsSeparatedByEnds step r → IsTrue answer) → answer ≡ is_separated step r
same_test step r answer to from = same answer (is_separated step r) (λ h. to_test step r (to h)) (λ h. from (by_test step r h))
  where
    same : (a b : Bool) → (IsTrue a → IsTrue b) → (IsTrue b → IsTrue a) → a ≡ b
    same true b to from = let h : b ≡ true = to refl in cc
    same false true to from = let h : false ≡ true = from refl in cc
    same false false to from = refl
