-- How far from a target no step of own ship's enters her domain.
use Rattle.std.proofs.Common.{◌≡◌, ℕ, ◌*◌, ◌<◌, ◌≤◌, List, refl, sym, subst, arith, Some, None, mul-le-mul}
use Rattle.std.specs.Prelude.{Option, IfSome, ℤ, pos, ◌*ℤ◌, ◌≤ℤ◌}
use Rattle.std.proofs.lemmas.Int.{ints}
use Rattle.closest_approach.specs.Separation.{IsSeparated, displacement_at}
use Rattle.closest_approach.proofs.Decision.{not_nearer}
use Rattle.encounters.specs.Directions.{HaveDirections}
use Rattle.encounters.specs.declared.pair_step.PairStep.{PairStep}
use Rattle.fixed_geometry.specs.Plane.{norm2_of}
use Rattle.hull_domains.specs.Domains.{StaysOutside}
use Rattle.motion.specs.Steps.{RelativeMove}
use Rattle.plan_situations.specs.Domains.{Enters, IsInsideBy}
use Rattle.plan_situations.specs.declared.situation.Situation.{Situation}
use Rattle.plan_situations.specs.declared.situation.Target.{Target}

-- ---- a step that is separated by a distance is so by each lesser one

lesser : (z : ℤ) (b r m : ℕ) → r ≤ m → (pos (b * b) *ℤ pos (m * m)) ≤ℤ z → (pos (b * b) *ℤ pos (r * r)) ≤ℤ z
lesser z b r m le h =
    let square : r * r ≤ m * m = mul-le-mul le le in
    let all : b * b * (r * r) ≤ b * b * (m * m) = mul-le-mul (same (b * b)) square in
    let few = natural (b * b) (r * r) in
    let many = natural (b * b) (m * m) in
    omega (arith, ints)
  where
    same : (n : ℕ) → n ≤ n
    same n = omega arith

    natural : (m n : ℕ) → pos m *ℤ pos n ≡ pos (m * n)
    natural m n = omega (arith, ints)

separated_less : (step : RelativeMove) (r m : ℕ) → r ≤ m → IsSeparated step m → IsSeparated step r
unfolding IsSeparated
separated_less step r m le h = λ a b within some. lesser (norm2_of (displacement_at step a b)) b r m le (h a b within some)

-- ---- she is outside

outside_by : (shape : Option (List (ℤ × ℤ))) (direction : Option ℕ) (radius : ℕ) (step : RelativeMove)
    → ((vertices : List (ℤ × ℤ)) → shape ≡ Some vertices → (d : ℕ) → d < 3600 → StaysOutside step d vertices) → IfSome direction (λ d. d < 3600) → IsSeparated step radius
    → (a b : ℕ) → a ≤ b → 0 < b → IsInsideBy shape direction radius step a b → ⊥
outside_by (Some shape) (Some d) radius step outside heads apart a b within some inside = outside shape refl d heads a b within some inside
outside_by (Some shape) None radius step outside heads apart a b within some inside = not_nearer step radius a b apart within some inside
outside_by None direction radius step outside heads apart a b within some inside = not_nearer step radius a b apart within some inside

module _ (s : Situation) (T : Target) (r : ℕ) (radius : T.domain.radius ≤ r) where
  pub reach_shape : (shape : List (ℤ × ℤ)) → s.shape ≡ Some shape → (around : ℕ) → around ≤ r
      → ((step : RelativeMove) → IsSeparated step around → (d : ℕ) → d < 3600 → StaysOutside step d shape)
      → (pair : PairStep) → HaveDirections pair → IsSeparated pair.step r → ¬ Enters s T pair
  reach_shape shape has around le outside pair heads apart enters =
      outside_by s.shape pair.b.direction T.domain.radius pair.step
      (λ vertices is d lt. subst (λ (o : Option (List (ℤ × ℤ))). o ≡ Some vertices → StaysOutside pair.step d vertices) (sym has)
      (λ e. subst (StaysOutside pair.step d) (inside_some e) (outside pair.step (separated_less pair.step around r le apart) d lt)) is)
      heads.b (separated_less pair.step T.domain.radius r radius apart) enters.a enters.b enters.within enters.some enters.inside
    where
      inside_some : {vertices : List (ℤ × ℤ)} → Some shape ≡ Some vertices → shape ≡ vertices
      inside_some e = cc

  pub reach_circle : s.shape ≡ None → (pair : PairStep) → HaveDirections pair → IsSeparated pair.step r → ¬ Enters s T pair
  reach_circle has pair heads apart enters =
      outside_by s.shape pair.b.direction T.domain.radius pair.step (λ vertices is d lt. absurd cc)
      heads.b (separated_less pair.step T.domain.radius r radius apart) enters.a enters.b enters.within enters.some enters.inside
