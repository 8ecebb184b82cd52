-- Own ship is inside a domain at the moment that the test finds, or at no instant.
use Rattle.std.proofs.Common.{◌≡◌, ◌∙◌, ℕ, ◌^◌, ◌<◌, ◌≤◌, List, refl, ap, arith, sym, subst, subst₂, Some, None}
use Rattle.std.specs.Prelude.{Option, IfSome, IsNone, IsTrue, MatchOption, ◌↔◌, is_some, ℤ, Bool, true, false, pos, neg_ℤ, ◌*ℤ◌, int_le, unsigned_abs, if◌then◌else◌, not}
use Rattle.fixed_geometry.specs.Plane.{dot_of, norm2_of}
use Rattle.closest_approach.specs.Separation.{IsNearer, IsSeparated, nearest_of}
use Rattle.closest_approach.specs.declared.nearest.Moment.{Moment}
use Rattle.closest_approach.proofs.Decision.{in_step, nearer_where_not, not_nearer}
use Rattle.encounters.specs.declared.pair_step.PairStep.{PairStep}
use Rattle.hull_domains.specs.Crossings.{entry_moment}
use Rattle.hull_domains.specs.Domains.{IsInside, StaysOutside}
use Rattle.motion.specs.Steps.{RelativeMove}
use Rattle.plan_situations.specs.Domains.{Enters, IsEntry, IsInsideAt, IsInsideBy, moment_by, moment_of}
use Rattle.plan_situations.specs.declared.situation.Situation.{Situation}
use Rattle.plan_situations.specs.declared.situation.Target.{Target}

-- ---- if a shape and a direction are not both there, the domain is a circle

abbrev pub IsCircle : Option (List (ℤ × ℤ)) → Option ℕ → Type 0
IsCircle shape direction = (vertices : List (ℤ × ℤ)) (d : ℕ) → shape ≡ Some vertices → direction ≡ Some d → ⊥

module _ (radius : ℕ) (step : RelativeMove) (a b : ℕ) where
  in_circle : (shape : Option (List (ℤ × ℤ))) (direction : Option ℕ) → IsCircle shape direction → IsInsideBy shape direction radius step a b → IsNearer step radius a b
  in_circle (Some shape) (Some d) circle h = absurd (circle shape d refl refl)
  in_circle (Some shape) None circle h = h
  in_circle None direction circle h = h

  of_circle : (shape : Option (List (ℤ × ℤ))) (direction : Option ℕ) → IsCircle shape direction → IsNearer step radius a b → IsInsideBy shape direction radius step a b
  of_circle (Some shape) (Some d) circle h = absurd (circle shape d refl refl)
  of_circle (Some shape) None circle h = h
  of_circle None direction circle h = h

circle_moment : (step : RelativeMove) (shape : Option (List (ℤ × ℤ))) (direction : Option ℕ) → IsCircle shape direction → moment_by shape direction step ≡ nearest_of step 1
circle_moment step (Some shape) (Some d) circle = absurd (circle shape d refl refl)
circle_moment step (Some shape) None circle = refl
circle_moment step None direction circle = refl

-- ---- the moment of least distance has small numbers

b_small : (t u : Bool) (n a : ℕ) → n < 2 ^ 60
    → (if t then record { a = 0; b = 1 } else (if u then record { a = 1; b = 1 } else (let moment : Moment = record { a = a; b = n } in moment))).b < 2 ^ 60
b_small true u n a h = omega arith
b_small false true n a h = omega arith
b_small false false n a h = h

pub nearest_small : (step : RelativeMove) (l : ℕ) → pos l ≡ norm2_of step.w → l ≤ 2 ^ 53 → (nearest_of step 1).b < 2 ^ 60
unfolding nearest_of
nearest_small step l e small =
    b_small (int_le (pos 0) (dot_of step.p step.w)) (int_le (pos 1 *ℤ norm2_of step.w) (neg_ℤ (dot_of step.p step.w))) (unsigned_abs (norm2_of step.w)) (unsigned_abs (dot_of step.p step.w))
    (let same : l ≡ unsigned_abs (norm2_of step.w) = ap unsigned_abs e in omega arith)

-- ---- whether a moment was found

module _ (step : RelativeMove) (d : ℕ) (shape : List (ℤ × ℤ)) where
  pub outside_where_none : (o : Option Moment) (found : Bool) → found ≡ is_some o → (IsNone o ↔ StaysOutside step d shape) → found ≡ false → StaysOutside step d shape
  outside_where_none None found is none not_found = none.0 refl
  outside_where_none (Some moment) found is none not_found = absurd (let some : true ≡ false = sym is ∙ not_found in cc)

  pub inside_where_some : (o : Option Moment) (found : Bool) → found ≡ is_some o → IfSome o (λ moment. (moment.a ≤ moment.b) × (0 < moment.b) × (moment.b < 2 ^ 60))
      → IfSome o (λ moment. IsInside step d shape moment.a moment.b) → IsTrue found → (a b : ℕ) × (a ≤ b) × (0 < b) × IsInside step d shape a b
  inside_where_some None found is instant inside told = absurd (let never : IsTrue false = subst IsTrue is told in cc)
  inside_where_some (Some moment) found is instant inside told = (moment.a, moment.b, instant.0, instant.1, inside)

-- ---- what the tests of a shape and of a circle decide

module _ (s : Situation) (T : Target) (pair : PairStep) where
  module _ (shape : List (ℤ × ℤ)) (d : ℕ) (has : Some shape ≡ s.shape) (heads : Some d ≡ pair.b.direction) where
    shaped : (a b : ℕ) → IsInside pair.step d shape a b → IsInsideAt s T pair a b
    shaped a b = subst₂ (λ (o : Option (List (ℤ × ℤ))) (e : Option ℕ). IsInsideBy o e T.domain.radius pair.step a b) has heads

    in_shape : (a b : ℕ) → IsInsideAt s T pair a b → IsInside pair.step d shape a b
    in_shape a b = subst₂ (λ (o : Option (List (ℤ × ℤ))) (e : Option ℕ). IsInsideBy o e T.domain.radius pair.step a b) (sym has) (sym heads)

    shape_moment : entry_moment pair.step d shape ≡ moment_of s T pair
    shape_moment = subst₂ (λ (o : Option (List (ℤ × ℤ))) (e : Option ℕ). entry_moment pair.step d shape ≡ moment_by o e pair.step) has heads refl

    pub entry_by_shape : (o : Option Moment) → (IsNone o ↔ StaysOutside pair.step d shape) → IfSome o (λ moment. moment ≡ entry_moment pair.step d shape)
        → IfSome o (λ moment. (moment.a ≤ moment.b) × (0 < moment.b) × (moment.b < 2 ^ 60)) → IfSome o (λ moment. IsInside pair.step d shape moment.a moment.b)
        → MatchOption o (¬ Enters s T pair) (IsEntry s T pair)
    entry_by_shape None none is instant inside = λ h. none.0 refl h.a h.b h.within h.some (in_shape h.a h.b h.inside)
    entry_by_shape (Some moment) none is instant inside =
        record { is = is ∙ shape_moment; within = instant.0; some = instant.1; small = instant.2; inside = shaped moment.a moment.b inside }

  pub entry_by_circle : IsCircle s.shape pair.b.direction → (o : Option Moment) → IfSome o (λ moment. moment.b < 2 ^ 60) → (IsNone o ↔ IsSeparated pair.step T.domain.radius) → IfSome o (λ moment. moment ≡ nearest_of pair.step 1)
      → IfSome o (λ moment. (moment.a ≤ moment.b) × (0 < moment.b)) → IfSome o (λ moment. IsNearer pair.step T.domain.radius moment.a moment.b)
      → MatchOption o (¬ Enters s T pair) (IsEntry s T pair)
  entry_by_circle circle None small none is instant inside =
      λ h. not_nearer pair.step T.domain.radius h.a h.b (none.0 refl) h.within h.some (in_circle T.domain.radius pair.step h.a h.b s.shape pair.b.direction circle h.inside)
  entry_by_circle circle (Some moment) small none is instant inside = record {
    is = is ∙ sym (circle_moment pair.step s.shape pair.b.direction circle);
    within = instant.0;
    some = instant.1;
    small = small;
    inside = of_circle T.domain.radius pair.step moment.a moment.b s.shape pair.b.direction circle inside;
  }

  pub entered_circle : IsCircle s.shape pair.b.direction → (apart : Bool) → (IsTrue apart ↔ IsSeparated pair.step T.domain.radius) → IsTrue (not apart) ↔ Enters s T pair
  entered_circle circle true exact =
      (λ t. cc, λ h. absurd (not_nearer pair.step T.domain.radius h.a h.b (exact.0 refl) h.within h.some (in_circle T.domain.radius pair.step h.a h.b s.shape pair.b.direction circle h.inside)))
  entered_circle circle false exact =
      let moment = nearest_of pair.step 1 in
      let near : IsSeparated pair.step T.domain.radius → ⊥ = λ separated. (let impossible : IsTrue false = exact.1 separated in cc) in
      let within = in_step pair.step moment refl in (
        λ t. (record {
          a = moment.a;
          b = moment.b;
          within = within.0;
          some = within.1;
          inside = of_circle T.domain.radius pair.step moment.a moment.b s.shape pair.b.direction circle (nearer_where_not pair.step T.domain.radius near);
        }),
        λ h. refl,
      )

  pub entry_enters : (moment : Moment) → IsEntry s T pair moment → Enters s T pair
  entry_enters moment h = record { a = moment.a; b = moment.b; within = h.within; some = h.some; inside = h.inside }
