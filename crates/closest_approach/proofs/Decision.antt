-- What one comparison with the square of the least distance decides.
use Rattle.std.proofs.Common.{◌≡◌, ℕ, ◌+◌, ◌*◌, ◌≤◌, ◌<◌, ◌⊎◌, inl, inr, ℤ, pos, ◌*ℤ◌, ◌≤ℤ◌, ◌<ℤ◌, IsTrue, refl, arith, ap, sym, subst, ◌∙◌, mul-le-mul, mul-le-mul_left, ◌/◌}
use Rattle.std.specs.Prelude.{Bool, true, false, not}
use Rattle.std.proofs.lemmas.Int.{ints, by_lt_z}
use Rattle.std.proofs.lemmas.Nat.{le-div}
use Rattle.std.proofs.Math.Nat.{mul-div-le}
use Rattle.fixed_geometry.specs.Plane.{norm2_of}
use Rattle.motion.specs.Steps.{RelativeMove}
use Rattle.closest_approach.specs.Inner.LongSteps.{IsSeparatedFor}
use Rattle.closest_approach.specs.Separation.{displacement_at, nearest_of, EntersWithin, IsApart, IsNearer, IsNearest, IsSeparated}
use Rattle.closest_approach.specs.declared.nearest.Moment.{Moment}
use Rattle.closest_approach.proofs.Order.{times-le, times-le_cancel}
use Rattle.closest_approach.proofs.LeastMoment.{IsLeastFor, nearest_least}

-- ---- the least distance and all others

swap : (m n r : ℕ) → pos n *ℤ (pos m *ℤ pos r) ≡ pos m *ℤ (pos n *ℤ pos r)
swap m n r = omega (arith, ints)

square-pos : (n : ℕ) → 0 < n → 0 < n * n
square-pos n h = grind arith

chain : (x y z : ℤ) → x ≤ℤ y → y ≤ℤ z → x ≤ℤ z
chain x y z h k = omega (arith, ints)

pub separated_if : (step : RelativeMove) (r ticks : ℕ) (moment : Moment) → IsLeastFor step ticks moment → IsApart step r moment.a moment.b → IsSeparatedFor step r ticks
unfolding IsSeparatedFor
separated_if step r ticks moment h apart a b le some =
    let m : ℕ = moment.b * moment.b in
    let n : ℕ = b * b in
    times-le_cancel m (pos n *ℤ pos (r * r)) (norm2_of (displacement_at step a b)) (square-pos moment.b h.some)
    (chain (pos m *ℤ (pos n *ℤ pos (r * r))) (pos n *ℤ norm2_of (displacement_at step moment.a moment.b)) (pos m *ℤ norm2_of (displacement_at step a b))
    (subst (λ (z : ℤ). z ≤ℤ (pos n *ℤ norm2_of (displacement_at step moment.a moment.b))) (swap m n (r * r))
    (times-le n (pos m *ℤ pos (r * r)) (norm2_of (displacement_at step moment.a moment.b)) apart))
    (h.least a b le))

-- ---- a square as a quotient

-- a distance's square, as a quotient
pub IsSquare : ℤ → ℕ → ℕ → ℕ → Type 0
IsSquare square b over under = pos (over * (b * b)) ≡ square *ℤ pos under

pub whole_square : (square : ℤ) (over : ℕ) → pos over ≡ square → IsSquare square 1 over 1
unfolding IsSquare
whole_square square over e = omega (arith, ints)

pub turn_square : (square t : ℤ) (b u : ℕ) → square ≡ pos b *ℤ (t *ℤ t) → pos (u * u) ≡ t *ℤ t → IsSquare square b (u * u) b
unfolding IsSquare
turn_square square t b u e f =
    let g : square ≡ pos b *ℤ pos (u * u) = e ∙ ap (λ (z : ℤ). pos b *ℤ z) (sym f) in
    rw g (omega (arith, ints))

pub apart_if : (square : ℤ) (over under b r : ℕ) → 0 < under → IsSquare square b over under → r * r * under ≤ over → (pos (b * b) *ℤ pos (r * r)) ≤ℤ square
unfolding IsSquare
apart_if square over under b r some e le =
    let h : b * b * (r * r * under) ≤ b * b * over = mul-le-mul_left (b * b) le in
    times-le_cancel under (pos (b * b) *ℤ pos (r * r)) square some (omega (arith, ints))

pub nearer_if : (square : ℤ) (over under b r : ℕ) → 0 < b → IsSquare square b over under → over < r * r * under → square <ℤ (pos (b * b) *ℤ pos (r * r))
unfolding IsSquare
nearer_if square over under b r some e lt =
    by_lt_z square (pos (b * b) *ℤ pos (r * r))
    (λ below. below)
    (λ above. absurd (let h : b * b * (over + 1) ≤ b * b * (r * r * under) = mul-le-mul_left (b * b) (omega arith) in
    let k : (pos under *ℤ (pos (b * b) *ℤ pos (r * r))) ≤ℤ (pos under *ℤ square) = times-le under (pos (b * b) *ℤ pos (r * r)) square above in
    let some' : 0 < b * b = square-pos b some in
    omega (arith, ints)))

-- ---- answers

pub separated_one : (step : RelativeMove) (r : ℕ) → IsSeparatedFor step r 1 → IsSeparated step r
unfolding IsSeparated IsSeparatedFor
separated_one step r h a b le some = h a b (omega arith) some

not_both : (x y : ℤ) → x ≤ℤ y → y <ℤ x → ⊥
not_both x y h k = omega (arith, ints)

pub not_nearer : (step : RelativeMove) (r a b : ℕ) → IsSeparated step r → a ≤ b → 0 < b → IsNearer step r a b → ⊥
unfolding IsSeparated
not_nearer step r a b h le some nearer = not_both _ _ (h a b le some) nearer

pub not_entering : (step : RelativeMove) (r ticks : ℕ) → IsSeparatedFor step r ticks → EntersWithin step r ticks → ⊥
unfolding IsSeparatedFor
not_entering step r ticks h enters = not_both _ _ (h enters.a enters.b enters.within enters.some) enters.nearer

le_or_lt : (m n : ℕ) → (m ≤ n) ⊎ (n < m)
le_or_lt m n = grind arith

pub decides_separated : (step : RelativeMove) (r least square : ℕ) (answer : Bool) → ((IsTrue answer → least ≤ square) × (least ≤ square → IsTrue answer))
    → (least ≤ square → IsSeparatedFor step r 1) → (square < least → IsNearer step r (nearest_of step 1).a (nearest_of step 1).b)
    → (IsTrue answer → IsSeparated step r) × (IsSeparated step r → IsTrue answer)
decides_separated step r least square answer test apart nearer = (
  λ yes. separated_one step r (apart (test.0 yes)),
  λ separated. elim (le_or_lt least square) [
    | inl le ↦ test.1 le
    | inr lt ↦ (let h = nearest_least step 1 in absurd (not_nearer step r _ _ separated (omega (arith, h.within)) h.some (nearer lt)))
  ],
)

pub decides_entering : (step : RelativeMove) (r ticks least square : ℕ) (answer : Bool) → ((IsTrue answer → least ≤ square) × (least ≤ square → IsTrue answer))
    → (least ≤ square → IsSeparatedFor step r ticks) → (square < least → IsNearer step r (nearest_of step ticks).a (nearest_of step ticks).b)
    → (IsTrue (not answer) → EntersWithin step r ticks) × (EntersWithin step r ticks → IsTrue (not answer))
decides_entering step r ticks least square true test apart nearer = (λ no. cc, λ enters. absurd (not_entering step r ticks (apart (test.0 refl)) enters))
decides_entering step r ticks least square false test apart nearer = (
  λ _. elim (le_or_lt least square) [
    | inl le ↦ (let impossible = test.1 le in cc)
    | inr lt ↦ (let h = nearest_least step ticks in record {
      a = (nearest_of step ticks).a;
      b = (nearest_of step ticks).b;
      some = h.some;
      within = h.within;
      nearer = nearer lt;
    })
  ],
  λ _. refl,
)

-- One of the two holds: the moment of least distance decides.
pub enters_or_not : (step : RelativeMove) (r ticks : ℕ) → EntersWithin step r ticks ⊎ (¬ EntersWithin step r ticks)
enters_or_not step r ticks =
    let moment : Moment = nearest_of step ticks in
    let h = nearest_least step ticks in
    by_lt_z (norm2_of (displacement_at step moment.a moment.b)) (pos (moment.b * moment.b) *ℤ pos (r * r))
    (λ nearer. inl (record { a = moment.a; b = moment.b; some = h.some; within = h.within; nearer = nearer }))
    (λ apart. inr (λ enters. not_entering step r ticks (separated_if step r ticks moment h apart) enters))

pub nearer_where_not : (step : RelativeMove) (r : ℕ) → (IsSeparated step r → ⊥) → IsNearer step r (nearest_of step 1).a (nearest_of step 1).b
nearer_where_not step r not =
    by_lt_z (norm2_of (displacement_at step (nearest_of step 1).a (nearest_of step 1).b)) (pos ((nearest_of step 1).b * (nearest_of step 1).b) *ℤ pos (r * r))
    (λ nearer. nearer)
    (λ apart. absurd (not (separated_one step r (separated_if step r 1 (nearest_of step 1) (nearest_least step 1) apart))))

-- ---- the greatest separation

pub square_within_quotient : (m q over under : ℕ) → m ≤ q → q * q ≤ over / under → m * m * under ≤ over
square_within_quotient m q over under le h =
    let squares : m * m ≤ q * q = mul-le-mul le le in
    let k : under * (m * m) ≤ under * (over / under) = mul-le-mul_left under (omega arith) in
    let l : under * (over / under) ≤ over = mul-div-le over under in
    omega arith

pub none_greater : (step : RelativeMove) (m over under : ℕ) → 0 < under
    → (over < m * m * under → IsNearer step m (nearest_of step 1).a (nearest_of step 1).b) → IsSeparated step m → m * m ≤ over / under
none_greater step m over under some nearer separated =
    elim (le_or_lt (m * m * under) over) [
      | inl le ↦ le-div (m * m) over under some le
      | inr lt ↦ (let h = nearest_least step 1 in absurd (not_nearer step m _ _ separated (omega (arith, h.within)) h.some (nearer lt)))
    ]

-- ---- the moment of an entry

pub in_step : (step : RelativeMove) (moment : Moment) → moment ≡ nearest_of step 1 → (moment.a ≤ moment.b) × (0 < moment.b)
in_step step moment e =
    let h = nearest_least step 1 in
    let P : Moment → Type 0 = λ m. (m.a ≤ m.b) × (0 < m.b) in
    subst P (sym e) (omega (arith, h.within), h.some)

pub nearest_in_step : (step : RelativeMove) (moment : Moment) → moment ≡ nearest_of step 1 → IsNearest step moment
nearest_in_step step moment e = subst (IsNearest step) (sym e) (λ a b le _. (nearest_least step 1).least a b (omega arith))

pub nearer_at : (step : RelativeMove) (r : ℕ) (moment : Moment) → moment ≡ nearest_of step 1 → (IsSeparated step r → ⊥) → IsNearer step r moment.a moment.b
nearer_at step r moment e not = subst (λ (m : Moment). IsNearer step r m.a m.b) (sym e) (nearer_where_not step r not)
