-- Which instant is taken as that of least distance.
use Rattle.std.proofs.Common.{◌≡◌, ℕ, zero, suc, ◌*◌, ◌≤◌, ◌<◌, ℤ, pos, negsuc, neg_ℤ, ◌*ℤ◌, ◌≤ℤ◌, ◌<ℤ◌, unsigned_abs, refl, arith, ap, sym, subst}
use Rattle.std.specs.Prelude.{if◌then◌else◌, int_le, true, false}
use Rattle.std.proofs.lemmas.Int.{ints, by_lt_z}
use Rattle.fixed_geometry.specs.Plane.{dot_of, norm2_of}
use Rattle.motion.specs.Steps.{RelativeMove}
use Rattle.closest_approach.specs.Separation.{nearest_of}
use Rattle.closest_approach.specs.declared.nearest.Moment.{Moment}

unfoldable pub choice : ℤ → ℤ → ℕ → Moment
choice along length2 ticks =
    if int_le (pos 0) along then record { a = 0; b = 1 }
    else (if int_le (pos ticks *ℤ length2) (neg_ℤ along) then record { a = ticks; b = 1 }
    else record { a = unsigned_abs along; b = unsigned_abs length2 })

pub nearest_of-is : (step : RelativeMove) (ticks : ℕ) → nearest_of step ticks ≡ choice (dot_of step.p step.w) (norm2_of step.w) ticks
unfolding nearest_of choice
nearest_of-is step ticks = refl

at_least : (x y : ℤ) → x ≤ℤ y → int_le x y ≡ true
at_least x y h = grind (arith, ints)

less : (x y : ℤ) → y <ℤ x → int_le x y ≡ false
less x y h = grind (arith, ints)

choice_start : (along length2 : ℤ) (ticks : ℕ) → pos 0 ≤ℤ along → record { a = 0; b = 1 } ≡ choice along length2 ticks
unfolding choice
choice_start along length2 ticks apart = rw (at_least (pos 0) along apart) refl

choice_last : (along length2 : ℤ) (ticks : ℕ) → along <ℤ pos 0 → (pos ticks *ℤ length2) ≤ℤ neg_ℤ along
    → record { a = ticks; b = 1 } ≡ choice along length2 ticks
unfolding choice
choice_last along length2 ticks inwards over = rw (less (pos 0) along inwards, at_least (pos ticks *ℤ length2) (neg_ℤ along) over) refl

choice_within : (along length2 : ℤ) (ticks : ℕ) → along <ℤ pos 0 → neg_ℤ along <ℤ (pos ticks *ℤ length2)
    → record { a = unsigned_abs along; b = unsigned_abs length2 } ≡ choice along length2 ticks
unfolding choice
choice_within along length2 ticks inwards more = rw (less (pos 0) along inwards, less (pos ticks *ℤ length2) (neg_ℤ along) more) refl

pub by_choice : (along length2 : ℤ) (ticks : ℕ) (P : Moment → Type 0)
    → (pos 0 ≤ℤ along → P (record { a = 0; b = 1 }))
    → (along <ℤ pos 0 → (pos ticks *ℤ length2) ≤ℤ neg_ℤ along → P (record { a = ticks; b = 1 }))
    → (along <ℤ pos 0 → neg_ℤ along <ℤ (pos ticks *ℤ length2) → P (record { a = unsigned_abs along; b = unsigned_abs length2 }))
    → P (choice along length2 ticks)
by_choice along length2 ticks P start last within =
    by_lt_z along (pos 0)
    (λ inwards. by_lt_z (neg_ℤ along) (pos ticks *ℤ length2)
    (λ more. subst P (choice_within along length2 ticks inwards more) (within inwards more))
    (λ over. subst P (choice_last along length2 ticks inwards over) (last inwards over)))
    (λ apart. subst P (choice_start along length2 ticks apart) (start apart))

pub back_is : (along : ℤ) → along <ℤ pos 0 → along ≡ neg_ℤ (pos (unsigned_abs along))
back_is along inwards = omega (arith, ints)

pub size_is : (z : ℤ) → pos 0 ≤ℤ z → z ≡ pos (unsigned_abs z)
size_is z h = omega (arith, ints)

pub some_length : (along length2 : ℤ) (ticks : ℕ) → pos 0 ≤ℤ length2 → along <ℤ pos 0 → neg_ℤ along <ℤ (pos ticks *ℤ length2) → 0 < unsigned_abs length2
some_length along (pos zero) ticks sign inwards more = absurd (omega (arith, ints))
some_length along (pos (suc n)) ticks sign inwards more = omega arith
some_length along (negsuc n) ticks sign inwards more = absurd (omega (arith, ints))

pub in_time : (along length2 : ℤ) (ticks : ℕ) → pos 0 ≤ℤ length2 → along <ℤ pos 0 → neg_ℤ along <ℤ (pos ticks *ℤ length2)
    → unsigned_abs along ≤ unsigned_abs length2 * ticks
in_time along (pos n) ticks sign inwards more = omega (arith, ints)
in_time along (negsuc n) ticks sign inwards more = absurd (omega (arith, ints))

-- ---- what the code takes, by its numbers: the product along, its size, the square of the change and the ticks

over : (d l : ℤ) (ticks back length : ℕ) → d <ℤ pos 0 → back ≡ unsigned_abs d → pos length ≡ l → ticks * length ≤ back → (pos ticks *ℤ l) ≤ℤ neg_ℤ d
over d l ticks back length neg b e h = let f : pos ticks *ℤ l ≡ pos (ticks * length) = ap (λ (z : ℤ). pos ticks *ℤ z) (sym e) in omega (arith, ints)

more : (d l : ℤ) (ticks back length : ℕ) → d <ℤ pos 0 → back ≡ unsigned_abs d → pos length ≡ l → back < ticks * length → neg_ℤ d <ℤ (pos ticks *ℤ l)
more d l ticks back length neg b e h = let f : pos ticks *ℤ l ≡ pos (ticks * length) = ap (λ (z : ℤ). pos ticks *ℤ z) (sym e) in omega (arith, ints)

last_chosen : (d l : ℤ) (ticks back length from n : ℕ) → d <ℤ pos 0 → back ≡ unsigned_abs d → pos length ≡ l → from ≡ ticks → from * length ≤ back → n ≡ ticks
    → record { a = n; b = 1 } ≡ choice d l ticks
last_chosen d l ticks back length from n neg b e f h g =
    let h' : ticks * length ≤ back = subst (λ (m : ℕ). m * length ≤ back) f h in
    rw g (choice_last d l ticks neg (over d l ticks back length neg b e h'))

within_chosen : (d l : ℤ) (ticks back length from : ℕ) → d <ℤ pos 0 → back ≡ unsigned_abs d → pos length ≡ l → from ≡ ticks → back < from * length
    → record { a = back; b = length } ≡ choice d l ticks
within_chosen d l ticks back length from neg b e f h =
    let h' : back < ticks * length = subst (λ (m : ℕ). back < m * length) f h in
    let size : length ≡ unsigned_abs l = ap unsigned_abs e in
    rw (b, size) (choice_within d l ticks neg (more d l ticks back length neg b e h'))

module _ (step : RelativeMove) (ticks : ℕ) (along : ℤ) (is : along ≡ dot_of step.p step.w) where
  pub start_taken : pos 0 ≤ℤ along → record { a = 0; b = 1 } ≡ nearest_of step ticks
  start_taken apart =
      subst (λ (m : Moment). record { a = 0; b = 1 } ≡ m) (sym (nearest_of-is step ticks))
      (subst (λ (d : ℤ). record { a = 0; b = 1 } ≡ choice d (norm2_of step.w) ticks) is (choice_start along (norm2_of step.w) ticks apart))

  pub last_taken : along <ℤ pos 0 → (back : ℕ) → back ≡ unsigned_abs along → (length : ℕ) → pos length ≡ norm2_of step.w → (from : ℕ) → from ≡ ticks
      → from * length ≤ back → (n : ℕ) → n ≡ ticks → record { a = n; b = 1 } ≡ nearest_of step ticks
  last_taken neg back b length e from f h n g =
      subst (λ (m : Moment). record { a = n; b = 1 } ≡ m) (sym (nearest_of-is step ticks))
      (subst (λ (d : ℤ). record { a = n; b = 1 } ≡ choice d (norm2_of step.w) ticks) is
      (last_chosen along (norm2_of step.w) ticks back length from n neg b e f h g))

  pub within_taken : along <ℤ pos 0 → (back : ℕ) → back ≡ unsigned_abs along → (length : ℕ) → pos length ≡ norm2_of step.w → (from : ℕ) → from ≡ ticks
      → back < from * length → record { a = back; b = length } ≡ nearest_of step ticks
  within_taken neg back b length e from f h =
      subst (λ (m : Moment). record { a = back; b = length } ≡ m) (sym (nearest_of-is step ticks))
      (subst (λ (d : ℤ). record { a = back; b = length } ≡ choice d (norm2_of step.w) ticks) is
      (within_chosen along (norm2_of step.w) ticks back length from neg b e f h))
