-- The vector ahead is long whatever the direction: the checker computes all of an eighth of the compass, and the others are its images.
use Rattle.std.proofs.Common.{◌≡◌, ◌&&◌, mul-le-mul, false, ℕ, zero, suc, ◌+◌, ◌*◌, ◌-◌, ◌/◌, ◌%◌, ◌^◌, ◌<◌, ◌≤◌, nat_le, Bool, true, ℤ, pos, negsuc, neg_ℤ, ◌+ℤ◌, ◌*ℤ◌, ◌≤ℤ◌, unsigned_abs, arith, refl, sym, subst, inl, inr}
use Rattle.std.specs.Prelude.{if◌then◌else◌}
use Rattle.std.proofs.lemmas.Bool.{and_parts, cases_lt}
use Rattle.std.proofs.lemmas.Bool.Decides.{nat_tests}
use Rattle.std.proofs.lemmas.Int.{ints}
use Rattle.fixed_geometry.specs.Compass.{compass_direction, eighth_of, mirrored, quarter_further, quarter_of, quarters_further, tenth_further, unit_of, Direction}
use Rattle.fixed_geometry.specs.Plane.{norm2_of}
use Rattle.fixed_geometry.specs.Rounding.{rounded}
use Rattle.fixed_geometry.specs.declared.point.Point.{Point}
use Rattle.fixed_geometry.proofs.ForCallers.{polynomials, diff_of, diff_same}

abbrev pub least_square : ℕ
least_square = 999600000000

abbrev is_long : Point → Bool
is_long p = nat_le least_square (unsigned_abs p.x * unsigned_abs p.x + unsigned_abs p.y * unsigned_abs p.y)

-- so are n directions, from one on
abbrev are_long_from : ℕ → Direction → Bool
are_long_from zero d = true
are_long_from (suc n) d = is_long (record { x = rounded d.sine (10 ^ 9); y = rounded d.cosine (10 ^ 9) }) && are_long_from n (tenth_further d)

all_long : are_long_from 451 (record { sine = pos 0; cosine = pos (10 ^ 15) }) ≡ true
unfolding rounded
all_long = refl

long_in : (n j k : ℕ) → k < n → are_long_from n (compass_direction j) ≡ true → is_long (eighth_of (j + k)) ≡ true
unfolding compass_direction eighth_of
long_in zero j k h all = absurd (omega arith)
long_in (suc n) j zero h all =
    let parts = and_parts (is_long (eighth_of j)) (are_long_from n (compass_direction (suc j))) all in
    let same : j ≡ j + zero = omega arith in
    subst (λ (i : ℕ). is_long (eighth_of i) ≡ true) same parts.0
long_in (suc n) j (suc k) h all =
    let parts = and_parts (is_long (eighth_of j)) (are_long_from n (compass_direction (suc j))) all in
    let same : suc j + k ≡ j + suc k = omega arith in
    subst (λ (i : ℕ). is_long (eighth_of i) ≡ true) same (long_in n (suc j) k (omega arith) parts.1)

abbrev IsLong : Point → Type 0
IsLong p = pos least_square ≤ℤ norm2_of p

told : (x y : ℤ) → nat_le least_square (unsigned_abs x * unsigned_abs x + unsigned_abs y * unsigned_abs y) ≡ true → pos least_square ≤ℤ (x *ℤ x +ℤ y *ℤ y)
told x y h =
    let le : least_square ≤ unsigned_abs x * unsigned_abs x + unsigned_abs y * unsigned_abs y = grind (arith, nat_tests) in
    let a = square x in
    let b = square y in
    omega (arith, ints)
  where
    square : (z : ℤ) → z *ℤ z ≡ pos (unsigned_abs z * unsigned_abs z)
    square (pos n) = omega (arith, ints)
    square (negsuc n) = omega (arith, ints)

eighth_long : (k : ℕ) → k ≤ 450 → IsLong (eighth_of k)
unfolding compass_direction
eighth_long k le =
    let same : 0 + k ≡ k = omega arith in
    told (eighth_of k).x (eighth_of k).y (subst (λ (i : ℕ). is_long (eighth_of i) ≡ true) same (long_in 451 0 k (omega arith) all_long))

mirrored_long : (p : Point) → IsLong p → IsLong (mirrored p)
mirrored_long p h = exchanged p.x p.y h
  where
    exchanged : (x y : ℤ) → pos least_square ≤ℤ (x *ℤ x +ℤ y *ℤ y) → pos least_square ≤ℤ (y *ℤ y +ℤ x *ℤ x)
    exchanged x y h = omega (arith, ints)

further_long : (p : Point) → IsLong p → IsLong (quarter_further p)
further_long p h = subst (λ (z : ℤ). pos least_square ≤ℤ z) (turned p.x p.y) h
  where
    turned : (x y : ℤ) → x *ℤ x +ℤ y *ℤ y ≡ y *ℤ y +ℤ neg_ℤ x *ℤ neg_ℤ x
    turned x y = rw (← diff_of x, ← diff_of y) (simp polynomials (diff_same _ _ _ _ (omega arith)))

quarters_long : (n : ℕ) (p : Point) → IsLong p → IsLong (quarters_further n p)
quarters_long zero p h = h
quarters_long (suc n) p h = further_long (quarters_further n p) (quarters_long n p h)

quarter_long : (k : ℕ) → k < 900 → IsLong (quarter_of k)
quarter_long k lt = elim (cases_lt 450 k) [
  | inl past ↦ (let no : nat_le k 450 ≡ false = grind (arith, nat_tests) in
      subst (λ (b : Bool). IsLong (if b then eighth_of k else mirrored (eighth_of (900 - k)))) (sym no) (mirrored_long (eighth_of (900 - k)) (eighth_long (900 - k) (omega arith))))
  | inr within ↦ (let yes_it_is : nat_le k 450 ≡ true = grind (arith, nat_tests) in
      subst (λ (b : Bool). IsLong (if b then eighth_of k else mirrored (eighth_of (900 - k)))) (sym yes_it_is) (eighth_long k (omega arith)))
]

pub unit_long : (d : ℕ) → pos least_square ≤ℤ norm2_of (unit_of d)
unfolding unit_of
unit_long d = quarters_long (d / 900) (quarter_of (d % 900)) (quarter_long (d % 900) (omega arith))

-- so a circle that is a metre wider than a way of at most 4001 m covers it
pub wide_enough : (s : ℕ) (z : ℤ) → s ≤ 4001 → pos least_square ≤ℤ z
    → pos (s * s * 100000000000000000000) ≤ℤ (pos ((10000 * (s + 1)) * (10000 * (s + 1))) *ℤ z)
wide_enough s z short long = over z (unsigned_abs z) (is z long) (least z long)
  where
    is : (z : ℤ) → pos least_square ≤ℤ z → z ≡ pos (unsigned_abs z)
    is z h = omega (arith, ints)

    least : (z : ℤ) → pos least_square ≤ℤ z → least_square ≤ unsigned_abs z
    least z h = omega (arith, ints)

    over : (z : ℤ) (n : ℕ) → z ≡ pos n → least_square ≤ n → pos (s * s * 100000000000000000000) ≤ℤ (pos ((10000 * (s + 1)) * (10000 * (s + 1))) *ℤ z)
    over z n e le =
        let square : s * s ≤ 4001 * s = mul-le-mul short (same s) in
        let first : s * s * 1000000000000 ≤ (s + 1) * (s + 1) * least_square = omega arith in
        let second : (s + 1) * (s + 1) * least_square ≤ (s + 1) * (s + 1) * n = mul-le-mul (same ((s + 1) * (s + 1))) le in
        let whole : s * s * 100000000000000000000 ≤ (10000 * (s + 1)) * (10000 * (s + 1)) * n = omega arith in
        subst (λ (x : ℤ). pos (s * s * 100000000000000000000) ≤ℤ (pos ((10000 * (s + 1)) * (10000 * (s + 1))) *ℤ x)) (sym e) (natural ((10000 * (s + 1)) * (10000 * (s + 1))) n whole)
      where
        same : (m : ℕ) → m ≤ m
        same m = omega arith

        natural : (m n : ℕ) → s * s * 100000000000000000000 ≤ m * n → pos (s * s * 100000000000000000000) ≤ℤ (pos m *ℤ pos n)
        natural m n h = omega (arith, ints)
