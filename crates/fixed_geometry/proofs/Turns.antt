-- The port side by two turns: a vector falls short of a direction if the turn from the direction to it is to port.
use Rattle.std.proofs.Common.{◌≡◌, ℕ, zero, suc, ◌+◌, ◌-◌, ◌*◌, ◌/◌, ◌%◌, ◌<◌, ◌≤◌, inl, inr, ℤ, pos, neg_ℤ, ◌-ℤ◌, ◌*ℤ◌, ◌≤ℤ◌, ◌<ℤ◌, refl, sym, ap, ◌∙◌, arith, lit<, mul-le-mul_right}
use Rattle.std.proofs.Math.Bool.{and-false}
use Rattle.std.proofs.Math.IntN.{neg_ℤ-neg_ℤ}
use Rattle.std.proofs.Math.Nat.{mul-pos, mul-lt-mul_of_pos_right}
use Rattle.std.proofs.lemmas.Bool.{cases_lt}
use Rattle.std.proofs.lemmas.Bool.Decides.{nat_tests}
use Rattle.std.proofs.lemmas.Int.{ints, by_lt_z}
use Rattle.std.specs.Prelude.{Bool, true, false, not, ◌&&◌, int_le, int_lt, nat_le, option_map, unsigned_abs, Some}
use Rattle.fixed_geometry.specs.Bearing.{bearing_of, has_turned, lies_to_port, quarter_angle}
use Rattle.fixed_geometry.specs.Compass.{compass_direction, eighth_of, quarter_further, quarter_of, quarters_further, unit_of, sine_of, cosine_of}
use Rattle.fixed_geometry.specs.Plane.{turn_of}
use Rattle.fixed_geometry.specs.Rounding.{rounded}
use Rattle.fixed_geometry.specs.declared.point.Point.{Point}
use Rattle.fixed_geometry.proofs.FirstQuarter.{neighbours, not_turned_later, sizes, turned_at_zero, unit_of-first}
use Rattle.fixed_geometry.proofs.ForCallers.{polynomials, diff_of, diff_same}
use Rattle.fixed_geometry.proofs.Quarters.{angle_below, first_quarter, second_quarter, third_quarter, fourth_quarter, relative_from, turned_by}

-- ---- quarters of the circle

-- A turn stays as it is if both vectors are a quarter further.
turn_further : (a b : Point) → turn_of (quarter_further a) (quarter_further b) ≡ turn_of a b
turn_further a b = rw (← diff_of a.x, ← diff_of a.y, ← diff_of b.x, ← diff_of b.y) (simp polynomials (diff_same _ _ _ _ (omega arith)))

turn_back : (q j i : ℕ) (a b : Point) → q + j ≡ i → turn_of (quarters_further i a) (quarters_further j b) ≡ turn_of (quarters_further q a) b
turn_back q zero i a b e = let same : i ≡ q = omega arith in ap (λ (m : ℕ). turn_of (quarters_further m a) b) same
turn_back q (suc j) zero a b e = absurd (omega arith)
turn_back q (suc j) (suc i) a b e = turn_further (quarters_further i a) (quarters_further j b) ∙ turn_back q j i a b (omega arith)

four_further : (a : Point) → quarters_further 4 a ≡ a
four_further a = rw (neg_ℤ-neg_ℤ a.x, neg_ℤ-neg_ℤ a.y) refl

round : (i : ℕ) (a : Point) → quarters_further (i + 4) a ≡ quarters_further i a
round zero a = four_further a
round (suc i) a = let e : suc i + 4 ≡ suc (i + 4) = omega arith in rw e (ap quarter_further (round i a))

-- The turn from a direction that lies q quarters and k tenths of a degree further than the beginning of a vector's quarter.
turn_from : (d q j k : ℕ) (b : Point) → q < 4 → j < 4 → k < 900 → (900 * (q + j) + k) % 3600 ≡ d → turn_of (unit_of d) (quarters_further j b) ≡ turn_of (quarters_further q (quarter_of k)) b
unfolding unit_of
turn_from d q j k b few few' small e =
    let rest : d % 900 ≡ k = omega arith in
    rw rest (elim (cases_lt (q + j) 4) [
      | inl below ↦ turn_back q j (d / 900) (quarter_of k) b (omega arith)
      | inr over ↦ ap (λ (p : Point). turn_of p (quarters_further j b)) (sym (round (d / 900) (quarter_of k))) ∙ turn_back q j (d / 900 + 4) (quarter_of k) b (omega arith)
    ])

-- ---- the sign of the turn, by how many quarters lie between

turned_once : (s c n e : ℕ) → pos c *ℤ pos n -ℤ neg_ℤ (pos s) *ℤ pos e ≡ pos (c * n + s * e)
turned_once s c n e = simp polynomials (diff_same _ _ _ _ (omega arith))

turned_twice : (s c n e : ℕ) → neg_ℤ (pos s) *ℤ pos n -ℤ neg_ℤ (pos c) *ℤ pos e ≡ pos (c * e) -ℤ pos (s * n)
turned_twice s c n e = simp polynomials (diff_same _ _ _ _ (omega arith))

turned_thrice : (s c n e : ℕ) → neg_ℤ (pos c) *ℤ pos n -ℤ neg_ℤ (neg_ℤ (pos s)) *ℤ pos e ≡ neg_ℤ (pos (c * n + s * e))
turned_thrice s c n e = simp polynomials (diff_same _ _ _ _ (omega arith))

less_none : (s c n e : ℕ) → int_lt (pos 0) (pos s *ℤ pos n -ℤ pos c *ℤ pos e) ≡ not (int_le (pos s *ℤ pos n) (pos c *ℤ pos e))
less_none s c n e = grind (arith, ints)

less_once : (s c n e : ℕ) → 0 < c → 0 < n → int_lt (pos 0) (pos c *ℤ pos n -ℤ neg_ℤ (pos s) *ℤ pos e) ≡ true
less_once s c n e some ahead = rw turned_once (let h = mul-pos some ahead in grind (arith, ints))

less_twice : (s c n e : ℕ) → s * n < c * e → int_lt (pos 0) (neg_ℤ (pos s) *ℤ pos n -ℤ neg_ℤ (pos c) *ℤ pos e) ≡ true
less_twice s c n e h = rw turned_twice (grind (arith, ints))

not_less_twice : (s c n e : ℕ) → c * e ≤ s * n → int_lt (pos 0) (neg_ℤ (pos s) *ℤ pos n -ℤ neg_ℤ (pos c) *ℤ pos e) ≡ false
not_less_twice s c n e h = rw turned_twice (grind (arith, ints))

not_less_thrice : (s c n e : ℕ) → int_lt (pos 0) (neg_ℤ (pos c) *ℤ pos n -ℤ neg_ℤ (neg_ℤ (pos s)) *ℤ pos e) ≡ false
not_less_thrice s c n e = rw turned_thrice (grind (arith, ints))

-- whether a vector of n ahead and e to starboard falls short of a direction that is q quarters and k tenths of a degree further
abbrev short : ℕ → ℕ → ℕ → ℕ → Bool
short q k n e = int_lt (pos 0) (turn_of (quarters_further q (quarter_of k)) (record { x = pos e; y = pos n }))

quarter_is : (k s c : ℕ) → k < 900 → sine_of k ≡ pos s → cosine_of k ≡ pos c → quarter_of k ≡ record { x = pos s; y = pos c }
quarter_is k s c lt sine cosine =
    let e : record { x = sine_of k; y = cosine_of k } ≡ quarter_of k = unit_of-first k lt in
    sym e ∙ rw (sine, cosine) refl

short_at : (q k s c n e : ℕ) → k < 900 → sine_of k ≡ pos s → cosine_of k ≡ pos c
    → short q k n e ≡ int_lt (pos 0) (turn_of (quarters_further q (record { x = pos s; y = pos c })) (record { x = pos e; y = pos n }))
short_at q k s c n e lt sine cosine = ap (λ (p : Point). int_lt (pos 0) (turn_of (quarters_further q p) (record { x = pos e; y = pos n }))) (quarter_is k s c lt sine cosine)

short_none : (k n e : ℕ) → k < 900 → short 0 k n e ≡ not (has_turned (pos n) (pos e) k)
short_none k n e lt =
    let z = sizes k lt in
    short_at 0 k z.s z.c n e lt z.sine z.cosine ∙ (less_none z.s z.c n e ∙ rw (z.sine, z.cosine) refl)

short_once : (k n e : ℕ) → k < 900 → 0 < n → short 1 k n e ≡ true
short_once k n e lt ahead = let z = sizes k lt in short_at 1 k z.s z.c n e lt z.sine z.cosine ∙ less_once z.s z.c n e z.some ahead

-- A vector that has turned by the next tenth of a degree has turned by more than this one.
short_twice : (k n e : ℕ) → suc k < 900 → 0 < n → has_turned (pos n) (pos e) (suc k) ≡ true → short 2 k n e ≡ true
short_twice k n e lt ahead turned =
    let z = neighbours k lt in
    let here : int_le (pos z.s' *ℤ pos n) (pos z.c' *ℤ pos e) ≡ true = rw (z.sine', z.cosine') at turned in
    let le : z.s' * n ≤ z.c' * e = grind (arith, ints) in
    let rise = mul-lt-mul_of_pos_right z.rise ahead in
    let less : z.c' ≤ z.c = let fall = z.fall in omega arith in
    let fall = mul-le-mul_right e less in
    short_at 2 k z.s z.c n e (omega arith) z.sine z.cosine ∙ less_twice z.s z.c n e (omega arith)

not_short_twice : (k n e : ℕ) → k < 900 → has_turned (pos n) (pos e) k ≡ false → short 2 k n e ≡ false
not_short_twice k n e lt turned =
    let z = sizes k lt in
    let here : int_le (pos z.s *ℤ pos n) (pos z.c *ℤ pos e) ≡ false = rw (z.sine, z.cosine) at turned in
    short_at 2 k z.s z.c n e lt z.sine z.cosine ∙ not_less_twice z.s z.c n e (grind (arith, ints))

not_short_thrice : (k n e : ℕ) → k < 900 → short 3 k n e ≡ false
not_short_thrice k n e lt = let z = sizes k lt in short_at 3 k z.s z.c n e lt z.sine z.cosine ∙ not_less_thrice z.s z.c n e

-- ---- which bearings lie to port, by how many quarters lie between

joined_none : (turned astern : Bool) → (turned ≡ false → astern ≡ false) → (not turned && not astern) ≡ not turned
joined_none true astern h = refl
joined_none false astern h = ap not (h refl)

joined_twice : (short turned : Bool) → (turned ≡ true → short ≡ true) → (short && not (not turned)) ≡ turned
joined_twice short true h = ap (λ (b : Bool). b && true) (h refl)
joined_twice true false h = refl
joined_twice false false h = refl

module _ (d j k a : ℕ) (direction : d < 3600) (quarter : j < 4) (tenths : k < 900) (angle : a < 900) where
  lies_none : (900 * (0 + j) + k) % 3600 ≡ d → lies_to_port d (900 * j + a) ≡ not (nat_le k a)
  lies_none e = rw (relative_from (900 * j + a) d (omega arith) direction) (grind (arith, nat_tests))

  lies_once : (900 * (1 + j) + k) % 3600 ≡ d → lies_to_port d (900 * j + a) ≡ true
  lies_once e = rw (relative_from (900 * j + a) d (omega arith) direction) (grind (arith, nat_tests))

  lies_twice : (900 * (2 + j) + k) % 3600 ≡ d → lies_to_port d (900 * j + a) ≡ nat_le (k + 1) a
  lies_twice e = rw (relative_from (900 * j + a) d (omega arith) direction) (grind (arith, nat_tests))

  lies_thrice : (900 * (3 + j) + k) % 3600 ≡ d → lies_to_port d (900 * j + a) ≡ false
  lies_thrice e = rw (relative_from (900 * j + a) d (omega arith) direction) (grind (arith, nat_tests))

not_reached : (k a : ℕ) → 900 ≤ k + 1 → a < 900 → nat_le (k + 1) a ≡ false
not_reached k a last below = grind (arith, nat_tests)

module _ (d j k n e : ℕ) (direction : d < 3600) (quarter : j < 4) (tenths : k < 900) (ahead : 0 < n) where
  -- whether the vector falls short of the first tenth of a degree that is past right astern
  abbrev astern : Bool
  astern = int_lt (pos 0) (turn_of (unit_of ((d + 1801) % 3600)) (quarters_further j (record { x = pos e; y = pos n })))

  abbrev turned : ℕ → Bool
  turned m = has_turned (pos n) (pos e) m

  astern_at : (q m : ℕ) → q < 4 → m < 900 → (900 * (q + j) + m) % 3600 ≡ (d + 1801) % 3600 → astern ≡ short q m n e
  astern_at q m few lt same = ap (λ (z : ℤ). int_lt (pos 0) z) (turn_from ((d + 1801) % 3600) q j m (record { x = pos e; y = pos n }) few quarter lt same)

  turned_if : (m : ℕ) → m < 900 → turned m ≡ nat_le m (quarter_angle (pos n) (pos e))
  turned_if m lt = turned_by (pos n) (pos e) (omega (arith, ints)) (omega (arith, ints)) m lt

  later : (m i : ℕ) → m ≤ i → i < 900 → turned m ≡ false → turned i ≡ false
  later m i le lt not_yet = not_turned_later (pos n) (pos e) (omega (arith, ints)) (omega (arith, ints)) m not_yet i le lt

  past_none : (900 * (0 + j) + k) % 3600 ≡ d → turned k ≡ false → astern ≡ false
  past_none same not_yet =
      elim (cases_lt (k + 1) 900) [
        | inl more ↦ astern_at 2 (k + 1) (lit< tt) more (omega arith) ∙ not_short_twice (k + 1) n e more (later k (k + 1) (omega arith) more not_yet)
        | inr last ↦ astern_at 3 0 (lit< tt) (lit< tt) (omega arith) ∙ not_short_thrice 0 n e (lit< tt)
      ]

  past_once : (900 * (1 + j) + k) % 3600 ≡ d → astern ≡ false
  past_once same =
      elim (cases_lt (k + 1) 900) [
        | inl more ↦ astern_at 3 (k + 1) (lit< tt) more (omega arith) ∙ not_short_thrice (k + 1) n e more
        | inr last ↦ astern_at 0 0 (lit< tt) (lit< tt) (omega arith) ∙ (short_none 0 n e (lit< tt) ∙ ap not (turned_at_zero (pos n) (pos e) (omega (arith, ints)) (omega (arith, ints))))
      ]

  -- what the two turns show
  abbrev told : ℕ → Bool
  told q = short q k n e && not astern

  abbrev Ported : ℕ → Type 0
  Ported q = (900 * (q + j) + k) % 3600 ≡ d → told q ≡ lies_to_port d (900 * j + quarter_angle (pos n) (pos e))

  angle : quarter_angle (pos n) (pos e) < 900
  angle = angle_below (pos n) (pos e)

  ported_none : Ported 0
  ported_none same =
      ap (λ (b : Bool). b && not astern) (short_none k n e tenths) ∙ (joined_none (turned k) astern (past_none same)
      ∙ (ap not (turned_if k tenths) ∙ sym (lies_none d j k _ direction quarter tenths angle same)))

  ported_once : Ported 1
  ported_once same =
      ap (λ (b : Bool). b && not astern) (short_once k n e tenths ahead) ∙ (ap not (past_once same) ∙ sym (lies_once d j k _ direction quarter tenths angle same))

  ported_twice : Ported 2
  ported_twice same =
      elim (cases_lt (k + 1) 900) [
        | inl more ↦ (
            let next : suc k < 900 = omega arith in
            let one_on : turned (k + 1) ≡ turned (suc k) = ap (λ (m : ℕ). turned m) (omega arith) in
            ap (λ (b : Bool). short 2 k n e && not b) (astern_at 0 (k + 1) (lit< tt) more (omega arith) ∙ short_none (k + 1) n e more)
            ∙ (joined_twice (short 2 k n e) (turned (k + 1)) (λ h. short_twice k n e next ahead (sym one_on ∙ h))
            ∙ (turned_if (k + 1) more ∙ sym (lies_twice d j k _ direction quarter tenths angle same))))
        | inr last ↦ ap (λ (b : Bool). short 2 k n e && not b) (astern_at 1 0 (lit< tt) (lit< tt) (omega arith) ∙ short_once 0 n e (lit< tt) ahead)
            ∙ (and-false (short 2 k n e) ∙ sym (lies_twice d j k _ direction quarter tenths angle same ∙ not_reached k _ last angle))
      ]

  ported_thrice : Ported 3
  ported_thrice same = ap (λ (b : Bool). b && not astern) (not_short_thrice k n e tenths) ∙ sym (lies_thrice d j k _ direction quarter tenths angle same)

  ported : (q : ℕ) → q < 4 → Ported q
  ported zero few = ported_none
  ported (suc zero) few = ported_once
  ported (suc (suc zero)) few = ported_twice
  ported (suc (suc (suc zero))) few = ported_thrice
  ported (suc (suc (suc (suc q)))) few = absurd (omega arith)

-- A vector of n ahead and e to starboard of the beginning of the quarter j lies to port of a direction exactly if the two
-- turns show it.
port_from : (d j n e : ℕ) → d < 3600 → j < 4 → 0 < n
    → (int_lt (pos 0) (turn_of (unit_of d) (quarters_further j (record { x = pos e; y = pos n })))
    && not (int_lt (pos 0) (turn_of (unit_of ((d + 1801) % 3600)) (quarters_further j (record { x = pos e; y = pos n })))))
    ≡ lies_to_port d (900 * j + quarter_angle (pos n) (pos e))
port_from d j n e direction quarter ahead =
    let apart : ℕ = (d + 3600 - 900 * j) % 3600 in
    let same : (900 * (apart / 900 + j) + apart % 900) % 3600 ≡ d = omega arith in
    let few : apart / 900 < 4 = omega arith in
    let tenths : apart % 900 < 900 = omega arith in
    let here = turn_from d (apart / 900) j (apart % 900) (record { x = pos e; y = pos n }) few quarter tenths same in
    ap (λ (z : ℤ). int_lt (pos 0) z && not (int_lt (pos 0) (turn_of (unit_of ((d + 1801) % 3600)) (quarters_further j (record { x = pos e; y = pos n }))))) here
    ∙ ported d j (apart % 900) n e direction quarter tenths ahead (apart / 900) few same

told_in : (r : Point) (d j n e : ℕ) → d < 3600 → j < 4 → 0 < n → r ≡ quarters_further j (record { x = pos e; y = pos n }) → bearing_of r ≡ Some (900 * j + quarter_angle (pos n) (pos e))
    → Some (int_lt (pos 0) (turn_of (unit_of d) r) && not (int_lt (pos 0) (turn_of (unit_of ((d + 1801) % 3600)) r))) ≡ option_map (lies_to_port d) (bearing_of r)
told_in r d j n e direction quarter ahead place bearing =
    rw (bearing, place) (ap Some (port_from d j n e direction quarter ahead))

-- If a vector has a length, the two turns show whether its bearing lies to port.
port_by_turns : (r : Point) (d : ℕ) → d < 3600 → (r.x ≡ pos 0 → r.y ≡ pos 0 → ⊥)
    → Some (int_lt (pos 0) (turn_of (unit_of d) r) && not (int_lt (pos 0) (turn_of (unit_of ((d + 1801) % 3600)) r))) ≡ option_map (lies_to_port d) (bearing_of r)
port_by_turns r d direction some =
    by_lt_z (pos 0) r.y
    (λ north. by_lt_z r.x (pos 0) (λ west. fourth west (omega (arith, ints))) (λ east. first north east))
    (λ level. by_lt_z (pos 0) r.x (λ east. second east level)
    (λ not_east. by_lt_z r.y (pos 0) (λ south. third south not_east)
    (λ not_south. by_lt_z r.x (pos 0) (λ west. fourth west not_south) (λ not_west. absurd (some (omega (arith, ints)) (omega (arith, ints)))))))
  where
    Told : Type 0
    Told = Some (int_lt (pos 0) (turn_of (unit_of d) r) && not (int_lt (pos 0) (turn_of (unit_of ((d + 1801) % 3600)) r))) ≡ option_map (lies_to_port d) (bearing_of r)

    first : pos 0 <ℤ r.y → pos 0 ≤ℤ r.x → Told
    first north east =
        let n : pos (unsigned_abs r.y) ≡ r.y = omega (arith, ints) in
        let e : pos (unsigned_abs r.x) ≡ r.x = omega (arith, ints) in
        told_in r d 0 (unsigned_abs r.y) (unsigned_abs r.x) direction (lit< tt) (omega (arith, ints)) (rw (n, e) refl) (first_quarter r _ _ north east n e)

    second : pos 0 <ℤ r.x → r.y ≤ℤ pos 0 → Told
    second east south =
        let n : pos (unsigned_abs r.x) ≡ r.x = omega (arith, ints) in
        let e : pos (unsigned_abs r.y) ≡ neg_ℤ r.y = omega (arith, ints) in
        told_in r d 1 (unsigned_abs r.x) (unsigned_abs r.y) direction (lit< tt) (omega (arith, ints)) (rw (n, e, neg_ℤ-neg_ℤ) refl) (second_quarter r _ _ east south n e)

    third : r.y <ℤ pos 0 → r.x ≤ℤ pos 0 → Told
    third south west =
        let n : pos (unsigned_abs r.y) ≡ neg_ℤ r.y = omega (arith, ints) in
        let e : pos (unsigned_abs r.x) ≡ neg_ℤ r.x = omega (arith, ints) in
        told_in r d 2 (unsigned_abs r.y) (unsigned_abs r.x) direction (lit< tt) (omega (arith, ints)) (rw (n, e, neg_ℤ-neg_ℤ r.x, neg_ℤ-neg_ℤ r.y) refl) (third_quarter r _ _ south west n e)

    fourth : r.x <ℤ pos 0 → pos 0 ≤ℤ r.y → Told
    fourth west north =
        let n : pos (unsigned_abs r.x) ≡ neg_ℤ r.x = omega (arith, ints) in
        let e : pos (unsigned_abs r.y) ≡ r.y = omega (arith, ints) in
        told_in r d 3 (unsigned_abs r.x) (unsigned_abs r.y) direction (lit< tt) (omega (arith, ints)) (rw (n, e, neg_ℤ-neg_ℤ r.x, neg_ℤ-neg_ℤ r.y) refl) (fourth_quarter r _ _ west north n e)

-- ---- the same turns from the beginning of the direction's quarter

-- A quarter is over where the next one begins.
quarter_over : quarter_of 900 ≡ quarter_further (quarter_of 0)
unfolding eighth_of compass_direction rounded
quarter_over = refl

half_turn : (a b : Point) → turn_of (quarters_further 2 a) b ≡ neg_ℤ (turn_of a b)
half_turn a b = rw (← diff_of a.x, ← diff_of a.y, ← diff_of b.x, ← diff_of b.y) (simp polynomials (diff_same _ _ _ _ (omega arith)))

-- The turn from a direction, and the one from the first tenth of a degree past its opposite, if the vector is turned back.
seen_ahead : (r seen : Point) (d : ℕ) → quarters_further (d / 900) seen ≡ r → turn_of (unit_of d) r ≡ turn_of (quarter_of (d % 900)) seen
unfolding unit_of
seen_ahead r seen d place = ap (λ (p : Point). turn_of (quarters_further (d / 900) (quarter_of (d % 900))) p) (sym place) ∙ turn_back 0 (d / 900) (d / 900) (quarter_of (d % 900)) seen (omega arith)

seen_astern : (r seen : Point) (d : ℕ) → d < 3600 → quarters_further (d / 900) seen ≡ r
    → turn_of (unit_of ((d + 1801) % 3600)) r ≡ neg_ℤ (turn_of (quarter_of (d % 900 + 1)) seen)
seen_astern r seen d direction place =
    ap (λ (p : Point). turn_of (unit_of ((d + 1801) % 3600)) p) (sym place) ∙ elim (cases_lt (d % 900 + 1) 900) [
      | inl more ↦ turn_from ((d + 1801) % 3600) 2 (d / 900) (d % 900 + 1) seen (lit< tt) (omega arith) more (omega arith) ∙ half_turn (quarter_of (d % 900 + 1)) seen
      | inr last ↦ (
          let whole : 900 ≡ d % 900 + 1 = omega arith in
          turn_from ((d + 1801) % 3600) 3 (d / 900) 0 seen (lit< tt) (omega arith) (lit< tt) (omega arith)
          ∙ (half_turn (quarter_further (quarter_of 0)) seen ∙ ap (λ (p : Point). neg_ℤ (turn_of p seen)) (sym quarter_over ∙ ap quarter_of whole)))
    ]

not_less : (z : ℤ) → not (int_lt (pos 0) (neg_ℤ z)) ≡ int_le (pos 0) z
not_less z = grind (arith, ints)

pub port_by_tenths : (r seen : Point) (d : ℕ) → d < 3600 → (r.x ≡ pos 0 → r.y ≡ pos 0 → ⊥) → quarters_further (d / 900) seen ≡ r
    → Some (int_lt (pos 0) (turn_of (quarter_of (d % 900)) seen) && int_le (pos 0) (turn_of (quarter_of (d % 900 + 1)) seen)) ≡ option_map (lies_to_port d) (bearing_of r)
port_by_tenths r seen d direction some place =
    rw (← seen_ahead r seen d place, ← not_less (turn_of (quarter_of (d % 900 + 1)) seen), ← seen_astern r seen d direction place) (port_by_turns r d direction some)
