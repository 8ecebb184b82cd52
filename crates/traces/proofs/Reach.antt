-- Vessels from west to east, and which of them are too far to the east to be in contact.
use Rattle.std.proofs.Common.{ℕ, zero, suc, ◌≡◌, ◌+◌, ◌*◌, ◌<◌, ◌≤◌, ◌⊎◌, inl, inr, length, get_or, drop, ℤ, pos, negsuc, ◌+ℤ◌, ◌-ℤ◌, ◌*ℤ◌, ◌≤ℤ◌, Bool, true, false, cond, refl, ap, sym, subst, ◌∙◌, arith}
use Rattle.std.proofs.lemmas.Int.{ints}
use Rattle.std.proofs.lemmas.List.{get_or-drop, get_or_default, length-drop}
use Rattle.std.proofs.lemmas.List.Sorted.{ranks_by, sorted_far}
use Rattle.std.proofs.lemmas.Cmp.{int_cmp_total}
use Rattle.std.proofs.lemmas.Nat.{mul-lt}
use Rattle.std.proofs.Math.Nat.{max-le}
use Rattle.std.specs.Prelude.{IsTrue, unsigned_abs, int_lt}
use Rattle.std.specs.declared.cmp.Ordering.{Ordering}
use Rattle.std.specs.declared.cmp.Ordering.TheVariants.{Less, Equal, Greater}
use Rattle.std.specs.List.Sorted.{IsSortedByKey}
use Rattle.std.specs.Ordering.{int_cmp, is_lt}
use Rattle.fixed_geometry.specs.Displacement.{displacement}
use Rattle.fixed_geometry.specs.Plane.{norm2_of}
use Rattle.fixed_geometry.specs.declared.point.Point.{Point}
use Rattle.meetings.specs.Traces.{IsContact}
use Rattle.meetings.specs.declared.pair.Pair.{Pair}
use Rattle.motion.specs.declared.leg.TickState.{TickState}
use Rattle.traces.specs.Audited.{SeenVessels}
use Rattle.traces.specs.Inner.Distances.{component_distance_of}
use Rattle.traces.specs.Inner.Pairing.{AreWestToEast, HasPairWith, MakePair}
use Rattle.traces.proofs.FoundPairs.{joins_one}

-- ---- after a sort

not_less : (b : Bool) (otherwise : Ordering) → is_lt (cond b Less otherwise) ≡ false → b ≡ false
not_less true otherwise h = h
not_less false otherwise h = refl

int_lt-false : (x y : ℤ) → int_lt x y ≡ false → y ≤ℤ x
int_lt-false x y h = grind (arith, ints)

no_less : (x y : ℤ) → is_lt (int_cmp x y) ≡ false → y ≤ℤ x
no_less x y h = int_lt-false x y (not_less (int_lt x y) (cond (int_lt y x) Greater Equal) h)

pub in_order : (vessels : SeenVessels) → IsSortedByKey (λ (vessel : ℕ × TickState). vessel.1.point.x) int_cmp vessels → AreWestToEast vessels
in_order vessels up i j d lt within =
    no_less _ _ (sorted_far (λ (a b : ℕ × TickState). is_lt (int_cmp a.1.point.x b.1.point.x)) (ranks_by int_cmp_total (λ (vessel : ℕ × TickState). vessel.1.point.x)) vessels up i j d (omega arith) within)

-- ---- too far to the east

square_size : (z : ℤ) → z *ℤ z ≡ pos (unsigned_abs z * unsigned_abs z)
square_size (pos n) = omega (arith, ints)
square_size (negsuc n) = omega (arith, ints)

le_or_lt : (a b : ℕ) → (a ≤ b) ⊎ (b < a)
le_or_lt a b = grind arith

root_le : (a b : ℕ) → a * a ≤ b * b → a ≤ b
root_le a b h =
    elim (le_or_lt a b) [
      | inl le ↦ le
      | inr lt ↦ absurd (let over : b * b < a * a = mul-lt b b a a lt lt in omega arith)
    ]

within : (x y : ℤ) (watch : ℕ) → (x *ℤ x +ℤ y *ℤ y) ≤ℤ pos (watch * watch) → unsigned_abs x ≤ watch
within x y watch h =
    let ex = square_size x in
    let ey = square_size y in
    root_le (unsigned_abs x) watch (omega (arith, ints))

near_x : (watch : ℕ) (a b : TickState) → IsContact watch a b → unsigned_abs (b.point.x -ℤ a.point.x) ≤ watch
near_x watch a b h = within (b.point.x -ℤ a.point.x) (b.point.y -ℤ a.point.y) watch h

too_far : (watch : ℕ) (v u w : ℕ × TickState) (pair : Pair) → u.1.point.x ≤ℤ w.1.point.x → ¬ ((u.1.point.x -ℤ v.1.point.x) ≤ℤ pos watch) → ¬ MakePair watch v w pair
too_far watch v u w pair east far (inl joined) = let near = near_x watch v.1 w.1 joined.near in far (omega (arith, ints))
too_far watch v u w pair east far (inr joined) = let near = near_x watch w.1 v.1 joined.near in far (omega (arith, ints))

-- those from an index on are no further to the west than the one there
east_of : (vessels : SeenVessels) (k m : ℕ) (d : ℕ × TickState) → AreWestToEast vessels → k + m < length vessels → (get_or vessels k d).1.point.x ≤ℤ (get_or vessels (k + m) d).1.point.x
east_of vessels k zero d up lt = let same : k ≡ k + zero = omega arith in let e = ap (λ (j : ℕ). (get_or vessels j d).1.point.x) same in omega (arith, ints)
east_of vessels k (suc m) d up lt = up k (k + suc m) d (omega arith) lt

pub none_in_reach : (watch : ℕ) (v : ℕ × TickState) (others : SeenVessels) (k : ℕ) (d : ℕ × TickState) → AreWestToEast others → k < length others
    → (((get_or others k d).1.point.x -ℤ v.1.point.x) ≤ℤ pos watch → IsTrue false) → (pair : Pair) → ¬ HasPairWith watch v (drop k others) pair
none_in_reach watch v others k d up lt untrue pair h =
    let far : ¬ (((get_or others k d).1.point.x -ℤ v.1.point.x) ≤ℤ pos watch) = λ near. let e : false ≡ true = untrue near in absurd (cc) in
    let found = joins_one watch v (drop k others) pair h in
    let m = found.has.0 in
    let long = length-drop k others in
    let inside : k + m < length others = let lt' = found.has.1 in omega arith in
    let is : get_or others (k + m) d ≡ found.one = get_or_default others (k + m) d found.one inside ∙ sym (get_or-drop k others m found.one) ∙ found.has.2 in
    let east = east_of others k m d up inside in
    too_far watch v (get_or others k d) (get_or others (k + m) d) pair east far (subst (λ (x : ℕ × TickState). MakePair watch v x pair) (sym is) found.pairs)

-- ---- too far in one component

pub far_apart : (watch : ℕ) (a b : Point) → watch < component_distance_of a b → ¬ (norm2_of (displacement a b) ≤ℤ pos (watch * watch))
far_apart watch a b over h =
    let east = within (b.x -ℤ a.x) (b.y -ℤ a.y) watch h in
    let north = within (b.y -ℤ a.y) (b.x -ℤ a.x) watch (omega (arith, ints, h)) in
    let near : component_distance_of a b ≤ watch = max-le east north in
    omega (arith, over, near)
