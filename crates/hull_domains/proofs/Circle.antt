-- A shape lies in a circle about the vessel: a place that is inside every edge is no farther from her than the way to a vertex, forward or aft and then
-- abeam. Were it, each vertex seen from there would lie on the vessel's side of it; but from a place inside they stand all around.
use Rattle.std.proofs.Common.{ℕ, zero, suc, ◌≡◌, ◌∙◌, ◌+◌, ◌*◌, ◌%◌, ◌≤◌, ◌<◌, List, inl, inr, ℤ, pos, negsuc, neg_ℤ, ◌+ℤ◌, ◌-ℤ◌, ◌*ℤ◌, ◌≤ℤ◌, ◌<ℤ◌, unsigned_abs, arith, ap, ap₂, sym, subst, mul-le-mul, refl}
use Rattle.std.proofs.lemmas.Bool.{cases_lt}
use Rattle.std.proofs.lemmas.Int.{ints, by_lt_z}
use Rattle.closest_approach.specs.Separation.{displacement_at, IsSeparated}
use Rattle.fixed_geometry.specs.Compass.{unit_of}
use Rattle.closest_approach.proofs.Identity.{lagrange}
use Rattle.fixed_geometry.specs.Plane.{dot_of, norm2_of, turn_of}
use Rattle.fixed_geometry.specs.declared.point.Point.{Point}
use Rattle.fixed_geometry.proofs.ForCallers.{polynomials, diff_of, diff_same}
use Rattle.motion.specs.Steps.{RelativeMove}
use Rattle.hull_domains.specs.Domains.{place_at, side_at, IsInside, StaysOutside}
use Rattle.hull_domains.specs.Inner.Ways.{way_to}
use Rattle.hull_domains.specs.Shapes.{edge_of, vertex_of}
use Rattle.hull_domains.proofs.EdgeSides.{unit_further}
use Rattle.hull_domains.proofs.Fractions.{chain_lt_le, times-lt}

-- ---- six fractions cannot fall all around

-- A fraction is followed by a lesser one.
unfoldable pub Falls : ℤ → ℕ → ℤ → ℕ → Type 0
Falls over under next_over next_under = (next_over *ℤ pos under) <ℤ (over *ℤ pos next_under)

-- a denominator between two that fall is not 0
some_under : (x y z : ℤ) (k l m : ℕ) → Falls x k y l → Falls y l z m → 0 < l
unfolding Falls
some_under x y z k (suc l) m first second = omega arith
some_under x (pos n) z k zero m first second = absurd (omega (arith, ints))
some_under x (negsuc n) z k zero m first second = absurd (omega (arith, ints))

falls_on : (x y z : ℤ) (k l m : ℕ) → 0 < k → Falls x k y l → Falls y l z m → Falls x k z m
unfolding Falls
falls_on x y z k l m some first second = chain_lt_le z y x m l k some second (weaker _ _ first)
  where
    weaker : (u v : ℤ) → u <ℤ v → u ≤ℤ v
    weaker u v h = omega (arith, ints)

all_around : (x0 x1 x2 x3 x4 x5 : ℤ) (k0 k1 k2 k3 k4 k5 : ℕ)
    → Falls x0 k0 x1 k1 → Falls x1 k1 x2 k2 → Falls x2 k2 x3 k3 → Falls x3 k3 x4 k4 → Falls x4 k4 x5 k5 → Falls x5 k5 x0 k0 → ⊥
unfolding Falls
all_around x0 x1 x2 x3 x4 x5 k0 k1 k2 k3 k4 k5 f0 f1 f2 f3 f4 f5 =
    let some = some_under x5 x0 x1 k5 k0 k1 f5 f0 in
    let g1 = falls_on x0 x1 x2 k0 k1 k2 some f0 f1 in
    let g2 = falls_on x0 x2 x3 k0 k2 k3 some g1 f2 in
    let g3 = falls_on x0 x3 x4 k0 k3 k4 some g2 f3 in
    let g4 = falls_on x0 x4 x5 k0 k4 k5 some g3 f4 in
    never x0 k0 (falls_on x0 x5 x0 k0 k5 k0 some g4 f5)
  where
    never : (x : ℤ) (k : ℕ) → Falls x k x k → ⊥
    never x k h = omega (arith, ints)

-- ---- a vertex lies on the vessel's side of a place that is far from her

root_le : (x m : ℕ) → x * x ≤ m * m → x ≤ m
root_le x m h = elim (cases_lt m x) [
  | inl over ↦ (let next : m + 1 ≤ x = omega arith in let square = mul-le-mul next next in absurd (omega arith))
  | inr le ↦ le
]

square_of_size : (z : ℤ) → z *ℤ z ≡ pos (unsigned_abs z * unsigned_abs z)
square_of_size (pos n) = omega (arith, ints)
square_of_size (negsuc n) = omega (arith, ints)

less_square : (x y s : ℕ) → x + y ≤ s → x * x + y * y ≤ s * s
less_square x y s h = let all = mul-le-mul h h in omega arith

-- b * d ≤ m, if d^2 ≤ m w, w ≤ s^2 and b^2 s^2 ≤ m
scaled : (b d m w s : ℕ) → d * d ≤ m * w → w ≤ s * s → b * b * (s * s) ≤ m → b * d ≤ m
scaled b d m w s product within far =
    let first : b * b * (d * d) ≤ b * b * (m * w) = mul-le-mul (same (b * b)) product in
    let second : b * b * w ≤ b * b * (s * s) = mul-le-mul (same (b * b)) within in
    let third : m * (b * b * w) ≤ m * m = mul-le-mul (same m) (omega arith) in
    root_le (b * d) m (omega arith)
  where
    same : (n : ℕ) → n ≤ n
    same n = omega arith

-- the product of two vectors, if one is short
less_product : (px py x y : ℤ) (m s : ℕ) → px *ℤ px +ℤ py *ℤ py ≡ pos m → unsigned_abs x + unsigned_abs y ≤ s
    → unsigned_abs (px *ℤ x +ℤ py *ℤ y) * unsigned_abs (px *ℤ x +ℤ py *ℤ y) ≤ m * (unsigned_abs x * unsigned_abs x + unsigned_abs y * unsigned_abs y)
less_product px py x y m s is near =
    compared (px *ℤ x +ℤ py *ℤ y) (px *ℤ y -ℤ py *ℤ x) (px *ℤ px +ℤ py *ℤ py) (x *ℤ x +ℤ y *ℤ y) m (unsigned_abs x * unsigned_abs x + unsigned_abs y * unsigned_abs y) is
    (ap₂ ◌+ℤ◌ (square_of_size x) (square_of_size y)) (lagrange x y px py)
  where
    compared : (d t q r : ℤ) (m w : ℕ) → q ≡ pos m → r ≡ pos w → r *ℤ q ≡ d *ℤ d +ℤ t *ℤ t → unsigned_abs d * unsigned_abs d ≤ m * w
    compared d t q r m w q_is r_is e =
        let f : pos w *ℤ pos m ≡ pos (unsigned_abs d * unsigned_abs d) +ℤ pos (unsigned_abs t * unsigned_abs t) =
        sym (ap₂ ◌*ℤ◌ r_is q_is) ∙ (e ∙ ap₂ ◌+ℤ◌ (square_of_size d) (square_of_size t)) in
        omega (arith, ints)

-- as it is seen from there
seen : Point → ℕ → ℤ × ℤ → Point
seen place b vertex = record { x = pos b *ℤ vertex.0 -ℤ place.x; y = pos b *ℤ vertex.1 -ℤ place.y }

on_this_side : (place : Point) (b m s : ℕ) (vertex : ℤ × ℤ) → norm2_of place ≡ pos m → way_to vertex ≤ s → b * b * (s * s) ≤ m
    → dot_of place (seen place b vertex) ≡ neg_ℤ (pos (unsigned_abs (dot_of place (seen place b vertex))))
unfolding seen
on_this_side place b m s vertex is near far =
    let d : ℤ = place.x *ℤ vertex.0 +ℤ place.y *ℤ vertex.1 in
    let product = less_product place.x place.y vertex.0 vertex.1 m s is near in
    let short = less_square (unsigned_abs vertex.0) (unsigned_abs vertex.1) s near in
    let most : b * unsigned_abs d ≤ m = scaled b (unsigned_abs d) m (unsigned_abs vertex.0 * unsigned_abs vertex.0 + unsigned_abs vertex.1 * unsigned_abs vertex.1) s product short far in
    below (dot_of place (seen place b vertex)) (norm2_of place) d b m is (split place.x place.y vertex.0 vertex.1 b) most
  where
    split : (px py x y : ℤ) (b : ℕ) → px *ℤ (pos b *ℤ x -ℤ px) +ℤ py *ℤ (pos b *ℤ y -ℤ py) ≡ pos b *ℤ (px *ℤ x +ℤ py *ℤ y) -ℤ (px *ℤ px +ℤ py *ℤ py)
    split px py x y b = rw (← diff_of px, ← diff_of py, ← diff_of x, ← diff_of y) (simp polynomials (diff_same _ _ _ _ (omega arith)))

    times : (b : ℕ) (d : ℤ) → (pos b *ℤ d) ≤ℤ pos (b * unsigned_abs d)
    times b (pos n) = omega (arith, ints)
    times b (negsuc n) = omega (arith, ints)

    below : (z q d : ℤ) (b m : ℕ) → q ≡ pos m → z ≡ pos b *ℤ d -ℤ q → b * unsigned_abs d ≤ m → z ≡ neg_ℤ (pos (unsigned_abs z))
    below z q d b m is e most =
        let h = times b d in
        omega (arith, ints)

-- ---- seen from inside, the vertices stand all around

turned : (px py ux uy wx wy : ℤ) → (ux *ℤ wy -ℤ uy *ℤ wx) *ℤ (px *ℤ px +ℤ py *ℤ py)
    ≡ (px *ℤ ux +ℤ py *ℤ uy) *ℤ (px *ℤ wy -ℤ py *ℤ wx) -ℤ (px *ℤ uy -ℤ py *ℤ ux) *ℤ (px *ℤ wx +ℤ py *ℤ wy)
turned px py ux uy wx wy = rw (← diff_of px, ← diff_of py, ← diff_of ux, ← diff_of uy, ← diff_of wx, ← diff_of wy) (simp polynomials (diff_same _ _ _ _ (omega arith)))

turn_seen : (px py x y u v : ℤ) (b : ℕ) → (pos b *ℤ x -ℤ px) *ℤ (pos b *ℤ v -ℤ py) -ℤ (pos b *ℤ y -ℤ py) *ℤ (pos b *ℤ u -ℤ px)
    ≡ neg_ℤ (pos b *ℤ ((px -ℤ pos b *ℤ x) *ℤ (v -ℤ y) -ℤ (py -ℤ pos b *ℤ y) *ℤ (u -ℤ x)))
turn_seen px py x y u v b = rw (← diff_of px, ← diff_of py, ← diff_of x, ← diff_of y, ← diff_of u, ← diff_of v) (simp polynomials (diff_same _ _ _ _ (omega arith)))

falls_by : (turn q along next_along across next_across : ℤ) (m k l : ℕ) → 0 < m → q ≡ pos m → along ≡ neg_ℤ (pos k) → next_along ≡ neg_ℤ (pos l) → pos 0 <ℤ turn
    → turn *ℤ q ≡ along *ℤ next_across -ℤ across *ℤ next_along → Falls across k next_across l
unfolding Falls
falls_by turn q along next_along across next_across m k l some is here there turns e =
    let f : pos m *ℤ turn ≡ neg_ℤ (next_across *ℤ pos k) +ℤ across *ℤ pos l =
    exchanged turn m ∙ (sym (ap (λ (z : ℤ). turn *ℤ z) is) ∙ (e ∙ (ap₂ (λ (x y : ℤ). x *ℤ next_across -ℤ across *ℤ y) here there ∙ signs next_across across k l))) in
    let g = times-lt m (pos 0) turn some turns in
    omega (arith, ints)
  where
    exchanged : (z : ℤ) (m : ℕ) → pos m *ℤ z ≡ z *ℤ pos m
    exchanged z m = omega (arith, ints)

    signs : (x y : ℤ) (k l : ℕ) → neg_ℤ (pos k) *ℤ x -ℤ y *ℤ neg_ℤ (pos l) ≡ neg_ℤ (x *ℤ pos k) +ℤ y *ℤ pos l
    signs x y k l = rw (← diff_of x, ← diff_of y) (simp polynomials (diff_same _ _ _ _ (omega arith)))

-- how far it is seen behind the place, and how far aside
along : Point → ℕ → ℤ × ℤ → ℕ
along place b vertex = unsigned_abs (dot_of place (seen place b vertex))

across : Point → ℕ → ℤ × ℤ → ℤ
across place b vertex = turn_of place (seen place b vertex)

module _ (place : Point) (b m s : ℕ) (some : 0 < m) (scale : 0 < b) (is : norm2_of place ≡ pos m) (far : b * b * (s * s) ≤ m) where
  falls_along : (vertex next : ℤ × ℤ) → way_to vertex ≤ s → way_to next ≤ s
      → turn_of (record { x = place.x -ℤ pos b *ℤ vertex.0; y = place.y -ℤ pos b *ℤ vertex.1 }) (record { x = next.0 -ℤ vertex.0; y = next.1 -ℤ vertex.1 }) <ℤ pos 0
      → Falls (across place b vertex) (along place b vertex) (across place b next) (along place b next)
  unfolding seen along across
  falls_along vertex next near next_near inside =
      let one = seen place b vertex in
      let other = seen place b next in
      let turns : pos 0 <ℤ turn_of one other = positive _ _ b scale (turn_seen place.x place.y vertex.0 vertex.1 next.0 next.1 b) inside in
      falls_by (turn_of one other) (norm2_of place) (dot_of place one) (dot_of place other) (turn_of place one) (turn_of place other) m (along place b vertex) (along place b next) some is
      (on_this_side place b m s vertex is near far) (on_this_side place b m s next is next_near far) turns (turned place.x place.y one.x one.y other.x other.y)
    where
      positive : (t z : ℤ) (b : ℕ) → 0 < b → t ≡ neg_ℤ (pos b *ℤ z) → z <ℤ pos 0 → pos 0 <ℤ t
      positive t z b some e h = let g = times-lt b z (pos 0) some h in omega (arith, ints)

-- ---- a place inside a shape

-- If every way to a vertex is at most `s`, a place inside is nearer than that.
pub near_inside : (step : RelativeMove) (direction : ℕ) (shape : List (ℤ × ℤ)) (a b s : ℕ) → 0 < b → 0 < s → ((k : ℕ) → k < 6 → way_to (vertex_of shape k) ≤ s)
    → IsInside step direction shape a b → norm2_of (place_at step direction a b) <ℤ pos ((b * 10000000000) * (b * 10000000000) * (s * s))
unfolding IsInside side_at edge_of
near_inside step direction shape a b s some long near inside =
    let place : Point = place_at step direction a b in
    let scale : ℕ = b * 10000000000 in
    by_lt_z (norm2_of place) (pos (scale * scale * (s * s))) (λ nearer. nearer) (λ far. absurd (beyond place scale (unsigned_abs (norm2_of place)) (omega arith) (size (norm2_of place) _ far) (reaches (norm2_of place) _ far)
    (vertex_of shape) near inside))
  where
    size : (z : ℤ) (n : ℕ) → pos n ≤ℤ z → z ≡ pos (unsigned_abs z)
    size z n h = omega (arith, ints)

    reaches : (z : ℤ) (n : ℕ) → pos n ≤ℤ z → n ≤ unsigned_abs z
    reaches z n h = omega (arith, ints)

    beyond : (place : Point) (scale m : ℕ) → 0 < scale → norm2_of place ≡ pos m → scale * scale * (s * s) ≤ m → (vertex : ℕ → ℤ × ℤ) → ((k : ℕ) → k < 6 → way_to (vertex k) ≤ s)
        → ((k : ℕ) → k < 6 → turn_of (record { x = place.x -ℤ pos scale *ℤ (vertex k).0; y = place.y -ℤ pos scale *ℤ (vertex k).1 })
        (record { x = (vertex ((k + 1) % 6)).0 -ℤ (vertex k).0; y = (vertex ((k + 1) % 6)).1 -ℤ (vertex k).1 }) <ℤ pos 0) → ⊥
    beyond place scale m wide is far vertex near inside =
        let whole : 1 * 1 * (1 * 1) ≤ scale * scale * (s * s) = mul-le-mul (mul-le-mul wide wide) (mul-le-mul long long) in
        let falls : (k next : ℕ) → k < 6 → next < 6 → (k + 1) % 6 ≡ next
        → Falls (across place scale (vertex k)) (along place scale (vertex k)) (across place scale (vertex next)) (along place scale (vertex next)) = λ k next lt next_lt e.
        falls_along place scale m s (omega arith) wide is far (vertex k) (vertex next) (near k lt) (near next next_lt)
        (subst (λ (n : ℕ). turn_of (record { x = place.x -ℤ pos scale *ℤ (vertex k).0; y = place.y -ℤ pos scale *ℤ (vertex k).1 })
        (record { x = (vertex n).0 -ℤ (vertex k).0; y = (vertex n).1 -ℤ (vertex k).1 }) <ℤ pos 0) e (inside k lt)) in
        all_around (across place scale (vertex 0)) (across place scale (vertex 1)) (across place scale (vertex 2)) (across place scale (vertex 3)) (across place scale (vertex 4)) (across place scale (vertex 5))
        (along place scale (vertex 0)) (along place scale (vertex 1)) (along place scale (vertex 2)) (along place scale (vertex 3)) (along place scale (vertex 4)) (along place scale (vertex 5))
        (falls 0 1 (omega arith) (omega arith) refl) (falls 1 2 (omega arith) (omega arith) refl) (falls 2 3 (omega arith) (omega arith) refl)
        (falls 3 4 (omega arith) (omega arith) refl) (falls 4 5 (omega arith) (omega arith) refl) (falls 5 0 (omega arith) (omega arith) refl)

-- ---- a step that stays out of the circle

-- If the radius is `s` metres and more, by the length of the vector ahead, a step that is separated by it stays outside the shape.
pub out_of_the_circle : (step : RelativeMove) (direction : ℕ) (shape : List (ℤ × ℤ)) (s r : ℕ) → direction < 3600 → 0 < s → ((k : ℕ) → k < 6 → way_to (vertex_of shape k) ≤ s)
    → pos (s * s * 100000000000000000000) ≤ℤ (pos (r * r) *ℤ norm2_of (unit_of direction)) → IsSeparated step r → StaysOutside step direction shape
unfolding IsSeparated
out_of_the_circle step direction shape s r lt long near covers apart a b le some inside =
    let at : Point = displacement_at step a b in
    let nearer = near_inside step direction shape a b s some long near inside in
    let away = apart a b le some in
    let n2 = size (norm2_of (unit_of direction)) (square_size (unit_of direction).x (unit_of direction).y) in
    let d2 = size (norm2_of at) (square_size at.x at.y) in
    let place : norm2_of (place_at step direction a b) ≡ norm2_of at *ℤ norm2_of (unit_of direction) =
    ap (λ (abeam : Point). norm2_of (record { x = neg_ℤ (dot_of at (unit_of direction)); y = neg_ℤ (dot_of at abeam) })) (unit_further direction lt) ∙ turned_about at.x at.y (unit_of direction).x (unit_of direction).y in
    too_near (norm2_of at) (norm2_of (unit_of direction)) (norm2_of (place_at step direction a b)) (unsigned_abs (norm2_of at)) (unsigned_abs (norm2_of (unit_of direction))) b s r d2 n2 place nearer covers away
  where
    size : (z : ℤ) → pos 0 ≤ℤ z → z ≡ pos (unsigned_abs z)
    size z h = omega (arith, ints)

    square_size : (x y : ℤ) → pos 0 ≤ℤ (x *ℤ x +ℤ y *ℤ y)
    square_size x y = let e = ap₂ ◌+ℤ◌ (square_of_size x) (square_of_size y) in omega (arith, ints)

    turned_about : (x y u v : ℤ) → neg_ℤ (x *ℤ u +ℤ y *ℤ v) *ℤ neg_ℤ (x *ℤ u +ℤ y *ℤ v) +ℤ neg_ℤ (x *ℤ v +ℤ y *ℤ neg_ℤ u) *ℤ neg_ℤ (x *ℤ v +ℤ y *ℤ neg_ℤ u)
        ≡ (x *ℤ x +ℤ y *ℤ y) *ℤ (u *ℤ u +ℤ v *ℤ v)
    turned_about x y u v = rw (← diff_of x, ← diff_of y, ← diff_of u, ← diff_of v) (simp polynomials (diff_same _ _ _ _ (omega arith)))

    same : (n : ℕ) → n ≤ n
    same n = omega arith

    natural : (m n : ℕ) → pos m *ℤ pos n ≡ pos (m * n)
    natural m n = omega (arith, ints)

    less : (z : ℤ) (m n : ℕ) → z ≡ pos m → z <ℤ pos n → m < n
    less z m n e h = omega (arith, ints)

    at_most : (m : ℕ) (z : ℤ) (n : ℕ) → z ≡ pos n → pos m ≤ℤ z → m ≤ n
    at_most m z n e h = omega (arith, ints)

    too_near : (d n p : ℤ) (e m b s r : ℕ) → d ≡ pos e → n ≡ pos m → p ≡ d *ℤ n → p <ℤ pos ((b * 10000000000) * (b * 10000000000) * (s * s))
        → pos (s * s * 100000000000000000000) ≤ℤ (pos (r * r) *ℤ n) → (pos (b * b) *ℤ pos (r * r)) ≤ℤ d → ⊥
    too_near d n p e m b s r is_d is_n product nearer covers away =
        let h : e * m < (b * 10000000000) * (b * 10000000000) * (s * s) = less p (e * m) _ (product ∙ (ap₂ ◌*ℤ◌ is_d is_n ∙ natural e m)) nearer in
        let f : s * s * 100000000000000000000 ≤ r * r * m = at_most _ (pos (r * r) *ℤ n) (r * r * m) (ap (λ (z : ℤ). pos (r * r) *ℤ z) is_n ∙ natural (r * r) m) covers in
        let g : b * b * (r * r) ≤ e = at_most _ d e is_d (subst (λ (z : ℤ). z ≤ℤ d) (natural (b * b) (r * r)) away) in
        let first : b * b * (s * s * 100000000000000000000) ≤ b * b * (r * r * m) = mul-le-mul (same (b * b)) f in
        let second : b * b * (r * r) * m ≤ e * m = mul-le-mul g (same m) in
        omega arith
