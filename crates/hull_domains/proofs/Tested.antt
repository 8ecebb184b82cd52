-- The test of a shape decides it.
use Rattle.std.proofs.Common.{◌≡◌, ◌==◌, ◌&&◌, ℕ, ◌+◌, ◌%◌, ◌<◌, ◌≤◌, nat_le, Bool, true, false, List, length, refl, Some, None, arith}
use Rattle.std.specs.Prelude.{ℤ, int_lt, ◌<ℤ◌, unsigned_abs, if◌then◌else◌}
use Rattle.std.specs.Bool.{Decides}
use Rattle.std.specs.List.{list_all}
use Rattle.std.proofs.lemmas.Bool.Decides.{Decides-and, Decides-below_and, Decides-by_and, Decides-eqb, nat_tests}
use Rattle.std.proofs.lemmas.Int.{ints}
use Rattle.hull_domains.specs.Shapes.{are_around, edge_of, has_inside, is_near_vertex, is_shape, shape_of, turns, HasInside, IsNearVertex, IsShape, Turns}

le_tells : (m n : ℕ) → Decides (nat_le m n) (m ≤ n)
le_tells m n = (λ e. grind (arith, nat_tests), λ h. grind (arith, nat_tests))

lt_tells : (x y : ℤ) → Decides (int_lt x y) (x <ℤ y)
lt_tells x y = (λ e. grind (arith, ints), λ h. grind (arith, ints))

near_tells : (vertex : ℤ × ℤ) → Decides (is_near_vertex vertex) (IsNearVertex vertex)
near_tells vertex = Decides-and (nat_le (unsigned_abs vertex.0) 2000) (nat_le (unsigned_abs vertex.1) 2000) (le_tells (unsigned_abs vertex.0) 2000) (le_tells (unsigned_abs vertex.1) 2000)

abbrev pub IsAround : List (ℤ × ℤ) → ℕ → Type 0
IsAround vs k = Turns (edge_of vs k) (edge_of vs ((k + 1) % 6)) × HasInside (edge_of vs k)

around_tells : (vs : List (ℤ × ℤ)) (k : ℕ) → Decides (turns (edge_of vs k) (edge_of vs ((k + 1) % 6)) && has_inside (edge_of vs k)) (IsAround vs k)
around_tells vs k = Decides-and (turns (edge_of vs k) (edge_of vs ((k + 1) % 6))) (has_inside (edge_of vs k)) (lt_tells _ _) (lt_tells _ _)

all_around : (vs : List (ℤ × ℤ)) → Decides (are_around vs 6) ((k : ℕ) → k < 6 → IsAround vs k)
unfolding are_around
all_around vs =
    Decides-below_and (λ k. turns (edge_of vs k) (edge_of vs ((k + 1) % 6)) && has_inside (edge_of vs k)) (IsAround vs) (are_around vs) (around_tells vs) refl (λ k. refl) 6

pub tested : (vs : List (ℤ × ℤ)) → Decides (is_shape vs) (IsShape vs)
unfolding is_shape
tested vs =
    let near = Decides-by_and is_near_vertex IsNearVertex (list_all is_near_vertex) near_tells refl (λ v rest. refl) vs in
    let rest = Decides-and (list_all is_near_vertex vs) (are_around vs 6) near (all_around vs) in
    let whole = Decides-and (length vs == 6) (list_all is_near_vertex vs && are_around vs 6) (Decides-eqb (length vs) 6) rest in
    (λ e. (let h = whole.0 e in record { count = h.0; near = h.1.0; around = h.1.1 }), λ h. whole.1 (h.count, (h.near, h.around)))

-- so the shape of vertices is there exactly if they are one

pub shaped : (vs : List (ℤ × ℤ)) → IsShape vs → shape_of vs ≡ Some vs
shaped vs h = rw ((tested vs).1 h) refl

pub unshaped : (vs : List (ℤ × ℤ)) → (¬ IsShape vs) → shape_of vs ≡ None
unshaped vs h = by (is_shape vs) (tested vs)
  where
    by : (b : Bool) → Decides b (IsShape vs) → (if b then Some vs else None) ≡ None
    by true tells = absurd (h (tells.0 refl))
    by false tells = refl
