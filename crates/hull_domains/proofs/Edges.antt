-- Edges of vertices that are near.
use Rattle.std.proofs.Common.{ℕ, zero, suc, max, inl, inr, refl, sym, subst, ◌≡◌, ◌+◌, ◌%◌, ◌≤◌, ◌<◌, List, length, ℤ, ◌-ℤ◌, unsigned_abs, arith, pos}
use Rattle.std.specs.Prelude.{All}
use Rattle.std.proofs.Math.Nat.{le-max_left, le-max_right, max-le}
use Rattle.std.proofs.lemmas.Bool.{cases_lt}
use Rattle.std.proofs.lemmas.Int.{ints}
use Rattle.std.proofs.lemmas.List.Elements.{All-get_or}
use Rattle.hull_domains.specs.Inner.EdgeSides.{IsShort}
use Rattle.hull_domains.specs.Inner.Ways.{longest_way, way_to}
use Rattle.hull_domains.specs.Shapes.{edge_of, vertex_of, IsNearVertex}

difference_small : (x y : ℤ) → unsigned_abs x ≤ 2000 → unsigned_abs y ≤ 2000 → unsigned_abs (y -ℤ x) ≤ 4000
difference_small x y p q = omega (arith, ints)

near_at : (vertices : List (ℤ × ℤ)) (k : ℕ) → length vertices ≡ 6 → k < 6 → All IsNearVertex vertices → IsNearVertex (vertex_of vertices k)
near_at vertices k count lt near = All-get_or IsNearVertex vertices k (pos 0, pos 0) (omega arith) near

pub edge_short : (vertices : List (ℤ × ℤ)) (k : ℕ) → length vertices ≡ 6 → k < 6 → All IsNearVertex vertices → IsShort (edge_of vertices k)
unfolding edge_of
edge_short vertices k count lt near =
    let v = vertex_of vertices k in
    let n = vertex_of vertices ((k + 1) % 6) in
    let here = near_at vertices k count lt near in
    let next = near_at vertices ((k + 1) % 6) count (omega arith) near in
    record {
      from = record { x = here.0; y = here.1 };
      along = record { x = difference_small v.0 n.0 here.0 next.0; y = difference_small v.1 n.1 here.1 next.1 };
    }

-- ---- the longest way to a vertex

module _ (vertices : List (ℤ × ℤ)) where
  longest_suc : (n : ℕ) → longest_way vertices (suc n) ≡ max (longest_way vertices n) (way_to (vertex_of vertices n))
  unfolding longest_way
  longest_suc n = refl

  pub no_longer : (n k : ℕ) → k < n → way_to (vertex_of vertices k) ≤ longest_way vertices n
  no_longer zero k lt = absurd (omega arith)
  no_longer (suc n) k lt = elim (cases_lt k n) [
    | inl before ↦ (let h = no_longer n k before in let e = longest_suc n in let most = le-max_left (longest_way vertices n) (way_to (vertex_of vertices n)) in omega arith)
    | inr here ↦ (let same : k ≡ n = omega arith in let e = longest_suc n in let most = le-max_right (longest_way vertices n) (way_to (vertex_of vertices n)) in
        subst (λ (j : ℕ). way_to (vertex_of vertices j) ≤ longest_way vertices (suc n)) (sym same) (omega arith))
  ]

  none_short : longest_way vertices zero ≤ 4000
  unfolding longest_way
  none_short = omega arith

  pub longest_short : length vertices ≡ 6 → All IsNearVertex vertices → (n : ℕ) → n ≤ 6 → longest_way vertices n ≤ 4000
  longest_short count near zero le = none_short
  longest_short count near (suc n) le =
      let h = longest_short count near n (omega arith) in
      let here = near_at vertices n count (omega arith) near in
      let way : way_to (vertex_of vertices n) ≤ 4000 = let a = here.0 in let b = here.1 in omega arith in
      subst (λ (m : ℕ). m ≤ 4000) (sym (longest_suc n)) (max-le h way)
