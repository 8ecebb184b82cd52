-- The rows of the legs of a plan.
use Rattle.std.proofs.Common.{ℕ, ◌≡◌, ◌+◌, List, [], ◌∷◌, ◌++◌, map, flat_map, append_assoc, append-nil, refl, ap, sym, ◌∙◌, arith}
use Rattle.std.specs.List.{range_with_len}
use Rattle.std.proofs.lemmas.Grind.{flat_map-append}
use Rattle.std.proofs.lemmas.List.FromFn.{map-range_with_len_more}

-- the rows of the first numbers, and one more
rows_more : (f : ℕ → List ℕ) (n : ℕ) → flat_map f (range_with_len 0 (n + 1)) ≡ flat_map f (range_with_len 0 n) ++ f n
rows_more f n =
    ap (flat_map f) (counted n) ∙ flat_map-append f (range_with_len 0 n) (n ∷ []) ∙ ap (λ (l : List ℕ). flat_map f (range_with_len 0 n) ++ l) (append-nil (f n))
  where
    same : (xs : List ℕ) → map (λ (k : ℕ). k) xs ≡ xs
    same [] = refl
    same (x ∷ xs) = ap (λ (l : List ℕ). x ∷ l) (same xs)

    counted : (n : ℕ) → range_with_len 0 (n + 1) ≡ range_with_len 0 n ++ n ∷ []
    counted n =
        sym (same (range_with_len 0 (n + 1))) ∙ map-range_with_len_more (λ (k : ℕ). k) 0 n n (omega arith)
        ∙ ap (λ (l : List ℕ). l ++ n ∷ []) (same (range_with_len 0 n))

-- the rows of the first legs, and one more
pub one_leg_on : (row : ℕ → List ℕ) (front : List ℕ) (k : ℕ) (text : List ℕ) → text ≡ row k
    → (front ++ flat_map row (range_with_len 0 k)) ++ text ≡ front ++ flat_map row (range_with_len 0 (k + 1))
one_leg_on row front k text is =
    append_assoc front (flat_map row (range_with_len 0 k)) text
    ∙ ap (λ (t : List ℕ). front ++ (flat_map row (range_with_len 0 k) ++ t)) is
    ∙ ap (λ (l : List ℕ). front ++ l) (sym (rows_more row k))
