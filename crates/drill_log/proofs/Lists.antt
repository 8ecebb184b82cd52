-- Lists of what stands at each number of a range.
use Rattle.std.proofs.Common.{◌≡◌, ℕ, zero, suc, ◌+◌, ◌<◌, List, ◌∷◌, ◌++◌, length, take, get_or, sym, ap, ◌∙◌, arith}
use Rattle.std.proofs.lemmas.List.{flat_map_more, take_more}
use Rattle.std.specs.List.{range_with_len, flat_map}

-- the numbers of a range, and those after them
pub range_split : (a n m : ℕ) → range_with_len a (n + m) ≡ range_with_len a n ++ range_with_len (a + n) m
range_split a zero m =
    let none : 0 + m ≡ m = omega arith in
    let here : a + 0 ≡ a = omega arith in
    λ i. range_with_len (sym here i) (none i)
range_split a (suc n) m =
    let count : suc n + m ≡ suc (n + m) = omega arith in
    let here : a + 1 + n ≡ a + suc n = omega arith in
    ap (range_with_len a) count ∙ ap (λ (ms : List ℕ). a ∷ ms) (range_split (a + 1) n m)
    ∙ ap (λ (k : ℕ). a ∷ (range_with_len (a + 1) n ++ range_with_len k m)) here

-- what one more element of a list gives
pub flat_map_take_more : {A X : Type 0} (f : A → List X) (front before after : List X) (xs : List A) (i : ℕ) (d : A) → i < length xs
    → before ≡ front ++ flat_map f (take i xs) → after ≡ before ++ f (get_or xs i d) → after ≡ front ++ flat_map f (take (i + 1) xs)
flat_map_take_more f front before after xs i d lt so_far more =
    more ∙ ap (λ l. l ++ f (get_or xs i d)) so_far ∙ flat_map_more f front (take i xs) (get_or xs i d)
    ∙ ap (λ ys. front ++ flat_map f ys) (sym (take_more xs i d lt))
