-- The rows of the first elements of a list, and of one more.
use Rattle.std.proofs.Common.{ℕ, ◌≡◌, ◌+◌, ◌<◌, List, [], ◌∷◌, ◌++◌, length, take, flat_map, append-nil, sym, ap, ◌∙◌}
use Rattle.std.specs.Prelude.{Some, slice_get}
use Rattle.std.proofs.lemmas.Grind.{flat_map-append}
use Rattle.std.proofs.lemmas.List.{take_more}
use Rattle.std.proofs.lemmas.Option.{get_or_from_slice_get, slice_get_within}
use Rattle.std.proofs.Math.ListN.{get_or}

-- the first rows of a list, and one more
pub rows_push : {X : Type 0} (f : X → List ℕ) (xs : List X) (k : ℕ) (d : X) → k < length xs
    → flat_map f (take k xs) ++ f (get_or xs k d) ≡ flat_map f (take (k + 1) xs)
rows_push f xs k d lt =
    ap (λ (l : List ℕ). flat_map f (take k xs) ++ l) (sym (append-nil (f (get_or xs k d))))
    ∙ sym (flat_map-append f (take k xs) (get_or xs k d ∷ []))
    ∙ ap (flat_map f) (sym (take_more xs k d lt))

-- the same for a given element
pub rows_get : {X : Type 0} (f : X → List ℕ) (xs : List X) (k : ℕ) (x : X) → slice_get xs k ≡ Some x
    → flat_map f (take k xs) ++ f x ≡ flat_map f (take (k + 1) xs)
rows_get f xs k x at =
    let within = slice_get_within xs k x at in
    let is : get_or xs k x ≡ x = get_or_from_slice_get xs k x x at in
    ap (λ y. flat_map f (take k xs) ++ f y) (sym is) ∙ rows_push f xs k x within
