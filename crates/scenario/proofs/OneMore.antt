-- A list that is made from the elements of another, one after the other.
use Rattle.std.proofs.Common.{◌≡◌, ℕ, ◌+◌, ◌<◌, List, [], ◌∷◌, ◌++◌, length, map, take, get_or, sym, ap, subst, ◌∙◌}
use Rattle.std.proofs.lemmas.List.{map_more}

-- what one more element gives
pub mapped_more : {A B : Type 0} (f : A → B) (xs seen : List A) (i : ℕ) (d : A) (y : B) (before after : List B) → seen ≡ xs → i < length seen → d ≡ get_or seen i d
    → y ≡ f d → before ≡ map f (take i xs) → after ≡ before ++ y ∷ [] → after ≡ map f (take (i + 1) xs)
mapped_more f xs seen i d y before after same lt here is so_far pushed =
    let at : d ≡ get_or xs i d = here ∙ ap (λ l. get_or l i d) same in
    pushed ∙ ap (λ l. l ++ y ∷ []) so_far ∙ ap (λ z. map f (take i xs) ++ z ∷ []) (is ∙ ap f at) ∙ sym (map_more f xs i d (subst (λ l. i < length l) same lt))
