-- Pieces of a list of bytes, one after the other. What `&bytes[d..]` holds is `take (length bytes - d) (drop d bytes)`.
use Rattle.std.proofs.Common.{◌≡◌, ℕ, ◌+◌, ◌-◌, List, ◌++◌, length, take, drop, sym, ◌∙◌, ap, subst, arith}
use Rattle.std.proofs.Math.Seq.{take-add}
use Rattle.std.proofs.lemmas.List.{take_all, take-append-drop, drop-drop, length-drop}
use Rattle.std.specs.declared.option.Option.{Option}
use Rattle.std.specs.Io.KnownBytes.{Appends}
use Rattle.std.proofs.KnownBytes.{Appends-trans}

pub rest_of : (bytes : List ℕ) (d : ℕ) → take (length bytes - d) (drop d bytes) ≡ drop d bytes
rest_of bytes d = take_all (length bytes - d) (drop d bytes) (omega (arith, length-drop d bytes))

-- a front of the bytes, and then more of the rest, is a longer front
pub Appends-take : (a b c : Option (List ℕ)) (bytes : List ℕ) (d n : ℕ) → Appends a b (take d bytes) → Appends b c (take n (take (length bytes - d) (drop d bytes))) → Appends a c (take (d + n) bytes)
Appends-take a b c bytes d n p q =
    let q' = subst (λ (l : List ℕ). Appends b c (take n l)) (rest_of bytes d) q in
    subst (Appends a c) (sym (take-add d n bytes)) (Appends-trans a b c (take d bytes) (take n (drop d bytes)) p q')

-- what is left from a place is its first n, and what is left n further
pub drop-split : (bytes room : List ℕ) (at n : ℕ) → take n room ≡ take n (take (length bytes - at) (drop at bytes)) → drop at bytes ≡ take n room ++ drop (at + n) bytes
drop-split bytes room at n copied =
    sym (take-append-drop n (drop at bytes))
    ∙ ap (λ l. take n (drop at bytes) ++ l) (drop-drop n at bytes)
    ∙ ap (λ l. l ++ drop (at + n) bytes) (sym (copied ∙ ap (take n) (rest_of bytes at)))
