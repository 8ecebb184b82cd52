-- Arguments that do not ask the program about itself.
use Rattle.std.proofs.Common.{◌≡◌, ◌≢◌, ◌<◌, ◌∙◌, ℕ, Bool, true, false, List, [], ◌∷◌, None, codes, length, refl, sym, ap, arith}
use Rattle.std.specs.Str.{bytes_eq}
use Rattle.std.specs.List.{slice_index_or}
use Rattle.std.proofs.lemmas.Slice.Eq.{bytes_eq-Decides}
use Rattle.command_line.specs.InfoArguments.{info_by, info_of}

other : (a b : List ℕ) → a ≢ b → bytes_eq a b ≡ false
other a b ne = go (bytes_eq a b) refl
  where
    go : (t : Bool) → bytes_eq a b ≡ t → bytes_eq a b ≡ false
    go false e = e
    go true e = absurd (ne ((bytes_eq-Decides a b).0 e))

pub asks_for_no_info : (word : List ℕ) → word ≢ codes "--help" → word ≢ codes "-h" → word ≢ codes "--version" → word ≢ codes "-V" → info_by word ≡ None
asks_for_no_info word help short version letter =
    rw (other word (codes "--help") help, other word (codes "-h") short, other word (codes "--version") version, other word (codes "-V") letter) refl

-- a single word that asks for nothing
pub single_without_info : (words : List (List ℕ)) (word : List ℕ) → 0 < length words → length words < 2 → word ≡ slice_index_or words 0 word → info_by word ≡ None → None ≡ info_of words
single_without_info [] word some few is none = absurd (omega arith)
single_without_info (w ∷ []) word some few is none = sym (ap info_by (sym is) ∙ none)
single_without_info (w ∷ v ∷ rest) word some few is none = absurd (omega arith)
