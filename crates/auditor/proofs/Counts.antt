-- What the marks of a rule's tracks come to.
use Rattle.std.proofs.Common.{◌≡◌, ℕ, ◌+◌, List, [], ◌∷◌, ◌++◌, refl, arith}
use Rattle.std.proofs.lemmas.List.Sums.{sum_by-append, sum_by-cons}
use Rattle.audit_rows.specs.declared.mark.Mark.{Mark}
use Rattle.audit_rows.specs.Tracks.{Track}
use Rattle.auditor.specs.Tallies.{counted, of_rule}

-- one more track
pub counted_last : (rule : ℕ) (measure : List Mark → ℕ) (tracks : List Track) (track : Track)
    → counted rule measure (tracks ++ track ∷ []) ≡ counted rule measure tracks + of_rule rule measure track
counted_last rule measure tracks track =
    let none : counted rule measure [] ≡ 0 = refl in
    omega (arith, sum_by-append (of_rule rule measure) tracks (track ∷ []), sum_by-cons (of_rule rule measure) track [])
