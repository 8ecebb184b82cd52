-- The rows of lines taken one after the other.
use Rattle.std.proofs.Common.{◌≡◌, ℕ, List, [], ◌∷◌, ◌++◌, append-nil, append_assoc, sym, ap, ◌∙◌}
use Rattle.std.proofs.lemmas.Grind.{flat_map-append}
use Rattle.log_lines.specs.declared.judged.Judged.{Judged}
use Rattle.audit_report.specs.PointRows.{point_rows, rows_of_line}

-- of one line
pub one_line : (judged : Judged) → point_rows (judged ∷ []) ≡ rows_of_line judged
one_line judged = append-nil (rows_of_line judged)

-- of one line more
pub rows_push : (lines : List Judged) (judged : Judged) → point_rows (lines ++ judged ∷ []) ≡ point_rows lines ++ rows_of_line judged
rows_push lines judged = flat_map-append rows_of_line lines (judged ∷ []) ∙ ap (λ (rows : List ℕ). point_rows lines ++ rows) (one_line judged)

-- the whole report of points
pub points_whole : (lines : List Judged) (given front rest counts : List ℕ) → given ++ front ≡ point_rows lines → rest ≡ front ++ counts → given ++ rest ≡ point_rows lines ++ counts
points_whole lines given front rest counts so_far is =
    ap (λ (l : List ℕ). given ++ l) is ∙ sym (append_assoc given front counts) ∙ ap (λ (l : List ℕ). l ++ counts) so_far
