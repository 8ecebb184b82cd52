use Rattle.std.proofs.Common.{◌++◌, ◌∙◌, List, ap, sym, subst}
use Rattle.audit_rows.specs.declared.row.Row.{Row}
use Rattle.audit_rows.specs.Rows.{AreRows}
use Rattle.audit_rows.proofs.row_queue.RowQueue.finish.Goals as goal

pub returns : goal.returns
returns c = λ tracks bound given h ends.
    let (rest, behind, rows) = c.in_ok-finish_into.ensures in
    subst (λ (xs : List Row). AreRows tracks (given ++ xs)) (sym (behind ∙ ap (λ (xs : List Row). xs ++ rest) c.new-rows.ensures.items)) (rows tracks bound given h ends)
