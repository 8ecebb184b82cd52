use Rattle.std.proofs.Common.{◌++◌, ◌∙◌, List, ap, sym, subst}
use Rattle.audit_rows.specs.declared.row.Row.{Row}
use Rattle.auditor.specs.AuditRows.{AreAuditRows}
use Rattle.auditor.specs.AuditTotals.{AreTotals}
use Rattle.auditor.proofs.audit.Audit.end.Goals as goal

pub returns-clause-rows : goal.returns-clause-rows
returns-clause-rows c = λ numbers ticks given s.
    let ended = c.in_ok-totals.ensures in
    subst (λ (rows : List Row). AreAuditRows numbers ticks (given ++ rows)) (sym (ended.behind ∙ ap (λ (rows : List Row). rows ++ ended.rest) c.new-rows.ensures.items))
    (ended.are_rows numbers ticks given s)

pub returns-clause-totals : goal.returns-clause-totals
returns-clause-totals c = λ numbers ticks given s.
    let ended = c.in_ok-totals.ensures in
    subst (λ (rows : List Row). AreTotals numbers ticks (given ++ rows) c.in_ok-totals.totals.items)
    (sym (ended.behind ∙ ap (λ (rows : List Row). rows ++ ended.rest) c.new-rows.ensures.items)) (ended.are_totals numbers ticks given s)
