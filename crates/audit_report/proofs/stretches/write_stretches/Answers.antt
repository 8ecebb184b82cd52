use Rattle.std.proofs.Common.{List, ◌++◌, subst}
use Rattle.std.proofs.lemmas.List.{take_all}
use Rattle.audit_report.specs.ReportTexts.{HasText}
use Rattle.audit_rows.specs.declared.row.Row.{Row}
use Rattle.audit_report.specs.StretchRows.{stretch_rows}
use Rattle.audit_report.proofs.StretchRows.{one_stretch_on}
use Rattle.audit_report.proofs.stretches.write_stretches.Goals as goal

pub loop-row-preserved : goal.loop-row-preserved
loop-row-preserved c = λ front has.
    one_stretch_on c.write_stretch.new.text front c.args.rules.now c.args.rows.now c.loop-row.row-index _ c.loop-row-test.true
    (c.in_ok-write_stretch.ensures _ (c.loop-row.invariant front has))

pub returns : goal.returns
returns c = λ front has.
    subst (λ (rows : List Row). HasText c.loop-row.text (front ++ stretch_rows c.args.rules.now rows))
    (take_all c.loop-row.row-index c.args.rows.now c.loop-row-test.false) (c.loop-row.invariant front has)
