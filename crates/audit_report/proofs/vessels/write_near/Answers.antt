use Rattle.std.proofs.Common.{ℕ, ◌∙◌, List, ◌++◌, ap, subst, append_assoc, true}
use Rattle.std.proofs.lemmas.List.{take_all}
use Rattle.report_csv.specs.CsvRows.{row_of}
use Rattle.audit_report.specs.ReportTexts.{HasText}
use Rattle.plan_situations.specs.declared.near.Near.{Near}
use Rattle.audit_report.specs.VesselRows.{held_fields, near_rows}
use Rattle.audit_report.proofs.Pushing.{rows_push}
use Rattle.audit_report.proofs.vessels.write_near.Goals as goal

pub loop-vessel-preserved : goal.loop-vessel-preserved
loop-vessel-preserved c = λ numbers messages front few stands held has.
    let near = c.args.near.now in
    let k = c.loop-vessel.vessel-index in
    let row : Near → List ℕ = λ v. row_of (held_fields numbers messages v.mmsi) in
    subst (HasText c.write_vessel_of.new.text)
    (append_assoc front (near_rows numbers messages (Rattle.std.proofs.Common.take k near)) _ ∙ ap (λ (l : List ℕ). front ++ l) (rows_push row near k _ c.loop-vessel-test.true))
    (c.in_ok-write_vessel_of.ensures numbers messages _ few stands (held k _ c.loop-vessel-test.true) (c.loop-vessel.invariant numbers messages front few stands held has))

pub returns : goal.returns
returns c = λ numbers messages front few stands held has.
    subst (λ (vessels : List Near). HasText c.loop-vessel.text (front ++ near_rows numbers messages vessels))
    (take_all c.loop-vessel.vessel-index c.args.near.now c.loop-vessel-test.false) (c.loop-vessel.invariant numbers messages front few stands held has)
