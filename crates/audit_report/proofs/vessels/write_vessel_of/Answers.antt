use Rattle.std.proofs.Common.{ℕ, ◌++◌, subst, sym, true≢false}
use Rattle.std.proofs.lemmas.Result.{on_ok_weaker}
use Rattle.report_csv.specs.CsvRows.{row_of}
use Rattle.audit_report.specs.ReportTexts.{HasText}
use Rattle.audit_report.specs.VesselRows.{held_fields}
use Rattle.audit_report.proofs.vessels.write_vessel_of.Goals as goal

pub returns-in-Some : goal.returns-in-Some
returns-in-Some c = on_ok_weaker c.write_vessel.result (λ writes numbers messages front few stands held has.
    subst (λ (mmsi : ℕ). HasText c.write_vessel.new.text (front ++ row_of (held_fields numbers messages mmsi))) c.in-Some.ensures.mmsi
    (writes c.args.book.now.keeping numbers messages front c.requires few (c.in-Some.ensures.kept numbers messages stands) has)) c.write_vessel.ensures

pub returns-in-None : goal.returns-in-None
returns-in-None c = λ numbers messages front few stands held has. absurd (true≢false (sym ((c.in-None.ensures.held numbers messages stands).0 held)))
