use Rattle.std.proofs.Common.{List, ℕ, ◌++◌, ◌∙◌, subst, ap}
use Rattle.std.proofs.lemmas.Result.{on_ok_weaker}
use Rattle.report_csv.specs.CsvRows.{row_of}
use Rattle.audit_report.specs.ReportTexts.{HasText}
use Rattle.tracks.specs.declared.statics.Statics.{Statics}
use Rattle.audit_report.proofs.VesselRows.{legs_counted, reports_counted, vessel_is}
use Rattle.audit_report.proofs.vessels.write_vessel.Goals as goal

pub returns : goal.returns
returns c = on_ok_weaker c.write.result (λ writes. λ keeping numbers messages front tracks few is has.
    let mmsi = c.args.vessel.now.mmsi in
    let ship = ap (λ (told : Statics). told.ship) is.statics in
    let name = c.sent_name.ensures ∙ ap (λ (told : Statics). told.name) is.statics in
    let fields = vessel_is mmsi _ _ _ _ _ _ _ _ _ _ name ship c.kind_of.ensures c.length.ensures
    (reports_counted keeping numbers messages mmsi _ tracks few is.counts) (legs_counted keeping numbers messages mmsi _ tracks few is.counts) in
    subst (λ (fs : List (List ℕ)). HasText c.write.new.self (front ++ row_of fs)) fields (writes front has)) c.write.ensures
