use Rattle.std.proofs.Common.{ℕ, List, ◌++◌, flat_map, subst, arith}
use Rattle.std.proofs.lemmas.List.{take_all}
use Rattle.report_csv.specs.CsvRows.{row_of}
use Rattle.audit_report.specs.ReportTexts.{HasText}
use Rattle.tracks.specs.VesselsHeld.{held_of}
use Rattle.audit_report.specs.VesselRows.{held_fields}
use Rattle.audit_report.proofs.VesselRows.{one_vessel_on}
use Rattle.audit_report.proofs.vessels.write_vessels.Goals as goal

pub loop-k-preserved : goal.loop-k-preserved
loop-k-preserved c = λ numbers messages front few stands has.
    let vessel = c.held.result in
    subst (HasText c.write_vessel.new.text) (one_vessel_on numbers messages front c.loop-k.k vessel.mmsi (c.held.ensures.listed numbers messages stands))
    (c.in_ok-write_vessel.ensures c.args.book.now.keeping numbers messages _ c.requires few (c.held.ensures.kept numbers messages stands)
    (c.loop-k.invariant numbers messages front few stands has))

pub returns : goal.returns
returns c = λ numbers messages front few stands has.
    let held = held_of numbers messages in
    let count = c.vessels-k-end.ensures.value numbers messages stands in
    let past = c.loop-k-test.false in
    subst (λ (mmsis : List ℕ). HasText c.loop-k.text (front ++ flat_map (λ mmsi. row_of (held_fields numbers messages mmsi)) mmsis))
    (take_all c.loop-k.k held (omega arith)) (c.loop-k.invariant numbers messages front few stands has)
