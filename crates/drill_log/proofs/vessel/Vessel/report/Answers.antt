use Rattle.std.proofs.Common.{◌≡◌, to_z, of_z, Some, None, ap₂, ◌∙◌, rules, w32, w64}
use Rattle.std.proofs.lemmas.Int.{to_z-of_z}
use Rattle.ais_messages.specs.MessageFields.{place_of}
use Rattle.drill_log.specs.DrillLog.{coordinate_after}
use Rattle.drill_log.specs.Inner.VesselFigures.{report_by}
use Rattle.drill_log.proofs.vessel.Vessel.report.Goals as goal

pub returns-clause-fields : goal.returns-clause-fields
unfolding report_by
returns-clause-fields c =
    let vessel = c.args.self.now in
    let latitude : to_z w32 (of_z w32 c.lat.result) ≡ c.args.reference.latitude = to_z-of_z w32 c.lat.result (search rules) ∙ c.lat.ensures.value in
    let longitude : to_z w32 (of_z w32 c.lon.result) ≡ c.args.reference.longitude = to_z-of_z w32 c.lon.result (search rules) ∙ c.lon.ensures.value in
    let north : to_z w32 (of_z w32 vessel.north) ≡ vessel.north = to_z-of_z w32 vessel.north (search rules) in
    let east : to_z w32 (of_z w32 vessel.east) ≡ vessel.east = to_z-of_z w32 vessel.east (search rules) in
    let way_north : to_z w64 (of_z w64 vessel.way.y) ≡ vessel.way.y = to_z-of_z w64 vessel.way.y (search rules) in
    let way_east : to_z w64 (of_z w64 vessel.way.x) ≡ vessel.way.x = to_z-of_z w64 vessel.way.x (search rules) in
    let first = to_z-of_z w32 c.reached.result (search rules) ∙ c.reached.ensures ∙ (λ i. coordinate_after (latitude i) (north i) (way_north i) c.args.minutes) in
    let second = to_z-of_z w32 c.reached-2.result (search rules) ∙ c.reached-2.ensures ∙ (λ i. coordinate_after (longitude i) (east i) (way_east i) c.args.minutes) in
    let placed = c.place.ensures.value ∙ ap₂ place_of first second in
    (λ i. record {
      kind = 1;
      mmsi = vessel.mmsi;
      status = 0;
      place = placed i;
      sog = Some vessel.speed;
      cog = vessel.course;
      heading = None;
      second = 0;
    })
