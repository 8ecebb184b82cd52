use Rattle.drill_log.specs.DrillLog.{drill_log_of}
use Rattle.drill_laws.proofs.Fleet.{no_limit}
use Rattle.drill_laws.proofs.FleetLines.{fleet_lines}
use Rattle.drill_laws.proofs.laws.a_drill_meets_no_limit.Goals as goal

pub returns : goal.returns
returns c = λ scenario seed window.
    no_limit scenario (drill_log_of scenario seed) (fleet_lines scenario seed window) c.ended_lines_stay.ensures.all
