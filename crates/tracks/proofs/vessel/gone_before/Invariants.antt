use Rattle.std.proofs.Common.{◌≡◌, ◌-◌, ◌≤◌, drop, length}
use Rattle.tracks.specs.JoinedReports.{legs_between}
use Rattle.tracks.proofs.Forgetting.{dropped_to}
use Rattle.tracks.proofs.vessel.gone_before.Given as goal

abbrev pub invariant-loop-gone : goal.invariant-loop-gone
invariant-loop-gone l =
    record {
      within : l.gone.reports ≤ length l.points;
      few : l.gone.legs ≤ l.gone.reports;
      points : dropped_to l.time l.points ≡ dropped_to l.time (drop l.gone.reports l.points);
      legs_within : l.gone.legs ≤ length (legs_between l.gap l.points);
      legs : drop l.gone.legs (legs_between l.gap l.points) ≡ legs_between l.gap (drop l.gone.reports l.points);
    }

abbrev pub decreases-loop-gone : goal.decreases-loop-gone
decreases-loop-gone l = length l.points - l.gone.reports
