use Rattle.std.proofs.Common.{◌≡◌, List, map, take}
use Rattle.std.specs.List.{All}
use Rattle.lattice.specs.Grids.{positions_of}
use Rattle.tracks.specs.AcceptedReports.{JudgingNumbers}
use Rattle.tracks.specs.Standing.{StandsFor}
use Rattle.tracks.specs.VesselsHeld.{Sent}
use Rattle.plan_situations.specs.NearVessels.{others_of}
use Rattle.plan_situations.specs.PlanSituations.{target_of}
use Rattle.plan_situations.specs.Inner.Facts.{IsTargetOver}
use Rattle.plan_situations.proofs.targets.Setting.targets.Given as goal

-- the targets among the first vessels
abbrev pub invariant-loop-vessel : goal.invariant-loop-vessel
invariant-loop-vessel l = record {
  value : (numbers : JudgingNumbers) (messages : List Sent) → StandsFor l.self.book.now numbers messages
      → l.targets.items ≡ map (target_of numbers messages l.self.window l.self.own.now) (others_of l.self.own.now.mmsi (take l.vessel-index l.near));
  over : All (IsTargetOver l.self.window.ticks (positions_of l.self.own.now.lattice)) l.targets.items;
}
