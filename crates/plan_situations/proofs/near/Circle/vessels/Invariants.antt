use Rattle.std.proofs.Common.{◌≡◌, List, take}
use Rattle.std.specs.List.{All, filter_map}
use Rattle.tracks.specs.AcceptedReports.{JudgingNumbers}
use Rattle.tracks.specs.Standing.{StandsFor}
use Rattle.tracks.specs.VesselsHeld.{Sent, held_of}
use Rattle.plan_situations.specs.NearVessels.{near_by}
use Rattle.plan_situations.specs.Readiness.{latest_of}
use Rattle.plan_situations.specs.Inner.Facts.{IsNear}
use Rattle.plan_situations.proofs.near.Circle.vessels.Given as goal

-- those among the first vessels that are held
abbrev pub invariant-loop-k : goal.invariant-loop-k
invariant-loop-k l = record {
  value : (numbers : JudgingNumbers) (messages : List Sent) → StandsFor l.book numbers messages
      → l.near.items ≡ filter_map (λ mmsi. near_by numbers.gap l.self.time l.self.range l.self.point mmsi (latest_of numbers messages mmsi)) (take l.k (held_of numbers messages));
  each : All (IsNear l.self.time l.book) l.near.items;
}
