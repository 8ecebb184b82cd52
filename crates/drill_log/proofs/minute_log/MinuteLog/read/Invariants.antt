use Rattle.std.proofs.Common.{◌≡◌, ◌-◌, ◌<◌, length}
use Rattle.drill_log.specs.Inner.MinuteLines.{left_of}
use Rattle.drill_log.proofs.minute_log.MinuteLog.read.Given as goal

-- What is left is the same, and no read failed.
abbrev pub invariant-loop-taken : goal.invariant-loop-taken
invariant-loop-taken l =
    (left_of l.self ≡ left_of l.initial.self) × (l.self.faults ≡ l.initial.self.faults)
    × (0 < length l.room)

abbrev pub decreases-loop-taken : goal.decreases-loop-taken
decreases-loop-taken l = l.self.reports - l.self.made
