use Rattle.std.proofs.Common.{◌≡◌, ◌-◌, flat_map}
use Rattle.std.specs.List.{range_with_len}
use Rattle.drill_log.specs.Inner.MinuteLines.{lines_at}
use Rattle.drill_log.proofs.log.lines_between.Given as goal

abbrev pub invariant-loop-minutes : goal.invariant-loop-minutes
invariant-loop-minutes l = l.lines.items ≡ flat_map (lines_at l.reference l.start l.vessels) (range_with_len l.from (l.minutes - l.from))
