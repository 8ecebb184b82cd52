use Rattle.std.proofs.Common.{◌≡◌, ◌<◌, ◌-◌, arith}
use Rattle.drill_log.proofs.minute_log.MinuteLog.read.Goals as goal

pub loop-taken-smaller : goal.loop-taken-smaller
loop-taken-smaller c =
    let made : c.loop-taken.self.made < c.make.new.self.made = c.in-Ok-true.ensures.more c.in-Ok-true.field-0-test in
    let same : c.make.new.self.reports ≡ c.loop-taken.self.reports = c.in-Ok-true.ensures.reports in
    let smaller : c.make.new.self.reports - c.make.new.self.made < c.loop-taken.self.reports - c.loop-taken.self.made = omega (arith, made, same, c.make.new.self.within) in
    smaller
