use Rattle.std.proofs.Common.{◌+◌, ◌*◌, ◌++◌, ◌∙◌, ℕ, ap, arith}
use Rattle.std.specs.List.{flat_map}
use Rattle.drill_log.specs.Inner.MinuteLines.{lines_at}
use Rattle.drill_log.specs.DrillLog.{report_line}
use Rattle.drill_log.specs.Inner.VesselFigures.{report_by}
use Rattle.drill_log.proofs.Minutes.{minute_on}
use Rattle.drill_log.proofs.log.lines_between.Goals as goal

pub loop-minutes-preserved : goal.loop-minutes-preserved
loop-minutes-preserved c =
    minute_on (lines_at c.args.reference c.args.start c.args.vessels.now) c.args.from c.loop-minutes.minutes c.loop-minutes.lines.items c.push_reports.new.log.items (omega arith) c.loop-minutes.invariant
    (
    c.in_ok-push_reports.ensures
    ∙ ap (λ (minutes : ℕ). c.loop-minutes.lines.items ++ flat_map (λ vessel. report_line (record {
      time = c.args.start + 60 * minutes;
      report = report_by vessel c.args.reference c.loop-minutes.minutes;
    })) c.args.vessels.now) c.from.ensures
    )
