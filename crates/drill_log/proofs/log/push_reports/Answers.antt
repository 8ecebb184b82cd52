use Rattle.std.proofs.Common.{ap, ◌∙◌, ◌++◌}
use Rattle.ais_messages.specs.declared.message.PositionReport.{PositionReport}
use Rattle.drill_log.specs.DrillLog.{report_line}
use Rattle.drill_log.specs.Inner.VesselFigures.{report_by}
use Rattle.drill_log.proofs.Lists.{flat_map_take_more}
use Rattle.drill_log.proofs.log.push_reports.Goals as goal

pub push_line-requires-clause-kind : goal.push_line-requires-clause-kind
unfolding report_by
push_line-requires-clause-kind c = ap (λ (report : PositionReport). report.kind) c.report.ensures.fields

pub loop-vessel-preserved : goal.loop-vessel-preserved
loop-vessel-preserved c =
    flat_map_take_more (λ vessel. report_line (record { time = c.args.time; report = report_by vessel c.args.reference c.args.minutes }))
    c.args.log.now.items c.loop-vessel.log.items c.push_line.new.log.items c.args.vessels.now c.loop-vessel.vessel-index _ c.loop-vessel-test.true c.loop-vessel.invariant
    (c.in_ok-push_line.ensures ∙ ap (λ (report : PositionReport). c.loop-vessel.log.items ++ report_line (record { time = c.args.time; report = report })) c.report.ensures.fields)
