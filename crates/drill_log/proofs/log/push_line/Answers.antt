use Rattle.drill_log.proofs.Logs.{line_more}
use Rattle.drill_log.proofs.log.push_line.Goals as goal

pub returns : goal.returns
returns c =
    line_more c.args.log.now.items c.as_slice.result.now c.in_ok-line.line.items c.extend_from_slice.new.self.items c.push.new.self.items c.in_ok-bits.bits c.args.time c.args.report.now
    c.in_ok-bits.ensures.bits c.in_ok-line.ensures.bytes c.as_slice.ensures.value c.in_ok-extend_from_slice.ensures.items c.in_ok-push.ensures.items
