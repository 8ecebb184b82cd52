use Rattle.std.proofs.Common.{List, ℕ, inr, subst}
use Rattle.std.specs.Io.KnownBytes.{Appends}
use Rattle.outside.proofs.ForCallers.{err_cause}
use Rattle.outside.specs.Streams.{AppendsPart}
use Rattle.colregs_program.proofs.StreamedReports.{end_cause, report_part, report_written}
use Rattle.colregs_program.proofs.streaming.write_end.Goals as goal

pub returns-in_err-ending-clause-cause : goal.returns-in_err-ending-clause-cause
returns-in_err-ending-clause-cause g c =
    err_cause c.from_residual.result _ _ c.from_residual.ensures.1 (λ first left contents end has.
    end_cause c.args.session c.args.asked.now first left contents _ end has c.in_err-ending.field-0.0 c.in_err-ending.ensures.refused)

pub returns-then-not-put_all-clause-cause : goal.returns-then-not-put_all-clause-cause
returns-then-not-put_all-clause-cause g c = λ first left contents end has.
    let part = subst (λ (text : List ℕ). AppendsPart (g.K.Sink.contents c.args.out.now) (g.K.Sink.contents c.put_all.new.sink) text) c.as_slice.ensures.value (c.put_all.ensures.part c.if-not-put_all.true) in
    inr (end, report_part c.args.session c.args.asked.now first left contents _ end has _ c.in_ok-ending.ending.bytes.items c.in_ok-ending.ending.none c.in_ok-ending.ensures.report c.in_ok-ending.ensures.answer part)

pub returns-clause-report : goal.returns-clause-report
returns-clause-report g c = λ first left contents end has.
    let put = subst (λ (text : List ℕ). Appends (g.K.Sink.contents c.args.out.now) (g.K.Sink.contents c.put_all.new.sink) text) c.as_slice.ensures.value (c.put_all.ensures.all c.if-not-put_all.false) in
    report_written c.args.session c.args.asked.now first left contents _ end has _ c.in_ok-ending.ending.bytes.items c.in_ok-ending.ending.none c.in_ok-ending.ensures.report c.in_ok-ending.ensures.answer put
