use Rattle.std.proofs.Common.{Ok, refl, ap, arith}
use Rattle.outside.proofs.ForCallers.{err_cause}
use Rattle.scenario_values.specs.declared.values.Scenario.{Scenario}
use Rattle.sessions.specs.Standing.{mode_of, session_scenario}
use Rattle.colregs_program.proofs.StreamedReports.{cause_by, none_begun, written_from}
use Rattle.colregs_program.proofs.streaming.feed_log.Goals as goal

pub returns-in_err-block-clause-cause : goal.returns-in_err-block-clause-cause
returns-in_err-block-clause-cause g c =
    err_cause c.from_residual.result _ _ c.from_residual.ensures.1 (λ asked.
    none_begun (mode_of c.args.session.now) (session_scenario c.args.session.now) (g.S.Source.left c.args.log.now) (g.K.Sink.contents c.args.out.now))

pub loop-block-init : goal.loop-block-init
loop-block-init g c = record {
  room = (let long = c.in_ok-block.ensures in omega (arith, long));
  mode = refl;
  scenario = refl;
  written = written_from c.args.session.now (g.S.Source.left c.args.log.now) (g.K.Sink.contents c.args.out.now) c.requires.begun;
  log_faults = refl;
  out_faults = refl;
}

pub returns-in_err-write_block-clause-cause : goal.returns-in_err-write_block-clause-cause
returns-in_err-write_block-clause-cause g c =
    err_cause c.from_residual-in_err-write_block.result c.in_err-write_block.field-0.0 _ c.from_residual-in_err-write_block.ensures.1
    (λ asked. cause_by _ _ asked _ _ _ _ _ _ c.in_err-write_block.field-0.0 c.loop-block.invariant.mode c.loop-block.invariant.scenario
    (c.in_err-write_block.ensures.cause asked _ _ c.loop-block.invariant.written))

pub loop-block-smaller : goal.loop-block-smaller
loop-block-smaller g c =
    let grows = c.in_ok-write_block.ensures.grows (ap Ok c.if-branch.true) in
    let has = c.in_ok-write_block.ensures.written _ _ c.loop-block.invariant.written in
    let taken = has.stands.taken in
    let short = has.stands.unrefused.short in
    let same = ap (λ (s : Scenario). s.log.max_bytes) c.in_ok-write_block.ensures.scenario in
    omega (arith, grows, taken, short, same)
