use Rattle.std.proofs.Common.{◌≡◌, ◌+◌, ◌∙◌, inl, inr, List, refl, arith}
use Rattle.mtl_formulas.specs.FormulaTree.{FormulaTree}
use Rattle.mtl_monitor.specs.Following.{Closes, Follows, past_of}
use Rattle.mtl_monitor.specs.Reaches.{greatest_reach}
use Rattle.mtl_formulas.specs.Traces.{Trace}
use Rattle.auditor.specs.SettledRows.{formulas_of}
use Rattle.auditor.proofs.TraceKeeping.{at_end, at_last, one_past}
use Rattle.auditor.proofs.trace.AuditTrace.end.Goals as goal

pub loop-init : goal.loop-init
loop-init c = record {
  start = refl;
  fits = c.requires.ready.fits;
  fed = refl;
  past = c.requires.ready.unended;
  follows = λ formulas rows follows. inl follows;
  tracks = λ numbers known before mine after bound given stands tracks e keeps. at_end numbers known c.args.queue.now before after bound given mine tracks keeps;
}

pub loop-preserved : goal.loop-preserved
loop-preserved c =
    let past : past_of c.pass_end.new.self ≡ c.loop.counter + 1 = omega (arith, c.pass_end.ensures.past, c.loop.invariant.past) in
    let closes : (formulas : List FormulaTree) (rows : Trace) → Follows c.args.program.now c.args.self.now.values formulas rows
    → Closes c.args.program.now c.pass_end.new.self formulas rows =
    λ formulas rows follows. elim (c.loop.invariant.follows formulas rows follows) [
      | inl still ↦ c.pass_end.ensures.begins formulas rows still
      | inr closed ↦ c.pass_end.ensures.goes_on formulas rows closed
    ] in
    record {
      start = c.loop.invariant.start;
      fits = c.pass_end.ensures.fits;
      fed = c.pass_end.ensures.fed ∙ c.loop.invariant.fed;
      past = past;
      follows = λ formulas rows follows. inr (closes formulas rows follows);
      tracks = λ numbers known before mine after bound given stands tracks e keeps.
          one_past c.args.program.now numbers _ known c.args.first c.loop.counter c.loop.queue c.mark_rules.new.queue
          (c.loop.invariant.start ∙ stands.start) (closes (formulas_of numbers) known.trace stands.values) past c.in_ok-mark_rules.ensures
          before after bound given e (c.loop.invariant.tracks numbers known before mine after bound given stands tracks e keeps);
    }

pub returns : goal.returns
returns c = λ numbers known before mine after bound given stands tracks e keeps.
    let reach : c.reach-end.result ≡ greatest_reach (formulas_of numbers) =
    c.reach-end.ensures.formulas (formulas_of numbers) (record { trees = stands.values.trees; of = stands.values.of }) in
    let last : c.loop.counter ≡ greatest_reach (formulas_of numbers) = omega (arith, c.loop-test.false, c.loop.auto.counter-end) in
    at_last numbers known c.loop.queue before after bound given c.loop.counter last
    (c.loop.invariant.tracks numbers known before mine after bound given stands tracks e keeps)
