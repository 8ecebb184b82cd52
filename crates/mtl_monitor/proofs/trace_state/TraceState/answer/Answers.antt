use Rattle.std.proofs.Common.{◌≡◌, ◌∙◌, ◌<◌, length, List, ap, arith}
use Rattle.std.specs.Prelude.{slice_index_or}
use Rattle.std.proofs.lemmas.List.{get_or_default}
use Rattle.mtl_formulas.specs.declared.verdict.Verdict.{Verdict}
use Rattle.mtl_formulas.specs.declared.verdict.Verdict.TheVariants.{No, Open}
use Rattle.mtl_monitor.specs.Inner.Standing.{root_at}
use Rattle.mtl_monitor.specs.Inner.Steps.{value_at}
use Rattle.mtl_monitor.proofs.Feeding.{fed_value, ended_value}
use Rattle.mtl_monitor.proofs.trace_state.TraceState.answer.Goals as goal

-- The root of the formula, and the value of its node.
module _ (c : goal.After-result-1) where
  root_is : c.index-root.result.now ≡ root_at c.args.program.now.roots.items c.args.formula
  root_is = c.index-root.ensures ∙ get_or_default c.args.program.now.roots.items c.args.formula c.index-root.result.now (record { index = 0; late = 0 }) c.requires.inside

  value_is : c.index-root.result.now.index < length c.args.program.now.nodes.items
      → slice_index_or c.deref.result.now c.index-root.result.now.index No ≡ value_at c.args.self.now.values.items c.index-root.result.now.index
  value_is inside =
      get_or_default c.deref.result.now c.index-root.result.now.index No Open (omega (arith, ap length c.deref.ensures, c.requires.fits.values, inside))
      ∙ ap (λ (values : List Verdict). value_at values c.index-root.result.now.index) c.deref.ensures

  index_is : c.index-root.result.now.index ≡ (root_at c.args.program.now.roots.items c.args.formula).index
  index_is = ap (λ o. o.index) root_is

pub returns-clause-fed : goal.returns-clause-fed
returns-clause-fed c = λ formulas rows h.
    let inside : c.args.formula < length formulas = omega (arith, c.requires.inside, h.of.count) in
    let node : c.index-root.result.now.index < length c.args.program.now.nodes.items = omega (arith, index_is c, (h.of.each c.args.formula inside).inside) in
    fed_value c.args.program.now c.args.self.now formulas rows c.args.formula c.index-root.result.now _ (root_is c) (value_is c node) h inside c.if-self-root.false

pub returns-clause-ended : goal.returns-clause-ended
returns-clause-ended c = λ formulas rows h.
    let s = c.args.self.now in
    let inside : c.args.formula < length formulas = omega (arith, c.requires.inside, h.of.count) in
    let is = h.of.each c.args.formula inside in
    let node : c.index-root.result.now.index < length c.args.program.now.nodes.items = omega (arith, index_is c, is.inside) in
    let late : c.index-root.result.now.late ≡ (root_at c.args.program.now.roots.items c.args.formula).late = ap (λ o. o.late) (root_is c) in (
      omega (arith, late, is.late, h.all_fed, h.all_passed, c.if-self-root.false),
      omega (arith, h.all_fed, c.if-position-self.false),
      ended_value c.args.program.now s formulas rows c.args.formula c.index-root.result.now _ (root_is c) (value_is c node) h inside c.if-self-root.false,
    )
