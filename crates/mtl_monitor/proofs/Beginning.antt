-- What nodes keep before the first row.
use Rattle.std.proofs.Common.{◌≡◌, ℕ, ◌-◌, ◌<◌, ap, arith, List}
use Rattle.mtl_formulas.specs.declared.verdict.Verdict.{Verdict}
use Rattle.mtl_formulas.specs.VerdictOrder.{turned_round}
use Rattle.mtl_formulas.specs.FormulaTree.{FormulaTree}
use Rattle.mtl_monitor.specs.declared.left.Left.{Left}
use Rattle.mtl_monitor.specs.declared.outlook.Ahead.{Ahead}
use Rattle.mtl_monitor.specs.declared.node.Operator.{Operator}
use Rattle.mtl_monitor.specs.declared.node.Operator.TheVariants as op
use Rattle.mtl_monitor.specs.declared.node.ProgramNode.{ProgramNode}
use Rattle.mtl_monitor.specs.declared.node.Kept.{Kept}
use Rattle.mtl_monitor.specs.declared.node.Kept.TheVariants as kinds
use Rattle.mtl_formulas.specs.Traces.{Trace, value_in}
use Rattle.mtl_monitor.specs.Inner.Steps.{sensed}
use Rattle.mtl_monitor.specs.Inner.Standing.{tree_at, Computes, Keeps}
use Rattle.mtl_monitor.specs.Inner.Starting.{nothing, IsFresh}
use Rattle.mtl_monitor.specs.Inner.Countdown.{Lasts}
use Rattle.mtl_monitor.proofs.Countdown.{Lasts-none}
use Rattle.mtl_monitor.proofs.Rings.{Holds-none}
use Rattle.mtl_monitor.proofs.Lookaheads.{Reads-none}

Lasts-fresh : (f : ℕ → Verdict) (s : Left) (width from : ℕ) → s ≡ nothing → Lasts f s width (0 - from)
Lasts-fresh f s width from is = let none : 0 - from ≡ 0 = omega arith in rw (is, none) (Lasts-none f width)

pub Keeps-fresh : (trace : Trace) (nodes : List ProgramNode) (trees : List FormulaTree) (o : Operator) (late : ℕ) (t : FormulaTree) (s : Kept)
    → Computes nodes trees o late t → IsFresh o s → Keeps trace trees o late s 0
Keeps-fresh trace nodes trees (op.Atom a) late t s computes is = tt
Keeps-fresh trace nodes trees (op.Not a) late t s computes is = tt
Keeps-fresh trace nodes trees (op.Pair kind a b) late t s computes is = tt
Keeps-fresh trace nodes trees (op.Late cells from a) late t (kinds.Ring d) computes is =
    let none : 0 - from ≡ 0 = omega arith in rw (is, none) (Holds-none (value_in trace (tree_at trees a)) cells)
Keeps-fresh trace nodes trees (op.Late cells from a) late t kinds.Plain computes is = absurd is
Keeps-fresh trace nodes trees (op.Late cells from a) late t (kinds.Window w) computes is = absurd is
Keeps-fresh trace nodes trees (op.Late cells from a) late t (kinds.Since w x) computes is = absurd is
Keeps-fresh trace nodes trees (op.Late cells from a) late t (kinds.Until w) computes is = absurd is
Keeps-fresh trace nodes trees (op.Window kind width from a) late t (kinds.Window s) computes is = Lasts-fresh (λ k. sensed kind (value_in trace (tree_at trees a) k)) s width from is
Keeps-fresh trace nodes trees (op.Window kind width from a) late t kinds.Plain computes is = absurd is
Keeps-fresh trace nodes trees (op.Window kind width from a) late t (kinds.Ring d) computes is = absurd is
Keeps-fresh trace nodes trees (op.Window kind width from a) late t (kinds.Since w x) computes is = absurd is
Keeps-fresh trace nodes trees (op.Window kind width from a) late t (kinds.Until w) computes is = absurd is
Keeps-fresh trace nodes trees (op.Since width lower from a b) late t (kinds.Since hits bars) computes is =
    (Lasts-fresh _ hits width from is.0, Lasts-fresh (λ k. turned_round (value_in trace (tree_at trees a) k)) bars lower late is.1)
Keeps-fresh trace nodes trees (op.Since width lower from a b) late t kinds.Plain computes is = absurd is
Keeps-fresh trace nodes trees (op.Since width lower from a b) late t (kinds.Ring d) computes is = absurd is
Keeps-fresh trace nodes trees (op.Since width lower from a b) late t (kinds.Window w) computes is = absurd is
Keeps-fresh trace nodes trees (op.Since width lower from a b) late t (kinds.Until w) computes is = absurd is
Keeps-fresh trace nodes trees (op.Until from full lower a behind b) late t (kinds.Until s) computes is =
    let none : 0 - from ≡ 0 = omega arith in
    let some : 0 < full - from = omega (arith, computes.3.wide, computes.3.ordered) in (
      rw (none, is) (Reads-none (value_in trace (tree_at trees a)) (value_in trace (tree_at trees b)) (full - from) some),
      Lasts-fresh (λ k. turned_round (value_in trace (tree_at trees a) k)) s.bars lower full (ap (λ (u : Ahead). u.bars) is),
    )
Keeps-fresh trace nodes trees (op.Until from full lower a behind b) late t kinds.Plain computes is = absurd is
Keeps-fresh trace nodes trees (op.Until from full lower a behind b) late t (kinds.Ring d) computes is = absurd is
Keeps-fresh trace nodes trees (op.Until from full lower a behind b) late t (kinds.Window w) computes is = absurd is
Keeps-fresh trace nodes trees (op.Until from full lower a behind b) late t (kinds.Since w x) computes is = absurd is
