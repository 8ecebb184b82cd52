use Rattle.std.proofs.Common.{◌+◌, ◌<◌, ◌≤◌, refl, ap, ◌∙◌, arith, length}
use Rattle.mtl_formulas.specs.VerdictOrder.{turned_round}
use Rattle.mtl_formulas.specs.FormulaTree.{negation}
use Rattle.mtl_early.proofs.Sweeps.{AreRight-more, SameOutside-more, operand_cell}
use Rattle.mtl_early.proofs.sweeping.sweep_not.Goals as goal

pub loop-age-init : goal.loop-age-init
loop-age-init c = record { right = λ rows s right age below. absurd (omega (arith, below)); others = λ k outside. refl }

pub loop-age-preserved : goal.loop-age-preserved
loop-age-preserved c =
    let a = c.args in
    let l = c.loop-age in
    let room : a.at + a.size ≤ length l.cells = omega (arith, l.auto.cells, c.requires.inside) in
    let inside : a.at + l.age < length l.cells = omega (arith, room, c.loop-age-test.true) in
    record {
      right = λ rows s right.
          AreRight-more l.cells a.at l.age c.negated.result inside rows (negation s)
          (c.negated.ensures ∙ ap turned_round (operand_cell a.cells.now l.cells _ a.operand a.at a.size l.age l.age rows s l.invariant.others c.requires.below room c.loop-age-test.true right))
          (l.invariant.right rows s right);
      others = SameOutside-more l.cells a.at l.age c.negated.result inside a.cells.now l.invariant.others;
    }
