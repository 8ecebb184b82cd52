use Rattle.std.proofs.Common.{◌+◌, ◌<◌, ◌≤◌, refl, ap₂, ◌∙◌, arith, length}
use Rattle.mtl_formulas.specs.FormulaTree.{pair}
use Rattle.mtl_formulas.specs.FormulaValue.{pair_value}
use Rattle.mtl_early.proofs.Sweeps.{AreRight-more, SameOutside-more, operand_cell}
use Rattle.mtl_early.proofs.sweeping.sweep_pair.Goals as goal

pub loop-age-init : goal.loop-age-init
loop-age-init c = record { right = λ rows s t first second age below. absurd (omega (arith, below)); others = λ k outside. refl }

pub loop-age-preserved : goal.loop-age-preserved
loop-age-preserved c =
    let a = c.args in
    let l = c.loop-age in
    let room : a.at + a.size ≤ length l.cells = omega (arith, l.auto.cells, c.requires.inside) in
    let inside : a.at + l.age < length l.cells = omega (arith, room, c.loop-age-test.true) in
    record {
      right = λ rows s t first second.
          AreRight-more l.cells a.at l.age c.joined.result inside rows (pair a.kind s t)
          (c.joined.ensures
          ∙ ap₂ (pair_value a.kind)
          (operand_cell a.cells.now l.cells _ a.first a.at a.size l.age l.age rows s l.invariant.others c.requires.first_below room c.loop-age-test.true first)
          (operand_cell a.cells.now l.cells _ a.second a.at a.size l.age l.age rows t l.invariant.others c.requires.second_below room c.loop-age-test.true second))
          (l.invariant.right rows s t first second);
      others = SameOutside-more l.cells a.at l.age c.joined.result inside a.cells.now l.invariant.others;
    }
