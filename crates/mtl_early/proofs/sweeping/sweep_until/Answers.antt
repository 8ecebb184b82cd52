use Rattle.std.proofs.Common.{◌≡◌, ◌+◌, ◌-◌, ◌<◌, ◌≤◌, refl, arith, length}
use Rattle.mtl_formulas.specs.declared.formula.LinkKind.TheVariants.{U}
use Rattle.mtl_formulas.specs.FormulaTree.{FormulaTree, link}
use Rattle.mtl_formulas.specs.Traces.{Trace}
use Rattle.mtl_early.specs.Inner.Cells.{AreRight}
use Rattle.mtl_early.proofs.Sweeps.{AreRight-more, SameOutside-more, operand_cell, ahead_value, bars_begin, hits_begin, bars_read, hits_read, until_is}
use Rattle.mtl_early.proofs.sweeping.sweep_until.Goals as goal

pub loop-age-init : goal.loop-age-init
loop-age-init c = record {
  bars = λ rows s few first. bars_begin rows s s c.args.lower;
  hits = λ rows s t few first second. hits_begin rows s t ((c.args.upper - c.args.lower) + 1) c.args.lower;
  right = λ rows s t few first second age below. absurd (omega (arith, below));
  others = λ k outside. refl;
}

pub loop-age-preserved : goal.loop-age-preserved
loop-age-preserved c =
    let a = c.args in
    let l = c.loop-age in
    let width = (a.upper - a.lower) + 1 in
    let room : a.at + a.size ≤ length l.cells = omega (arith, l.auto.cells, c.requires.inside) in
    let inside : a.at + l.age < length l.cells = omega (arith, room, c.loop-age-test.true) in
    let e = c.value_ahead-ahead.ensures in
    let here = λ (rows : Trace) (s : FormulaTree) (first : AreRight a.cells.now a.first a.size rows s). operand_cell a.cells.now l.cells _ a.first a.at a.size l.age l.age rows s l.invariant.others c.requires.first_below room c.loop-age-test.true first in
    let bars = λ (rows : Trace) (s : FormulaTree) (few : a.size ≤ length rows) (first : AreRight a.cells.now a.first a.size rows s).
    bars_read rows s s l.bars a.lower l.age _ c.negated.result (omega (arith, few, c.loop-age-test.true)) (here rows s first) c.negated.ensures (l.invariant.bars rows s few first) in
    let hits = λ (rows : Trace) (s t : FormulaTree) (few : a.size ≤ length rows) (first : AreRight a.cells.now a.first a.size rows s) (second : AreRight a.cells.now a.second a.size rows t).
    hits_read rows s t l.hits c.read.new.self width a.lower l.age _ c.value_ahead-ahead.result c.negated-in-loop-age.result c.lesser.result (omega (arith, few, c.loop-age-test.true))
    (here rows s first)
    (ahead_value a.cells.now l.cells c.value_ahead-ahead.result a.second a.at a.size l.age a.lower rows t l.invariant.others c.requires.second_below room c.loop-age-test.true few e.unfed e.fed second)
    (rw c.value.ensures at c.negated-in-loop-age.ensures) c.lesser.ensures (rw c.read.ensures (bars rows s few first)) (l.invariant.hits rows s t few first second) in
    record {
      bars = λ rows s few first. rw c.read.ensures (bars rows s few first);
      hits = λ rows s t few first second. rw (c.read-in-loop-age.ensures, c.limit.ensures) (hits rows s t few first second);
      right = λ rows s t few first second.
          AreRight-more l.cells a.at l.age c.value-in-loop-age.result inside rows (link U a.lower a.upper s t)
          (until_is rows s t c.read-in-loop-age.new.self width l.age a.lower a.upper c.value-in-loop-age.result (omega (arith, few, c.loop-age-test.true)) c.requires.ordered refl
          c.value-in-loop-age.ensures (rw (c.read-in-loop-age.ensures, c.limit.ensures) (hits rows s t few first second)))
          (l.invariant.right rows s t few first second);
      others = SameOutside-more l.cells a.at l.age c.value-in-loop-age.result inside a.cells.now l.invariant.others;
    }

pub returns-clause-right : goal.returns-clause-right
returns-clause-right c = λ rows s t few first second.
    let all : c.loop-age.age ≡ c.args.size = omega (arith, c.loop-age-test.false, c.loop-age.auto.age-end) in
    rw all at (c.loop-age.invariant.right rows s t few first second)
