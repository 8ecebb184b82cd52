use Rattle.std.proofs.Common.{◌+◌, ◌-◌, ◌<◌, ◌≤◌, refl, arith, length}
use Rattle.mtl_formulas.specs.FormulaTree.{FormulaTree, span}
use Rattle.mtl_formulas.specs.Traces.{Trace}
use Rattle.mtl_early.specs.Inner.Cells.{AreRight, ahead_kind}
use Rattle.mtl_early.proofs.Sweeps.{AreRight-more, SameOutside-more, ahead_value, ahead_reads, ahead_is, ahead_begins}
use Rattle.mtl_early.proofs.sweeping.sweep_ahead.Goals as goal

pub loop-age-init : goal.loop-age-init
loop-age-init c = record {
  reads = λ rows s few right. ahead_begins c.args.turned ((c.args.upper - c.args.lower) + 1) c.args.lower rows s;
  right = λ rows s few right age below. absurd (omega (arith, below));
  others = λ k outside. refl;
}

pub loop-age-preserved : goal.loop-age-preserved
loop-age-preserved c =
    let a = c.args in
    let l = c.loop-age in
    let width = (a.upper - a.lower) + 1 in
    let room : a.at + a.size ≤ length l.cells = omega (arith, l.auto.cells, c.requires.inside) in
    let inside : a.at + l.age < length l.cells = omega (arith, room, c.loop-age-test.true) in
    let e = c.value_ahead-read.ensures in
    let reads = λ (rows : Trace) (s : FormulaTree) (few : a.size ≤ length rows) (right : AreRight a.cells.now a.operand a.size rows s).
    ahead_reads a.turned l.left width l.age a.lower rows s c.value_ahead-read.result c.seen.result (omega (arith, few, c.loop-age-test.true))
    (ahead_value a.cells.now l.cells c.value_ahead-read.result a.operand a.at a.size l.age a.lower rows s l.invariant.others c.requires.below room c.loop-age-test.true few e.unfed e.fed right)
    c.seen.ensures (l.invariant.reads rows s few right) in
    record {
      reads = λ rows s few right. rw c.read.ensures (reads rows s few right);
      right = λ rows s few right.
          AreRight-more l.cells a.at l.age c.seen-in-loop-age.result inside rows (span (ahead_kind a.turned) a.lower a.upper s)
          (ahead_is a.turned c.read.new.self width l.age a.lower a.upper rows s c.value.result c.seen-in-loop-age.result (omega (arith, few, c.loop-age-test.true)) c.requires.ordered refl
          c.value.ensures c.seen-in-loop-age.ensures (rw c.read.ensures (reads rows s few right)))
          (l.invariant.right rows s few right);
      others = SameOutside-more l.cells a.at l.age c.seen-in-loop-age.result inside a.cells.now l.invariant.others;
    }
