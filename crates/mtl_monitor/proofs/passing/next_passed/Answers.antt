use Rattle.std.proofs.Common.{◌∙◌, ◌%◌, true, false, arith, below_more}
use Rattle.std.proofs.lemmas.List.{get_or_default}
use Rattle.mtl_monitor.specs.Inner.Standing.{node_at, late_at}
use Rattle.mtl_monitor.specs.Inner.Marks.{IsMarked, IsUnmarked}
use Rattle.mtl_monitor.specs.Inner.Triggers.{trigger_at}
use Rattle.mtl_monitor.proofs.Operands.{operands_are}
use Rattle.mtl_monitor.proofs.passing.next_passed.Goals as goal

pub loop-k-preserved : goal.loop-k-preserved
loop-k-preserved c =
    let k = c.loop-k.k in
    let here = c.loop-k-test.true in
    let is = c.requires.triggers.1 k here in
    below_more _ _ c.loop-k.invariant
    (λ from.
    record {
      rests = get_or_default c.args.moving.now k true false (omega (arith, c.requires.moving, here)) ∙ c.if-moving-k.false;
      uncrossed = c.crossing-crossing.ensures (late_at c.args.nodes.now k) (λ same. c.if-trigger-crossing.false (is.1 ∙ same));
      unmarked =
          operands_are (IsMarked (trigger_at c.args.triggers.now k).operands) (IsUnmarked c.args.marks)
          (λ a set. c.are_unset.ensures c.if-not-are_unset.false (a % 64) set) (node_at c.args.nodes.now k).operator is.0;
    })
