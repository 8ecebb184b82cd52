use Rattle.std.proofs.Common.{◌≡◌, ◌+◌, ◌-◌, ◌*◌}
use Rattle.mtl_formulas.specs.VerdictOrder.{least}
use Rattle.mtl_formulas.specs.FormulaTree.{tree_of}
use Rattle.mtl_formulas.specs.FormulaMeasures.{node_count}
use Rattle.mtl_formulas.specs.FormulaValue.{value_of, greatest_over, least_over}
use Rattle.mtl_formulas.proofs.evaluation.+evaluation.Given as goal

-- what the positions so far give
abbrev pub invariant-greatest_ahead-loop-distance : goal.invariant-greatest_ahead-loop-distance
invariant-greatest_ahead-loop-distance g l =
    l.greatest ≡ greatest_over (value_of g.A.Atoms.answer l.rows (tree_of l.formula)) (l.i + l.lower) (l.distance - l.lower)

abbrev pub invariant-least_ahead-loop-distance : goal.invariant-least_ahead-loop-distance
invariant-least_ahead-loop-distance g l =
    l.least ≡ least_over (value_of g.A.Atoms.answer l.rows (tree_of l.formula)) (l.i + l.from) (l.distance - l.from)

abbrev pub invariant-greatest_back-loop-distance : goal.invariant-greatest_back-loop-distance
invariant-greatest_back-loop-distance g l =
    let start = (l.i + 1) - l.distance in
    l.greatest ≡ greatest_over (value_of g.A.Atoms.answer l.rows (tree_of l.formula)) start (((l.i + 1) - l.lower) - start)

abbrev pub invariant-least_back-loop-distance : goal.invariant-least_back-loop-distance
invariant-least_back-loop-distance g l =
    let start = (l.i + 1) - l.distance in
    l.least ≡ least_over (value_of g.A.Atoms.answer l.rows (tree_of l.formula)) start (((l.i + 1) - l.from) - start)

-- what the positions so far give, and a before the next of them
abbrev pub invariant-until-loop-distance : goal.invariant-until-loop-distance
invariant-until-loop-distance g l =
    let a = value_of g.A.Atoms.answer l.rows (tree_of l.a) in
    let b = value_of g.A.Atoms.answer l.rows (tree_of l.b) in
    record {
      before : l.before ≡ least_over a l.i l.distance;
      greatest : l.greatest ≡ greatest_over (λ k. least (b k) (least_over a l.i (k - l.i))) (l.i + l.lower) (l.distance - l.lower);
    }

-- what the positions so far give, and a after the next of them
abbrev pub invariant-since-loop-distance : goal.invariant-since-loop-distance
invariant-since-loop-distance g l =
    let a = value_of g.A.Atoms.answer l.rows (tree_of l.a) in
    let b = value_of g.A.Atoms.answer l.rows (tree_of l.b) in
    let start = (l.i + 1) - l.distance in
    record {
      after : l.after ≡ least_over a start ((l.i + 1) - start);
      greatest : l.greatest ≡ greatest_over (λ k. least (b k) (least_over a (k + 1) (l.i - k))) start (((l.i + 1) - l.lower) - start);
    }

-- Each call is of an operand, or of the same formula by a function that is nearer to value.
abbrev pub decreases-value : goal.decreases-value
decreases-value g l = 5 * node_count (tree_of l.formula.now)

abbrev pub decreases-value_ahead : goal.decreases-value_ahead
decreases-value_ahead g l = 5 * node_count (tree_of l.formula.now) + 1

abbrev pub decreases-greatest_ahead : goal.decreases-greatest_ahead
decreases-greatest_ahead g l = 5 * node_count (tree_of l.formula.now) + 2

abbrev pub decreases-least_ahead : goal.decreases-least_ahead
decreases-least_ahead g l = 5 * node_count (tree_of l.formula.now) + 2

abbrev pub decreases-greatest_back : goal.decreases-greatest_back
decreases-greatest_back g l = 5 * node_count (tree_of l.formula.now) + 2

abbrev pub decreases-least_back : goal.decreases-least_back
decreases-least_back g l = 5 * node_count (tree_of l.formula.now) + 2

abbrev pub decreases-until : goal.decreases-until
decreases-until g l = 5 * (node_count (tree_of l.a.now) + node_count (tree_of l.b.now)) + 3

abbrev pub decreases-since : goal.decreases-since
decreases-since g l = 5 * (node_count (tree_of l.a.now) + node_count (tree_of l.b.now)) + 3

abbrev pub decreases-pair_value : goal.decreases-pair_value
decreases-pair_value g l = 5 * (node_count (tree_of l.a.now) + node_count (tree_of l.b.now)) + 4

abbrev pub decreases-span_value : goal.decreases-span_value
decreases-span_value g l = 5 * node_count (tree_of l.a.now) + 4

abbrev pub decreases-link_value : goal.decreases-link_value
decreases-link_value g l = 5 * (node_count (tree_of l.a.now) + node_count (tree_of l.b.now)) + 4
