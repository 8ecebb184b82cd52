use Rattle.std.proofs.Common.{◌≡◌, ◌+◌, ◌-◌, length, min, refl, sym, arith}
use Rattle.mtl_formulas.specs.VerdictOrder.{least}
use Rattle.mtl_formulas.specs.FormulaTree.{tree_of}
use Rattle.mtl_formulas.specs.FormulaValue.{value_of, least_over}
use Rattle.mtl_formulas.proofs.Values.{value_of-past, value_of-min}
use Rattle.mtl_formulas.proofs.Verdicts.{greatest_over-past, least_over-past, greatest_over-ahead, least_over-ahead, least_over-one_more, greatest_over-back, least_over-back, until_at, since_at}
use Rattle.mtl_formulas.proofs.evaluation.+evaluation.Goals as goal

pub value-returns-then-i-rows : goal.value-returns-then-i-rows
value-returns-then-i-rows g t c =
    sym (value_of-past g.A.Atoms.answer c.args.rows.now (tree_of c.args.formula.now) c.args.i (omega arith))

pub value_ahead-returns : goal.value_ahead-returns
value_ahead-returns g t c =
    let ahead = c.args.i + c.args.distance in
    let at_end : c.min-position.result ≡ min ahead (length c.args.rows.now) = omega arith in
    rw (c.value.ensures, at_end) (value_of-min g.A.Atoms.answer c.args.rows.now (tree_of c.args.formula.now) ahead)

pub greatest_ahead-loop-distance-preserved : goal.greatest_ahead-loop-distance-preserved
greatest_ahead-loop-distance-preserved g t c =
    greatest_over-ahead _ c.args.i c.args.lower c.loop-distance.distance _ _ _ (omega arith)
    c.or-greatest.ensures c.loop-distance.invariant c.value_ahead.ensures

pub least_ahead-loop-distance-preserved : goal.least_ahead-loop-distance-preserved
least_ahead-loop-distance-preserved g t c =
    least_over-ahead _ c.args.i c.args.from c.loop-distance.distance _ _ _ (omega arith)
    c.and-least.ensures c.loop-distance.invariant c.value_ahead.ensures

pub until-loop-distance-preserved : goal.until-loop-distance-preserved
until-loop-distance-preserved g t c =
    let i = c.args.i in
    let distance = c.loop-distance.distance in
    let a = value_of g.A.Atoms.answer c.args.rows.now (tree_of c.args.a.now) in
    let b = value_of g.A.Atoms.answer c.args.rows.now (tree_of c.args.b.now) in
    record {
      before = least_over-one_more a i distance _ _ _ c.and-before.ensures c.loop-distance.invariant.before c.value_ahead-in-loop-distance.ensures;
      greatest =
          greatest_over-ahead (λ k. least (b k) (least_over a i (k - i))) i c.args.lower distance _ _ _ (omega arith)
          c.or-greatest.ensures c.loop-distance.invariant.greatest
          (until_at a b i distance _ _ _ c.and.ensures c.value_ahead.ensures c.loop-distance.invariant.before);
    }

pub since-loop-distance-preserved : goal.since-loop-distance-preserved
since-loop-distance-preserved g t c =
    let i = c.args.i in
    let distance = c.loop-distance.distance in
    let a = value_of g.A.Atoms.answer c.args.rows.now (tree_of c.args.a.now) in
    let b = value_of g.A.Atoms.answer c.args.rows.now (tree_of c.args.b.now) in
    record {
      after =
          least_over-back a i (i + 1) distance _ _ _ (omega arith) (omega arith)
          c.and-after.ensures c.value-in-loop-distance.ensures c.loop-distance.invariant.after;
      greatest =
          greatest_over-back (λ k. least (b k) (least_over a (k + 1) (i - k))) i ((i + 1) - c.args.lower) distance _ _ _ (omega arith) (omega arith)
          c.or-greatest.ensures (since_at a b i distance _ _ _ (omega arith) c.and.ensures c.value.ensures c.loop-distance.invariant.after)
          c.loop-distance.invariant.greatest;
    }

pub greatest_back-loop-distance-preserved : goal.greatest_back-loop-distance-preserved
greatest_back-loop-distance-preserved g t c =
    greatest_over-back _ c.args.i ((c.args.i + 1) - c.args.lower) c.loop-distance.distance _ _ _ (omega arith) (omega arith)
    c.or-greatest.ensures c.value.ensures c.loop-distance.invariant

pub least_back-loop-distance-preserved : goal.least_back-loop-distance-preserved
least_back-loop-distance-preserved g t c =
    least_over-back _ c.args.i ((c.args.i + 1) - c.args.from) c.loop-distance.distance _ _ _ (omega arith) (omega arith)
    c.and-least.ensures c.value.ensures c.loop-distance.invariant

pub greatest_ahead-returns : goal.greatest_ahead-returns
greatest_ahead-returns g t c =
    let all : c.loop-distance.distance ≡ c.args.upper + 1 = omega arith in
    rw all at c.loop-distance.invariant

pub least_ahead-returns : goal.least_ahead-returns
least_ahead-returns g t c =
    let all : c.loop-distance.distance ≡ c.args.end = omega arith in
    rw all at c.loop-distance.invariant

pub greatest_back-returns : goal.greatest_back-returns
greatest_back-returns g t c =
    let end = c.min-distance-end.ensures in
    greatest_over-past _ c.args.i c.args.lower c.args.upper c.loop-distance.distance _ c.requires.ordered c.loop-distance.auto.distance
    (rw end at c.loop-distance-test.false) (rw end at c.loop-distance.auto.distance-end) c.loop-distance.invariant

pub least_back-returns : goal.least_back-returns
least_back-returns g t c =
    let end = c.min-distance-end.ensures in
    least_over-past _ c.args.i c.args.from c.args.end c.loop-distance.distance _ c.requires.ordered c.loop-distance.auto.distance
    (rw end at c.loop-distance-test.false) (rw end at c.loop-distance.auto.distance-end) c.loop-distance.invariant

pub until-returns : goal.until-returns
until-returns g t c =
    let all : c.loop-distance.distance ≡ c.args.upper + 1 = omega arith in
    rw all at c.loop-distance.invariant.greatest

pub since-returns : goal.since-returns
since-returns g t c =
    let end = c.min-distance-end.ensures in
    greatest_over-past _ c.args.i c.args.lower c.args.upper c.loop-distance.distance _ c.requires.ordered c.loop-distance.auto.distance
    (rw end at c.loop-distance-test.false) (rw end at c.loop-distance.auto.distance-end) c.loop-distance.invariant.greatest

pub pair_value-returns-in-And-No : goal.pair_value-returns-in-And-No
pair_value-returns-in-And-No g t c = rw (c.in-And-No.is-0, ← c.value-first.ensures, c.in-And-No.is-1) refl

pub pair_value-returns-in-And-default : goal.pair_value-returns-in-And-default
pair_value-returns-in-And-default g t c = rw (c.in-And-default.is-0, ← c.value-first.ensures, ← c.value.ensures) c.and.ensures

pub pair_value-returns-in-Or-Yes : goal.pair_value-returns-in-Or-Yes
pair_value-returns-in-Or-Yes g t c = rw (c.in-Or-Yes.is-0, ← c.value-first.ensures, c.in-Or-Yes.is-1) refl

pub pair_value-returns-in-Or-default : goal.pair_value-returns-in-Or-default
pair_value-returns-in-Or-default g t c = rw (c.in-Or-default.is-0, ← c.value-first.ensures, ← c.value-in-Or-default.ensures) c.or.ensures

pub pair_value-returns-in-Implies-default : goal.pair_value-returns-in-Implies-default
pair_value-returns-in-Implies-default g t c =
    rw (c.in-Implies-default.is-0, ← c.value-first.ensures, ← c.value-in-Implies-default.ensures, ← c.negated.ensures) c.or-in-Implies-default.ensures
