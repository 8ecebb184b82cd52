use Rattle.std.proofs.Common.{[], refl, sym, arith}
use Rattle.mtl_formulas.specs.FormulaTree.{leaf, tree_of}
use Rattle.mtl_formulas.specs.declared.atom.Atom.TheVariants.{Never}
use Rattle.rule_set.specs.NamedTrees.{rule_at, rule_named}
use Rattle.rule_program.proofs.LagsOfRules.{all_no_last, one_more, same_lag}
use Rattle.rule_program.proofs.lags.are_no_last.Goals as goal

pub returns-then-not-is_no_last-clause-lags : goal.returns-then-not-is_no_last-clause-lags
returns-then-not-is_no_last-clause-lags c =
    let count = c.len-rule-end.ensures.count in
    let lt = c.loop-rule-test.true in
    let k = c.loop-rule.rule in (
      λ t. cc,
      λ all.
          let whole = all k (rule_named [] (leaf Never)) (omega arith) in
          let told = c.is_no_last.ensures.1 (same_lag (rule_at c.args.rules.now k).tree (tree_of c.formula.result.now) (sym c.formula.ensures.tree) whole) in
          let not_so = c.if-not-is_no_last.true in
          cc,
    )

pub loop-rule-preserved : goal.loop-rule-preserved
loop-rule-preserved c =
    let count = c.len-rule-end.ensures.count in
    let lt = c.loop-rule-test.true in
    let k = c.loop-rule.rule in
    one_more c.args.rules.now k (omega arith)
    (same_lag (tree_of c.formula.result.now) (rule_at c.args.rules.now k).tree c.formula.ensures.tree (c.is_no_last.ensures.0 c.if-not-is_no_last.false)) c.loop-rule.invariant

pub returns-clause-lags : goal.returns-clause-lags
returns-clause-lags c =
    let count = c.len-rule-end.ensures.count in
    let over = c.loop-rule-test.false in (
      λ t k d lt. c.loop-rule.invariant k d (omega arith),
      λ all. refl,
    )

pub returns-clause-last : goal.returns-clause-last
returns-clause-last c = λ t.
    let count = c.len-rule-end.ensures.count in
    let over = c.loop-rule-test.false in
    all_no_last c.args.rules.now c.len-rule-end.ensures.rules.valid (λ k d lt. c.loop-rule.invariant k d (omega arith))
