use Rattle.std.proofs.Common.{◌≡◌, ℕ, ◌+◌, ◌<◌, List, [], ◌∷◌, ◌++◌, length, map, take, sym, ap, subst, ◌∙◌, arith}
use Rattle.std.proofs.lemmas.List.{map_more, take_all}
use Rattle.mtl_formulas.specs.declared.atom.Atom.TheVariants.{Never}
use Rattle.mtl_formulas.specs.FormulaTree.{FormulaTree, leaf, tree_of}
use Rattle.mtl_monitor.specs.Following.{IsProgramOf}
use Rattle.mtl_monitor.specs.declared.program.Program.{Program}
use Rattle.rule_set.specs.NamedTrees.{NamedTree, rule_at, rule_named}
use Rattle.rule_program.proofs.program_of.Goals as goal

abbrev trees_of : List NamedTree → List FormulaTree
trees_of rules = map (λ (rule : NamedTree). rule.tree) rules

one_more : (p : Program) (rules : List NamedTree) (k : ℕ) (t : FormulaTree) → k < length rules → t ≡ (rule_at rules k).tree
    → IsProgramOf p (trees_of (take k rules) ++ t ∷ []) → IsProgramOf p (trees_of (take (k + 1) rules))
one_more p rules k t lt is of =
    let more = map_more (λ (rule : NamedTree). rule.tree) rules k (rule_named [] (leaf Never)) lt in
    subst (IsProgramOf p) (ap (λ (u : FormulaTree). trees_of (take k rules) ++ u ∷ []) is ∙ sym more) of

all_of : (p : Program) (rules : List NamedTree) (k : ℕ) → length rules ≡ k → IsProgramOf p (trees_of (take k rules)) → IsProgramOf p (trees_of rules)
all_of p rules k is of = subst (λ (some : List NamedTree). IsProgramOf p (trees_of some)) (take_all k rules (omega (arith, is))) of

pub loop-rule-init : goal.loop-rule-init
loop-rule-init c = record {
  count = c.new-program.ensures.count;
  formulas = c.new-program.ensures.formulas;
}

pub loop-rule-preserved : goal.loop-rule-preserved
loop-rule-preserved c =
    let rules = c.args.rules.now in
    let k = c.loop-rule.rule in
    let now = c.in_ok-program.ensures in
    let count = c.len-rule-end.ensures.count in
    let lt = c.loop-rule-test.true in
    record {
      count = omega (arith, now.count, c.loop-rule.invariant.count);
      formulas = one_more c.in_ok-program.program rules k (tree_of c.formula.result.now) (omega (arith, count, lt)) c.formula.ensures.tree
          (now.formulas (trees_of (take k rules)) c.loop-rule.invariant.formulas);
    }

pub returns : goal.returns
returns c =
    let rules = c.args.rules.now in
    let k = c.loop-rule.rule in
    let fed : length rules ≡ k = omega (arith, c.len-rule-end.ensures.count, c.loop-rule-test.false, c.loop-rule.auto.rule-end) in
    record {
      formulas = all_of c.loop-rule.program rules k fed c.loop-rule.invariant.formulas;
      count = omega (arith, fed, c.loop-rule.invariant.count);
      few = omega (arith, fed, c.loop-rule.invariant.count, c.len-rule-end.ensures.rules.few);
    }
