use Rattle.std.proofs.Common.{◌≡◌, ℕ, ◌+◌, ◌<◌, List, [], ◌∷◌, ◌++◌, length, get_or, inl, inr, Option, None, sym, ap, subst, ◌∙◌, arith}
use Rattle.std.proofs.lemmas.Bool.{cases_lt}
use Rattle.std.proofs.lemmas.List.{get_or_append_left, get_or_push, length_push}
use Rattle.mtl_formulas.specs.FormulaTree.{FormulaTree}
use Rattle.rule_set.specs.NamedTrees.{NamedTree}
use Rattle.early_monitor.specs.Alarms.{tree_of_rule}
use Rattle.early_monitor.specs.declared.early_rule.EarlyRule.{EarlyRule}
use Rattle.early_monitor.specs.Inner.RulesWatched.{IsWatchedAs}
use Rattle.early_monitor.proofs.rule_lists.early_rules.Goals as goal

-- The first of them are watched so.
abbrev AreSo : List (Option EarlyRule) → List NamedTree → ℕ → Type 0
AreSo early rules n = (k : ℕ) → k < n → IsWatchedAs (get_or early k None) (tree_of_rule rules k)

one_more : (early : List (Option EarlyRule)) (rules : List NamedTree) (n : ℕ) (e : Option EarlyRule) → length early ≡ n → AreSo early rules n → IsWatchedAs e (tree_of_rule rules n)
    → AreSo (early ++ e ∷ []) rules (n + 1)
one_more early rules n e many before last k lt = elim (cases_lt k n) [
  | inl earlier ↦ subst (λ (d : Option EarlyRule). IsWatchedAs d (tree_of_rule rules k)) (sym (get_or_append_left early (e ∷ []) None k (omega (arith, many, earlier)))) (before k earlier)
  | inr after ↦ (let at : k ≡ n = omega (arith, lt, after) in
      subst (λ (j : ℕ). IsWatchedAs (get_or (early ++ e ∷ []) j None) (tree_of_rule rules j)) (sym at)
      (subst (λ (d : Option EarlyRule). IsWatchedAs d (tree_of_rule rules n)) (sym (get_or_push early e None n many)) last))
]

pub loop-rule-init : goal.loop-rule-init
loop-rule-init c = record {
  count = ap (λ (early : List (Option EarlyRule)). length early) c.new-early.ensures.items;
  each = λ k lt. absurd (omega (arith, lt));
}

pub loop-rule-preserved : goal.loop-rule-preserved
loop-rule-preserved c =
    let rules = c.args.rules.now in
    let n = c.loop-rule.rule in
    let old : List (Option EarlyRule) = c.loop-rule.early.items in
    let new : List (Option EarlyRule) = c.push.new.self.items in
    let e : Option EarlyRule = c.in_ok-of.field-0 in
    let inv = c.loop-rule.invariant in
    let items : new ≡ old ++ e ∷ [] = c.in_ok-push.ensures.items in
    let last : IsWatchedAs e (tree_of_rule rules n) = subst (λ (t : FormulaTree). IsWatchedAs e t) c.formula.ensures.tree c.in_ok-of.ensures in
    record {
      count = omega (arith, length_push old e, ap (λ (early : List (Option EarlyRule)). length early) items, inv.count);
      each = subst (λ (early : List (Option EarlyRule)). AreSo early rules (n + 1)) (sym items) (one_more old rules n e inv.count inv.each last);
    }

pub returns : goal.returns
returns c =
    let inv = c.loop-rule.invariant in
    let all : c.loop-rule.rule ≡ length c.args.rules.now = omega (arith, c.len-rule-end.ensures.count, c.loop-rule-test.false, c.loop-rule.auto.rule-end) in
    record {
      as_many = inv.count ∙ all;
      each = λ k lt. inv.each k (omega (arith, lt, all));
    }
