-- The formulas of rules.
use Rattle.std.proofs.Common.{◌≡◌, ℕ, zero, suc, ◌+◌, ◌<◌, List, [], ◌∷◌, ◌++◌, length, take, drop, append-nil, get_or, Option, None, Some, Result, Ok, Err, IfOk, refl, sym, ap, subst, ◌∙◌, arith}
use Rattle.std.proofs.lemmas.List.{drop_all, length_push, take_all, take_more}
use Rattle.mtl_monitor.specs.Following.{IsProgramOf, formula_at}
use Rattle.mtl_monitor.specs.declared.program.Program.{Program}
use Rattle.mtl_formulas.specs.FormulaTree.{FormulaTree, leaf}
use Rattle.mtl_formulas.specs.declared.atom.Atom.TheVariants.{Never}
use Rattle.rule_set.specs.NamedTrees.{NamedTree, rule_at, rule_named}
use Rattle.early_monitor.specs.declared.early_rule.EarlyRule.{EarlyRule}
use Rattle.early_monitor.specs.Alarms.{tree_of_rule}
use Rattle.early_monitor.specs.Inner.RulesWatched.{IsPlainProgram, plain_tree, plain_trees}

-- A rule that has no program of its own stands in the program of all by its formula.
pub formula_is : (early : List (Option EarlyRule)) (rules : List NamedTree) (k : ℕ) → length early ≡ length rules → k < length rules → get_or early k None ≡ None
    → formula_at (plain_trees early rules) k ≡ tree_of_rule rules k
formula_is _ [] k many lt plain = absurd (omega (arith, lt))
formula_is [] (rule ∷ rules) k many lt plain = absurd (omega (arith, many))
formula_is (None ∷ early) (rule ∷ rules) zero many lt plain = refl
formula_is (Some e ∷ early) (rule ∷ rules) zero many lt plain = absurd (cc)
formula_is (_ ∷ early) (rule ∷ rules) (suc k) many lt plain = formula_is early rules k (omega (arith, many)) (omega (arith, lt)) plain

pub plain_push : (early : List (Option EarlyRule)) (rules : List NamedTree) (e : Option EarlyRule) (rule : NamedTree) → length early ≡ length rules
    → plain_trees (early ++ e ∷ []) (rules ++ rule ∷ []) ≡ plain_trees early rules ++ plain_tree e rule.tree ∷ []
plain_push [] [] e rule many = refl
plain_push (d ∷ early) (r ∷ rules) e rule many = ap (λ (ts : List FormulaTree). plain_tree d r.tree ∷ ts) (plain_push early rules e rule (omega (arith, many)))
plain_push [] (r ∷ rules) e rule many = absurd (omega (arith, many))
plain_push (d ∷ early) [] e rule many = absurd (omega (arith, many))

-- a program with the formula that stands for one rule more
pub plain_more : {E : Type 0} (result : Result Program E) (early : List (Option EarlyRule)) (rules : List NamedTree) (e : Option EarlyRule) (rule : NamedTree) (t : FormulaTree)
    → t ≡ plain_tree e rule.tree → length early ≡ length rules → IfOk result (λ p. IsProgramOf p (plain_trees early rules ++ t ∷ []))
    → IfOk result (λ p. IsPlainProgram p (early ++ e ∷ []) (rules ++ rule ∷ []))
plain_more (Ok p) early rules e rule t is many of = record {
  of = rw (plain_push early rules e rule many, ← is) of;
  as_many = omega (arith, length_push early e, length_push rules rule, many);
}
plain_more (Err e) early rules _ rule t is many of = tt

-- the first rules of all with one more, and all of them
pub plain_one_more : (p : Program) (early : List (Option EarlyRule)) (rules : List NamedTree) (k : ℕ) (e : Option EarlyRule) → length early ≡ length rules → k < length rules
    → e ≡ get_or early k e → IsPlainProgram p (take k early ++ e ∷ []) (take k rules ++ rule_at rules k ∷ []) → IsPlainProgram p (take (k + 1) early) (take (k + 1) rules)
plain_one_more p early rules k e many lt is plain =
    let of_early = take_more early k e (omega (arith, many, lt)) ∙ ap (λ (d : Option EarlyRule). take k early ++ d ∷ []) (sym is) in
    let of_rules = take_more rules k (rule_named [] (leaf Never)) lt in
    subst (λ (some : List (Option EarlyRule)). IsPlainProgram p some (take (k + 1) rules)) (sym of_early)
    (subst (λ (some : List NamedTree). IsPlainProgram p (take k early ++ e ∷ []) some) (sym of_rules) plain)

pub plain_all : (p : Program) (early : List (Option EarlyRule)) (rules : List NamedTree) (k : ℕ) → length early ≡ length rules → length rules ≡ k
    → IsPlainProgram p (take k early) (take k rules) → IsPlainProgram p early rules
plain_all p early rules k many is plain =
    subst (λ (some : List (Option EarlyRule)). IsPlainProgram p some rules) (take_all k early (omega (arith, many, is)))
    (subst (λ (some : List NamedTree). IsPlainProgram p (take k early) some) (take_all k rules (omega (arith, is))) plain)
