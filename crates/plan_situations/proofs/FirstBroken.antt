-- The first rule that is newly broken over a list of rows.
use Rattle.std.proofs.Common.{ℕ, zero, suc, ◌<◌, List, [], ◌∷◌, length, arith}
use Rattle.std.specs.Prelude.{slice_get, IsSomeAnd}
use Rattle.mtl_formulas.specs.FormulaTree.{FormulaTree}
use Rattle.mtl_formulas.specs.Traces.{Trace}
use Rattle.rule_set.specs.NamedTrees.{NamedTree, rule_at}
use Rattle.plan_situations.specs.FailingPlans.{IsNewlyBrokenHere}
use Rattle.plan_situations.specs.Inner.FirstBroken.{IsFirstThere, IsRuleBroken}
use Rattle.plan_situations.proofs.Lifting.{no_within}

-- ---- the rule with an index

pub rule_known : (rules : List NamedTree) (P : FormulaTree → Type 0) (k : ℕ) → k < length rules → P (rule_at rules k).tree
    → IsSomeAnd (slice_get rules k) (λ (named : NamedTree). P named.tree)
rule_known [] P k lt h = absurd (omega arith)
rule_known (x ∷ rules) P zero lt h = h
rule_known (x ∷ rules) P (suc k) lt h = rule_known rules P k (omega arith) h

pub rule_there : (rules : List NamedTree) (P : FormulaTree → Type 0) (k : ℕ) → IsSomeAnd (slice_get rules k) (λ (named : NamedTree). P named.tree)
    → (k < length rules) × P (rule_at rules k).tree
rule_there [] P k h = absurd h
rule_there (x ∷ rules) P zero h = (omega arith, h)
rule_there (x ∷ rules) P (suc k) h = let inner = rule_there rules P k h in let lt = inner.0 in (omega arith, inner.1)

-- ---- over the rows

module _ (rules : List NamedTree) (cut : ℕ) (rows : Trace) where
  pub first_there : (position rule : ℕ) → rule < length rules → IsNewlyBrokenHere cut rows (rule_at rules rule).tree position
      → ((i : ℕ) → i < rule → ¬ IsNewlyBrokenHere cut rows (rule_at rules i).tree position) → IsFirstThere rules cut rows position rule
  first_there position rule lt here before = record {
    broken = rule_known rules (λ (f : FormulaTree). IsNewlyBrokenHere cut rows f position) rule lt here;
    no_rule_before = λ other less h. before other less (rule_there rules (λ (f : FormulaTree). IsNewlyBrokenHere cut rows f position) other h).1;
  }

  pub none_there : (position : ℕ) → ((i : ℕ) → i < length rules → ¬ IsNewlyBrokenHere cut rows (rule_at rules i).tree position)
      → (rule : ℕ) → ¬ IsRuleBroken rules cut rows position rule
  none_there position none rule h =
      let there = rule_there rules (λ (f : FormulaTree). IsNewlyBrokenHere cut rows f position) rule h in none rule there.0 there.1

  pub broken_within : (position rule : ℕ) → IsRuleBroken rules cut rows position rule → position < length rows
  broken_within position rule h =
      let there = rule_there rules (λ (f : FormulaTree). IsNewlyBrokenHere cut rows f position) rule h in
      no_within rows (rule_at rules rule).tree position there.1.broken

  pub none_at_all : ((i rule : ℕ) → i < length rows → ¬ IsRuleBroken rules cut rows i rule) → (position rule : ℕ) → ¬ IsRuleBroken rules cut rows position rule
  none_at_all none position rule h = none position rule (broken_within position rule h) h
