-- Rules that are newly broken over a list of rows.
use Rattle.std.specs.Prelude.{ℕ, ◌<◌, List, slice_get, IsSomeAnd}
use Rattle.mtl_formulas.specs.Traces.{Trace}
use Rattle.rule_set.specs.NamedTrees.{NamedTree}
use Rattle.plan_situations.specs.FailingPlans.{IsNewlyBrokenHere}

module _ (rules : List NamedTree) (cut : ℕ) (rows : Trace) where
  -- The rule with this index is newly broken at a position.
  abbrev pub IsRuleBroken : ℕ → ℕ → Type 0
  IsRuleBroken position rule = IsSomeAnd (slice_get rules rule) (λ named. IsNewlyBrokenHere cut rows named.tree position)

  -- It is the first there.
  pub record IsFirstThere (position rule : ℕ) : Type 0 where
    pub broken : IsRuleBroken position rule
    pub no_rule_before : (other : ℕ) → other < rule → ¬ IsRuleBroken position other

  -- None is at an earlier position.
  pub record IsFirstOfAll (position rule : ℕ) : Type 0 where
    pub there : IsFirstThere position rule
    pub no_position_before : (other rule : ℕ) → other < position → ¬ IsRuleBroken other rule
