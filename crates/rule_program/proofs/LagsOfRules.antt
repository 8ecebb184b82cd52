-- Rules whose formulas' lag of No is their whole reach.
use Rattle.std.proofs.Common.{◌≡◌, ℕ, zero, suc, ◌+◌, ◌<◌, List, [], ◌∷◌, length, map, get_or, inl, inr, subst, arith}
use Rattle.std.specs.Prelude.{All}
use Rattle.std.proofs.lemmas.Bool.{cases_lt}
use Rattle.std.proofs.lemmas.List.{get_or_default}
use Rattle.mtl_formulas.specs.declared.atom.Atom.TheVariants.{Never}
use Rattle.mtl_formulas.specs.FormulaTree.{FormulaTree, leaf}
use Rattle.mtl_formulas.specs.FormulaMeasures.{IsValid, reach_of}
use Rattle.rule_set.specs.NamedTrees.{NamedTree, rule_at, rule_named}
use Rattle.rule_program.specs.Lags.{IsNoLast, lags_of}
use Rattle.rule_program.proofs.LagLaws.{value-HasLags}

abbrev pub HasWholeLag : FormulaTree → Type 0
HasWholeLag t = (lags_of t).no ≡ reach_of t

-- The rules before this index have it.
abbrev pub HaveWholeLags : List NamedTree → ℕ → Type 0
HaveWholeLags rules n = (k : ℕ) (d : NamedTree) → k < n → HasWholeLag (get_or rules k d).tree

pub one_more : (rules : List NamedTree) (k : ℕ) → k < length rules → HasWholeLag (rule_at rules k).tree → HaveWholeLags rules k → HaveWholeLags rules (k + 1)
one_more rules k inside here before j d lt = elim (cases_lt j k) [
  | inl earlier ↦ before j d earlier
  | inr last ↦ (let e : k ≡ j = omega arith in
      subst (λ (i : ℕ). HasWholeLag (get_or rules i d).tree) e
      (subst (λ (rule : NamedTree). HasWholeLag rule.tree) (get_or_default rules k (rule_named [] (leaf Never)) d inside) here))
]

pub same_lag : (s t : FormulaTree) → s ≡ t → HasWholeLag s → HasWholeLag t
same_lag s t e h = subst HasWholeLag e h

pub is_no_last : (t : FormulaTree) → IsValid t → HasWholeLag t → IsNoLast t
is_no_last t valid whole = λ rows i e. rw whole at ((value-HasLags rows t valid.parts).no i e)

pub all_no_last : (rules : List NamedTree) → All (λ (rule : NamedTree). IsValid rule.tree) rules → All (λ (rule : NamedTree). HasWholeLag rule.tree) rules
    → All IsNoLast (map (λ (rule : NamedTree). rule.tree) rules)
all_no_last [] valid whole k d lt = absurd (omega arith)
all_no_last (x ∷ rules) valid whole zero d lt = is_no_last x.tree (valid 0 x (omega arith)) (whole 0 x (omega arith))
all_no_last (x ∷ rules) valid whole (suc k) d lt =
    all_no_last rules (λ j e below. valid (suc j) e (omega arith)) (λ j e below. whole (suc j) e (omega arith)) k d (omega arith)
