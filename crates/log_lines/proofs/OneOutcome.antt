-- Each line has exactly one outcome.
use Rattle.std.proofs.Common.{◌≡◌, ◌==◌, ℕ, suc, ◌+◌, cond, List, [], ◌∷◌, ◌++◌, length, sum_by, refl, ap, ◌∙◌, arith}
use Rattle.std.proofs.lemmas.List.Sums.{sum_by-cons}
use Rattle.log_lines.specs.EachLine.{each_after}
use Rattle.log_lines.specs.JudgedLines.{count_of, judged_line, judged_lines, outcome_of}
use Rattle.log_lines.specs.LineOutcomes.{all_outcomes, outcome_index}
use Rattle.log_lines.specs.LogLines.{lines_of}
use Rattle.log_lines.specs.declared.judged.Judged.{Judged}
use Rattle.log_lines.specs.declared.outcome.LineOutcome.{LineOutcome}
use Rattle.log_lines.specs.declared.outcome.LineOutcome.TheVariants as outcomes
use Rattle.scenario_values.specs.declared.values.Scenario.{Scenario}

-- 1 where a line came to the outcome, else 0
abbrev counted : LineOutcome → LineOutcome → ℕ
counted came outcome = cond (outcome_index came == outcome_index outcome) 1 0

-- a line is counted once
once : (came : LineOutcome) → sum_by (counted came) all_outcomes ≡ 1
unfolding all_outcomes
once outcomes.Empty = refl
once outcomes.Long = refl
once outcomes.Tag = refl
once outcomes.Other = refl
once outcomes.Form = refl
once outcomes.Sum = refl
once outcomes.Armour = refl
once outcomes.Outside = refl
once outcomes.Late = refl
once outcomes.Part = refl
once outcomes.Orphan = refl
once outcomes.Short = refl
once outcomes.Kind = refl
once outcomes.NotShip = refl
once outcomes.NoPos = refl
once outcomes.Far = refl
once outcomes.Back = refl
once outcomes.Repeat = refl
once outcomes.Jump = refl
once outcomes.Static = refl
once outcomes.Point = refl

sum_by-sum : (f g : LineOutcome → ℕ) (xs : List LineOutcome) → sum_by (λ x. f x + g x) xs ≡ sum_by f xs + sum_by g xs
sum_by-sum f g [] = refl
sum_by-sum f g (x ∷ xs) =
    omega (arith, sum_by-cons (λ y. f y + g y) x xs, sum_by-cons f x xs, sum_by-cons g x xs, sum_by-sum f g xs)

no_lines : (xs : List LineOutcome) → sum_by (λ outcome. count_of outcome []) xs ≡ 0
no_lines [] = refl
no_lines (x ∷ xs) =
    let none : count_of x [] ≡ 0 = refl in
    omega (arith, sum_by-cons (λ outcome. count_of outcome []) x xs, none, no_lines xs)

count_of-cons : (outcome : LineOutcome) (line : Judged) (lines : List Judged)
    → count_of outcome (line ∷ lines) ≡ counted (outcome_of line) outcome + count_of outcome lines
count_of-cons outcome line lines = sum_by-cons (λ (l : Judged). cond (outcome_index (outcome_of l) == outcome_index outcome) 1 0) line lines

counts_sum : (lines : List Judged) → sum_by (λ outcome. count_of outcome lines) all_outcomes ≡ length lines
counts_sum [] = no_lines all_outcomes
counts_sum (line ∷ lines) =
    (λ i. sum_by (λ outcome. count_of-cons outcome line lines i) all_outcomes)
    ∙ sum_by-sum (counted (outcome_of line)) (λ outcome. count_of outcome lines) all_outcomes
    ∙ omega (arith, once (outcome_of line), counts_sum lines)

pub each_after-length : {A B : Type 0} (f : List A → A → B) (before xs : List A) → length (each_after f before xs) ≡ length xs
unfolding each_after
each_after-length f before [] = refl
each_after-length f before (x ∷ xs) = ap suc (each_after-length f (before ++ x ∷ []) xs)

pub one_outcome : (scenario : Scenario) (log : List ℕ)
    → sum_by (λ outcome. count_of outcome (judged_lines scenario (lines_of log))) all_outcomes ≡ length (lines_of log)
unfolding judged_lines
one_outcome scenario log = counts_sum (judged_lines scenario (lines_of log)) ∙ each_after-length (judged_line scenario) [] (lines_of log)
