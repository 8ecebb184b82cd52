use Rattle.std.proofs.Common.{ℕ, ◌+◌, ◌-◌, List, ◌++◌, length, sym, subst}
use Rattle.std.specs.Prelude.{Option}
use Rattle.encounters.specs.declared.pair_step.PairStep.{PairStep}
use Rattle.meetings.specs.Atoms.{IsRankedRow}
use Rattle.meetings.specs.Traces.{steps_from}
use Rattle.meetings.proofs.ForCallers.{riskless_before, row_behind, steps_from-length, window_split}
use Rattle.meetings.proofs.laws.no_engagement_before_the_trace.Goals as goal

pub returns : goal.returns
returns c = λ terms ranks a b end start steps i answers trace row.
    let front : List (Option PairStep) = steps_from a b 0 start in
    let behind : IsRankedRow terms ranks (front ++ steps) (length front + i) answers =
    row_behind terms ranks front steps (riskless_before terms.detect a b end start trace.begins) i answers
    (subst (λ (n : ℕ). IsRankedRow terms (λ k. ranks (n + k)) steps i answers) (sym (steps_from-length a b 0 start)) row) in
    let at : IsRankedRow terms ranks (front ++ steps) (start + i) answers =
    subst (λ (n : ℕ). IsRankedRow terms ranks (front ++ steps) (n + i) answers) (steps_from-length a b 0 start) behind in
    let window : IsRankedRow terms ranks (front ++ steps_from a b start (end - start)) (start + i) answers =
    subst (λ (s : List (Option PairStep)). IsRankedRow terms ranks (front ++ s) (start + i) answers) trace.are_steps at in
    subst (λ (s : List (Option PairStep)). IsRankedRow terms ranks s (start + i) answers) (sym (window_split terms.detect a b end start trace.begins)) window
