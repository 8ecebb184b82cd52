-- The counts of the outcomes, behind one line more.
use Rattle.std.proofs.Common.{◌≡◌, ◌≢◌, ◌<◌, ℕ, ◌+◌, ◌-◌, ◌^◌, min, Bool, true, false, cond, List, [], ◌∷◌, ◌++◌, length, replicate, count_by, slice_index, slice_set, refl, sym, lit<, ap, ◌∙◌, arith}
use Rattle.std.proofs.lemmas.Bool.Decides.{nat_tests}
use Rattle.std.proofs.lemmas.Grind.{common_steps, get_or-set_at}
use Rattle.std.proofs.lemmas.List.{get_or-replicate, get_or-set_other, length-set}
use Rattle.std.proofs.lemmas.List.Sums.{sum_by_push, count_by-le-length}
use Rattle.log_lines.specs.JudgedLines.{outcome_of}
use Rattle.log_lines.specs.LineOutcomes.{outcome_index}
use Rattle.log_lines.specs.Standing.{AreCounts, is_at_place}
use Rattle.log_lines.specs.declared.judged.Judged.{Judged}
use Rattle.log_lines.specs.declared.outcome.LineOutcome.{LineOutcome}
use Rattle.log_lines.specs.declared.outcome.LineOutcome.TheVariants as outcome

pub place_within : (o : LineOutcome) → outcome_index o < 21
place_within outcome.Empty = lit< tt
place_within outcome.Long = lit< tt
place_within outcome.Tag = lit< tt
place_within outcome.Other = lit< tt
place_within outcome.Form = lit< tt
place_within outcome.Sum = lit< tt
place_within outcome.Armour = lit< tt
place_within outcome.Outside = lit< tt
place_within outcome.Late = lit< tt
place_within outcome.Part = lit< tt
place_within outcome.Orphan = lit< tt
place_within outcome.Short = lit< tt
place_within outcome.Kind = lit< tt
place_within outcome.NotShip = lit< tt
place_within outcome.NoPos = lit< tt
place_within outcome.Far = lit< tt
place_within outcome.Back = lit< tt
place_within outcome.Repeat = lit< tt
place_within outcome.Jump = lit< tt
place_within outcome.Static = lit< tt
place_within outcome.Point = lit< tt

count_by_push_yes : (p : Judged → Bool) (lines : List Judged) (next : Judged) → p next ≡ true → count_by p (lines ++ next ∷ []) ≡ count_by p lines + 1
count_by_push_yes p lines next is = grind (arith, common_steps, sum_by_push (λ line. cond (p line) 1 0) lines next, is)

count_by_push_no : (p : Judged → Bool) (lines : List Judged) (next : Judged) → p next ≡ false → count_by p (lines ++ next ∷ []) ≡ count_by p lines
count_by_push_no p lines next isnt = grind (arith, common_steps, sum_by_push (λ line. cond (p line) 1 0) lines next, isnt)

-- a count, one further as far as a count goes
abbrev further : ℕ → ℕ
further n = min (n + 1) (2 ^ 64 - 1)

counted_at : (counts : List ℕ) (lines : List Judged) (next : Judged) → length lines + 1 < 2 ^ 64 → AreCounts counts lines
    → (place : ℕ) → place < 21 → (own : Bool) → is_at_place place next ≡ own
    → slice_index (slice_set counts (outcome_index (outcome_of next)) (further (slice_index counts (outcome_index (outcome_of next))))) place
    ≡ count_by (is_at_place place) (lines ++ next ∷ [])
counted_at counts lines next few are place within true own =
    let here = outcome_index (outcome_of next) in
    let same : here ≡ place = grind (arith, nat_tests, own) in
    let old : slice_index counts here ≡ count_by (is_at_place place) lines = ap (slice_index counts) same ∙ are.each place within in
    let bounded : further (slice_index counts here) ≡ count_by (is_at_place place) lines + 1 =
    omega (arith, old, few, count_by-le-length (is_at_place place) lines) in
    get_or-set_at counts here place (further (slice_index counts here)) 0 (sym same) (omega (arith, are.many, same, within))
    ∙ bounded ∙ sym (count_by_push_yes (is_at_place place) lines next own)
counted_at counts lines next few are place within false own =
    let here = outcome_index (outcome_of next) in
    let other : place ≢ here = λ e. absurd (grind (arith, nat_tests, own, e)) in
    get_or-set_other counts here place (further (slice_index counts here)) 0 other
    ∙ are.each place within ∙ sym (count_by_push_no (is_at_place place) lines next own)

pub AreCounts-push : (counts : List ℕ) (lines : List Judged) (next : Judged) → length lines + 1 < 2 ^ 64 → AreCounts counts lines
    → AreCounts (slice_set counts (outcome_index (outcome_of next)) (min (slice_index counts (outcome_index (outcome_of next)) + 1) (2 ^ 64 - 1))) (lines ++ next ∷ [])
AreCounts-push counts lines next few are = record {
  many = length-set counts (outcome_index (outcome_of next)) _ ∙ are.many;
  each = λ place within. counted_at counts lines next few are place within (is_at_place place next) refl;
}

pub AreCounts-zeros : AreCounts (replicate 21 0) []
AreCounts-zeros = record {
  many = refl;
  each = λ place within. get_or-replicate 21 place 0 0 within;
}
