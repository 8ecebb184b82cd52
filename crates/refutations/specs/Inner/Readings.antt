-- What the fields of a row may contain.
use Rattle.std.specs.Prelude.{ℕ, ◌≡◌, ◌==◌, ◌≤◌, ◌<◌, ◌^◌, codes, List, [], length, Option, Some, None}
use Rattle.std.specs.Borrow.{Bor}
use Rattle.std.specs.Fmt.{decimal}
use Rattle.std.specs.Int.Digits.{AllBelowBase}
use Rattle.std.specs.List.{slice_split}
use Rattle.report_csv.specs.CsvRows.{Fields}
use Rattle.closest_approach.specs.declared.nearest.Moment.{Moment}
use Rattle.plan_situations.specs.declared.situation.Situation.{Situation}
use Rattle.refutations.specs.EntryRows.{choices_text, reason_fields, FitsReason}
use Rattle.refutations.specs.RightLists.{KnowsRule}
use Rattle.refutations.specs.declared.entry.Reason.{Reason}

-- the parts between points of what is left of a field
abbrev pub parts_left : Option (Bor (List ℕ)) → List (List ℕ)
parts_left None = []
parts_left (Some text) = slice_split (λ byte. byte == 46) text.now

-- A number of at most so much is written so.
pub record IsNumberIn (text : List ℕ) (most number : ℕ) : Type 0 where
  pub few : number ≤ most
  pub told : decimal number ≡ text

-- A prefix of at most this many legs, each of this many choices, is written so.
pub record AreChoicesIn (text : List ℕ) (choices legs : ℕ) (prefix : List ℕ) : Type 0 where
  pub some : 1 ≤ length prefix
  pub few : length prefix ≤ legs
  pub below : AllBelowBase choices prefix
  pub told : choices_text prefix ≡ text

-- A moment of a domain is written so, under the name of a domain.
pub record IsMomentIn (name a b : List ℕ) (moment : Moment) : Type 0 where
  pub named : name ≡ codes "domain"
  pub small_a : moment.a < 2 ^ 64
  pub small_b : moment.b < 2 ^ 64
  pub told_a : decimal moment.a ≡ a
  pub told_b : decimal moment.b ≡ b

-- A reason is written so.
pub record IsReasonIn (situation : Situation) (fields : Fields) (reason : Reason) : Type 0 where
  pub known : KnowsRule situation reason
  pub fits : FitsReason reason
  pub told : reason_fields situation reason ≡ fields
