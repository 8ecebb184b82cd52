-- How an entry is written: as one row of seven fields.
use Rattle.std.specs.Prelude.{ℕ, ◌≡◌, ◌<◌, ◌^◌, codes, List, [], ◌∷◌, map}
use Rattle.std.specs.Fmt.{decimal}
use Rattle.std.specs.List.{join_with_byte}
use Rattle.report_csv.specs.CsvRows.{row_of, Fields}
use Rattle.rule_set.specs.NamedTrees.{rule_at}
use Rattle.plan_situations.specs.declared.situation.Situation.{Situation}
use Rattle.refutations.specs.RightLists.{IsEntry}
use Rattle.refutations.specs.declared.entry.Reason.{Reason}
use Rattle.refutations.specs.declared.entry.Reason.TheVariants.{Domain, Rule}
use Rattle.refutations.specs.declared.entry.WhyEntry.{WhyEntry}

-- the choices of a prefix, with a point (46 in ASCII) between each two
abbrev pub choices_text : List ℕ → List ℕ
choices_text choices = join_with_byte 46 (map decimal choices)

-- `domain`, the step and the two numbers of the moment; or the rule's name, the step and two empty fields
abbrev pub reason_fields : Situation → Reason → Fields
reason_fields situation (Domain step moment) = codes "domain" ∷ decimal step ∷ decimal moment.a ∷ decimal moment.b ∷ []
reason_fields situation (Rule index step) = (rule_at situation.rules index).name ∷ decimal step ∷ [] ∷ [] ∷ []

-- `why`, the choices, the target's MMSI, and the reason
abbrev pub entry_fields : Situation → WhyEntry → Fields
entry_fields situation entry = codes "why" ∷ choices_text entry.prefix ∷ decimal entry.target ∷ reason_fields situation entry.reason

abbrev pub entry_text : Situation → WhyEntry → List ℕ
entry_text situation entry = row_of (entry_fields situation entry)

-- The numbers of a reason are such as it holds: 32 bits for a step, 64 for those of a moment.
abbrev pub FitsReason : Reason → Type 0
FitsReason (Domain step moment) = (step < 2 ^ 32) × (moment.a < 2 ^ 64) × (moment.b < 2 ^ 64)
FitsReason (Rule index step) = step < 2 ^ 32

-- It is an entry of the situation whose row has these fields, and its numbers are such as it holds.
pub record IsEntryOf (situation : Situation) (fields : Fields) (entry : WhyEntry) : Type 0 where
  pub is : IsEntry situation entry
  pub target : entry.target < 2 ^ 32
  pub reason : FitsReason entry.reason
  pub told : entry_fields situation entry ≡ fields
