-- Whether the rows of a text give the right reasons why there is no plan, and the first row that does not.
use Rattle.std.specs.Prelude.{ℕ, ◌≡◌, ◌≢◌, ◌+◌, ◌≤◌, ◌<◌, bytes_eq, codes, Bool, false, filter, List, [], ◌∷◌, length, take}
use Rattle.std.specs.List.{AllZip}
use Rattle.report_csv.specs.CsvRows.{Fields}
use Rattle.csv.specs.Reading.{default_config, records, strip_bom}
use Rattle.lattice.specs.Grids.{plans_of}
use Rattle.plan_situations.specs.declared.situation.Situation.{Situation}
use Rattle.refutations.specs.EntryRows.{IsEntryOf}
use Rattle.refutations.specs.RightLists.{ends_from, IsRight, IsSoundAt}
use Rattle.refutations.specs.declared.entry.Checked.{Checked}
use Rattle.refutations.specs.declared.entry.Checked.TheVariants.{Right, Bad}
use Rattle.refutations.specs.declared.entry.WhyEntry.{WhyEntry}

-- whether the first field of a row is `why`
abbrev pub is_why : Fields → Bool
is_why [] = false
is_why (kind ∷ rest) = bytes_eq kind (codes "why")

-- the rows `why` of a text, in order: the text is CSV without a header, after an optional byte order mark
abbrev pub why_rows : List ℕ → List Fields
why_rows text = filter is_why (records default_config (strip_bom text))

module _ (situation : Situation) where
  -- Rows give entries: the same number of them, and each is the entry whose row has these fields.
  abbrev pub Tell : List Fields → List WhyEntry → Type 0
  Tell rows entries = AllZip (IsEntryOf situation) rows entries

  -- Rows are right: they give a list of entries that is right.
  pub record AreRight (rows : List Fields) : Type 0 where
    pub entries : List WhyEntry
    pub told : Tell rows entries
    pub right : IsRight situation entries

  -- The row at an index is sound: it and the rows before it give entries, its own is good, and its block begins at the
  -- end of those before it.
  pub record IsSoundRow (rows : List Fields) (k : ℕ) : Type 0 where
    pub entries : List WhyEntry
    pub told : Tell (take (k + 1) rows) entries
    pub sound : IsSoundAt situation entries k

  -- The rows are not right, and this is the least index at which one is not sound; if each is, it is their number, and their blocks together are
  -- not all plans.
  pub record IsFirstBadRow (rows : List Fields) (k : ℕ) : Type 0 where
    pub within : k ≤ length rows
    pub before : (j : ℕ) → j < k → IsSoundRow rows j
    pub here : k < length rows → ¬ IsSoundRow rows k
    pub short : k ≡ length rows → (entries : List WhyEntry) → Tell rows entries → ends_from situation 0 entries ≢ plans_of situation.lattice

  -- the result of a check of rows
  abbrev pub TellsOf : List Fields → Checked → Type 0
  TellsOf rows Right = AreRight rows
  TellsOf rows (Bad k) = IsFirstBadRow rows k
