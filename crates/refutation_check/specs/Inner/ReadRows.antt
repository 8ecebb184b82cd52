-- The reading of a text's rows.
use Rattle.std.specs.Prelude.{ℕ, ◌≡◌, filter, Bool, true, false, List, [], ◌∷◌, ◌++◌, Some}
use Rattle.std.specs.Borrow.{Bor}
use Rattle.std.specs.List.{AllZip}
use Rattle.std.specs.Bool.{MatchBool}
use Rattle.report_csv.specs.CsvRows.{Fields}
use Rattle.csv.specs.Reading.{default_config, is_flexible, reader_config, reader_state, reader_trim, records, records_from, source_of, strip_bom, Ready}
use Rattle.csv.specs.declared.reader.Reader.{Reader}
use Rattle.csv.specs.declared.reader.Trim.TheVariants as trim
use Rattle.plan_situations.specs.declared.situation.Situation.{Situation}
use Rattle.refutations.specs.EntryRows.{IsEntryOf}
use Rattle.refutations.specs.declared.entry.WhyEntry.{WhyEntry}
use Rattle.refutation_check.specs.CheckedRows.{is_why}

-- a reader of a text in memory
abbrev pub TextReader : Type 0
TextReader = Reader (Bor (List ℕ))

-- It reads rows unchanged, with any number of fields, without a header.
pub record ReadsPlainly (reader : TextReader) : Type 0 where
  pub config : reader_config reader ≡ default_config
  pub trim : reader_trim reader ≡ trim.None
  pub flexible : is_flexible reader ≡ true
  pub ready : Ready reader

-- In at most this many iterations it returns these rows.
pub record Gives (reader : TextReader) (turns : ℕ) (rows : List Fields) : Type 0 where
  pub rest : List ℕ
  pub source : source_of (λ (text : Bor (List ℕ)). Some text.now) reader ≡ Some rest
  pub gives : records_from default_config turns (reader_state reader) rest ≡ rows

-- the result of an iteration: the first row, after which the reader returns the others; or that there is none
abbrev pub Turned : Bool → TextReader → ℕ → List Fields → Fields → Type 0
Turned true reader turns rows fields = (behind : List Fields) × (rows ≡ fields ∷ behind) × Gives reader turns behind
Turned false reader turns rows fields = rows ≡ []

module _ (situation : Situation) where
  -- It is the only possible entry of a row.
  abbrev pub IsTheEntryOf : Fields → WhyEntry → Type 0
  IsTheEntryOf fields entry = IsEntryOf situation fields entry × ((other : WhyEntry) → IsEntryOf situation fields other → other ≡ entry)

  -- A row has no entry.
  abbrev pub TellsNone : Fields → Type 0
  TellsNone fields = (entry : WhyEntry) → ¬ IsEntryOf situation fields entry

  -- the rows after those that were read: none, or rows whose first one has no entry
  abbrev pub IsLeft : Bool → List Fields → Type 0
  IsLeft true rows = rows ≡ []
  IsLeft false [] = ⊥
  IsLeft false (row ∷ rows) = TellsNone row

  -- These are the entries of the first rows: of all rows, or up to a row without an entry.
  pub record AreRead (rows : List Fields) (entries : List WhyEntry) (all : Bool) : Type 0 where
    pub front : List Fields
    pub behind : List Fields
    pub split : rows ≡ front ++ behind
    pub told : AllZip IsTheEntryOf front entries
    pub left : IsLeft all behind

  -- the effect of a row on the entries: a row `why` adds its entry or has none, and a row of another kind adds nothing
  abbrev pub TakesRow : Fields → List WhyEntry → List WhyEntry → Bool → Type 0
  TakesRow fields old new true = MatchBool (is_why fields) ((entry : WhyEntry) × IsTheEntryOf fields entry × (new ≡ old ++ entry ∷ [])) (new ≡ old)
  TakesRow fields old new false = (is_why fields ≡ true) × TellsNone fields × (new ≡ old)

  -- These entries of a text's rows were read one by one, and a reader has this many iterations for the others.
  pub record IsReadSoFar (text : List ℕ) (reader : TextReader) (turns : ℕ) (entries : List WhyEntry) : Type 0 where
    pub done : List Fields
    pub behind : List Fields
    pub split : records default_config (strip_bom text) ≡ done ++ behind
    pub told : AllZip IsTheEntryOf (filter is_why done) entries
    pub gives : Gives reader turns behind
