-- What a reader gives for a text, and the entries of its rows.
use Rattle.std.proofs.Common.{ℕ, suc, add-one, ◌≡◌, ◌∙◌, ◌+◌, ◌≤◌, ◌<◌, ◌++◌, false, true, List, [], ◌∷◌, length, length-append, append-nil, append_assoc, Some, None, refl, arith, ap, sym}
use Rattle.std.specs.Prelude.{bytes_eq, codes, filter, if◌then◌else◌, Bool, Option}
use Rattle.std.specs.Borrow.{Bor}
use Rattle.std.specs.Bool.{MatchBool}
use Rattle.std.specs.List.{AllZip}
use Rattle.std.proofs.lemmas.List.Elements.{filter-append}
use Rattle.report_csv.specs.CsvRows.{Fields}
use Rattle.csv.specs.Machine.{next_record, Read}
use Rattle.csv.specs.Reading.{default_config, pending_of, reader_state, records, records_from, is_bom, source_of, strip_bom, NextIs, ReadRecord, ReadsNext}
use Rattle.csv.specs.Records.{field_at}
use Rattle.csv.specs.declared.parser.State.TheVariants as st
use Rattle.plan_situations.specs.declared.situation.Situation.{Situation}
use Rattle.refutations.specs.declared.entry.WhyEntry.{WhyEntry}
use Rattle.refutation_check.specs.CheckedRows.{is_why, why_rows}
use Rattle.refutation_check.specs.Inner.ReadRows.{AreRead, Gives, IsReadSoFar, IsTheEntryOf, ReadsPlainly, TakesRow, TellsNone, TextReader, Turned}
use Rattle.refutation_check.proofs.Turns.{same_records}

-- ---- the first field

pub named : (fields : Fields) (kind : List ℕ) → Some kind ≡ field_at fields 0 → bytes_eq kind (codes "why") ≡ is_why fields
unfolding field_at
named [] kind e = absurd cc
named (first ∷ rest) kind e = let same : kind ≡ first = cc in ap (λ (name : List ℕ). bytes_eq name (codes "why")) same

pub unnamed : (fields : Fields) → None ≡ field_at fields 0 → false ≡ is_why fields
unfolding field_at
unnamed [] e = refl
unnamed (first ∷ rest) e = absurd cc

-- ---- a turn

next_turned : (next : Option Read) (found : Bool) (fields : Fields) (new : TextReader) (behind : List ℕ) (turns : ℕ) (rows : List Fields)
    → NextIs next found fields (reader_state new) behind → source_of (λ (text : Bor (List ℕ)). Some text.now) new ≡ Some behind
    → (next ≡ None → rows ≡ []) → ((read : Read) → next ≡ Some read → rows ≡ read.0 ∷ records_from default_config turns read.1 read.2)
    → Turned found new turns rows fields
next_turned None found fields new behind turns rows is source none some = rw is (none refl)
next_turned (Some read) found fields new behind turns rows is source none some =
    let state : read.1 ≡ reader_state new = sym is.2 in
    let left : read.2 ≡ behind = sym is.3 in
    rw is.0 (
      records_from default_config turns read.1 read.2,
      some read refl ∙ ap (λ (first : List (List ℕ)). first ∷ records_from default_config turns read.1 read.2) (sym is.1),
      record { rest = behind; source = source; gives = rw (state, left) refl },
    )

pub turned : (old new : TextReader) (found : Bool) (fields : Fields) (turns : ℕ) (rows : List Fields) → ReadsPlainly old
    → ReadRecord (λ (text : Bor (List ℕ)). Some text.now) old new found fields → Gives old (turns + 1) rows → Turned found new turns rows fields
unfolding records_from
turned old new found fields turns rows plain read gives = by (pending_of (Some new.rdr.now) new) refl (rw (plain.config, gives.source) at read.0)
  where
    by : (left : Option (List ℕ)) → pending_of (Some new.rdr.now) new ≡ left → ReadsNext default_config old.state (Some gives.rest) left found fields new.state → Turned found new turns rows fields
    by None e h = absurd h
    by (Some behind) e h =
        let told : records_from default_config (suc turns) old.state gives.rest ≡ rows = rw add-one at gives.gives in
        next_turned (next_record default_config old.state [] [] gives.rest) found fields new behind turns rows h (rw read.1 e)
        (λ none. sym (rw none at told)) (λ next some. sym (rw some at told))

-- nothing is left if there are no more turns
pub no_turns : (reader : TextReader) (rows : List Fields) (turns : ℕ) → turns ≡ 0 → Gives reader turns rows → rows ≡ []
unfolding records_from
no_turns reader rows turns none gives = let told = rw none at gives.gives in sym told

-- ---- what was read

module _ (s : Situation) where
  zip_more : (rows : List Fields) (entries : List WhyEntry) (row : Fields) (entry : WhyEntry) → AllZip (IsTheEntryOf s) rows entries → IsTheEntryOf s row entry
      → AllZip (IsTheEntryOf s) (rows ++ row ∷ []) (entries ++ entry ∷ [])
  zip_more [] [] row entry h is = (is, tt)
  zip_more [] (entry' ∷ entries) row entry h is = absurd h
  zip_more (row' ∷ rows) [] row entry h is = absurd h
  zip_more (row' ∷ rows) (entry' ∷ entries) row entry h is = (h.0, zip_more rows entries row entry h.1 is)

  -- a row of another kind
  pub passed_over : (text : List ℕ) (reader old : TextReader) (turns : ℕ) (entries : List WhyEntry) (fields : Fields) (so_far : IsReadSoFar s text old (turns + 1) entries)
      → is_why fields ≡ false → Turned true reader turns so_far.behind fields → IsReadSoFar s text reader turns entries
  passed_over text reader old turns entries fields h other turned = record {
    done = h.done ++ fields ∷ [];
    behind = turned.0;
    split = h.split ∙ (ap (λ (rows : List Fields). h.done ++ rows) turned.1 ∙ sym (append_assoc h.done (fields ∷ []) turned.0));
    told = rw (filter-append, other, append-nil) h.told;
    gives = turned.2;
  }

  pub taken : (text : List ℕ) (reader old : TextReader) (turns : ℕ) (entries : List WhyEntry) (fields : Fields) (entry : WhyEntry) (so_far : IsReadSoFar s text old (turns + 1) entries)
      → is_why fields ≡ true → IsTheEntryOf s fields entry → Turned true reader turns so_far.behind fields → IsReadSoFar s text reader turns (entries ++ entry ∷ [])
  taken text reader old turns entries fields entry h why is turned = record {
    done = h.done ++ fields ∷ [];
    behind = turned.0;
    split = h.split ∙ (ap (λ (rows : List Fields). h.done ++ rows) turned.1 ∙ sym (append_assoc h.done (fields ∷ []) turned.0));
    told = rw (filter-append, why) (zip_more (filter is_why h.done) entries fields entry h.told is);
    gives = turned.2;
  }

  -- one more turn
  pub stepped : (text : List ℕ) (reader old : TextReader) (turns : ℕ) (entries more : List WhyEntry) (fields : Fields) (so_far : IsReadSoFar s text old (turns + 1) entries)
      → Turned true reader turns so_far.behind fields → TakesRow s fields entries more true → IsReadSoFar s text reader turns more × (length more ≤ length entries + 1)
  stepped text reader old turns entries more fields h turned takes = by (is_why fields) refl takes
    where
      by : (why : Bool) → is_why fields ≡ why → MatchBool why ((entry : WhyEntry) × IsTheEntryOf s fields entry × (more ≡ entries ++ entry ∷ [])) (more ≡ entries)
          → IsReadSoFar s text reader turns more × (length more ≤ length entries + 1)
      by true e t = rw t.2 (taken text reader old turns entries fields t.0 h e t.1 turned, omega (arith, length-append entries (t.0 ∷ [])))
      by false e t = rw t (passed_over text reader old turns entries fields h e turned, omega arith)

  -- all are read
  pub all_read : (text : List ℕ) (reader : TextReader) (turns : ℕ) (entries : List WhyEntry) (so_far : IsReadSoFar s text reader turns entries)
      → so_far.behind ≡ [] → AreRead s (why_rows text) entries true
  all_read text reader turns entries h none = record {
    front = filter is_why h.done;
    behind = [];
    split = ap (filter is_why) (h.split ∙ (ap (λ (rows : List Fields). h.done ++ rows) none ∙ append-nil h.done)) ∙ sym (append-nil (filter is_why h.done));
    told = h.told;
    left = refl;
  }

  -- they are read up to a row without an entry
  pub read_to : (text : List ℕ) (old reader : TextReader) (more turns : ℕ) (entries : List WhyEntry) (fields : Fields) (so_far : IsReadSoFar s text old more entries)
      → is_why fields ≡ true → TellsNone s fields → Turned true reader turns so_far.behind fields → AreRead s (why_rows text) entries false
  read_to text old reader more turns entries fields h why none turned = record {
    front = filter is_why h.done;
    behind = fields ∷ filter is_why turned.0;
    split = ap (filter is_why) (h.split ∙ ap (λ (rows : List Fields). h.done ++ rows) turned.1) ∙ rw (filter-append, why) refl;
    told = h.told;
    left = none;
  }

  -- a reader of a text before its first turn
  pub at_begin : (text : List ℕ) (reader : TextReader) (turns : ℕ) → source_of (λ (text : Bor (List ℕ)). Some text.now) reader ≡ Some (strip_bom text) → reader_state reader ≡ st.StartRecord
      → length (strip_bom text) < turns → IsReadSoFar s text reader turns []
  at_begin text reader turns source state enough = record {
    done = [];
    behind = records default_config (strip_bom text);
    split = refl;
    told = tt;
    gives = record {
      rest = strip_bom text;
      source = source;
      gives = rw state (same_records turns (length (strip_bom text) + 1) st.StartRecord (strip_bom text) refl enough (omega arith));
    };
  }

-- after a byte order mark there is not more
pub not_longer : (text : List ℕ) → length (strip_bom text) ≤ length text
unfolding strip_bom
not_longer [] = omega arith
not_longer (a ∷ []) = omega arith
not_longer (a ∷ b ∷ []) = omega arith
not_longer (a ∷ b ∷ d ∷ rest) = by (is_bom a b d)
  where
    by : (mark : Bool) → length (if mark then rest else a ∷ b ∷ d ∷ rest) ≤ length (a ∷ b ∷ d ∷ rest)
    by true = omega arith
    by false = omega arith
