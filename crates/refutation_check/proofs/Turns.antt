-- How many turns it takes to read a text: one for each byte and one for its end are enough, whatever their number.
use Rattle.std.proofs.Common.{ℕ, zero, suc, ◌≡◌, ◌-◌, ◌≤◌, ◌<◌, ◌++◌, false, true, List, [], ◌∷◌, length, Some, None, refl, arith, ap, subst}
use Rattle.std.specs.Prelude.{Bool, Option, ◌==◌, ◌||◌, ◌&&◌, if◌then◌else◌}
use Rattle.report_csv.specs.CsvRows.{Fields}
use Rattle.csv.specs.Machine.{ends_at_end, after_end, field_after, fields_after, in_field, is_end, next_record, start_field, step, Read}
use Rattle.csv.specs.Reading.{default_config, records_from, records_next}
use Rattle.csv.specs.declared.parser.Action.{Action}
use Rattle.csv.specs.declared.parser.Action.TheVariants as act
use Rattle.csv.specs.declared.parser.State.{State}
use Rattle.csv.specs.declared.parser.State.TheVariants as st
use Rattle.csv.specs.declared.parser.Terminator.TheVariants as term

-- The byte that ends a record leaves a state in which the end of the text ends none.
abbrev IsEnded : State × Action → Type 0
IsEnded made = is_end made.1 ≡ true → ends_at_end made.0 ≡ false

either : (b : Bool) (one other : State × Action) → IsEnded one → IsEnded other → IsEnded (if b then one else other)
either true one other h g = h
either false one other h g = g

behind_end : (b : Bool) → ends_at_end (if b then st.AfterCr else st.StartRecord) ≡ false
behind_end true = refl
behind_end false = refl

field_ends : (c : ℕ) → IsEnded (in_field default_config c)
field_ends c = either (c == 44) (st.StartField, act.EndField) (if (c == 13) || (c == 10) then (after_end term.CRLF c, act.EndRecord) else (st.InField, act.Copy)) (λ e. cc e)
    (either ((c == 13) || (c == 10)) (after_end term.CRLF c, act.EndRecord) (st.InField, act.Copy) (λ e. behind_end (c == 13)) (λ e. cc e))

begun_ends : (c : ℕ) → IsEnded (start_field default_config c)
begun_ends c = either (true && (c == 34)) (st.InQuoted, act.Skip) (in_field default_config c) (λ e. cc e) (field_ends c)

first_ends : (c : ℕ) → IsEnded (step default_config st.StartRecord c)
first_ends c = either ((c == 13) || (c == 10)) (st.StartRecord, act.Skip) (start_field default_config c) (λ e. refl) (begun_ends c)

step_ends : (s : State) (c : ℕ) → IsEnded (step default_config s c)
step_ends st.StartRecord c = first_ends c
step_ends st.StartField c = begun_ends c
step_ends st.InField c = field_ends c
step_ends st.InQuoted c = either (c == 34) (st.AfterQuote, act.Skip) (st.InQuoted, act.Copy) (λ e. cc e) (λ e. cc e)
step_ends st.InEscape c = λ e. cc e
step_ends st.AfterQuote c = either (c == 34) (st.InQuoted, act.Copy) (in_field default_config c) (λ e. cc e) (field_ends c)
step_ends st.InComment c = either (c == 10) (st.StartRecord, act.Skip) (st.InComment, act.Skip) (λ e. refl) (λ e. cc e)
step_ends st.AfterCr c = either (c == 10) (st.StartRecord, act.Skip) (step default_config st.StartRecord c) (λ e. refl) (first_ends c)

-- A record takes a byte at least, if there is one.
abbrev IsBehind : List ℕ → Read → Type 0
IsBehind xs read = (ends_at_end read.1 ≡ false) × (length read.2 ≤ length xs - 1)

last_behind : (b : Bool) (fields : Fields) (field : List ℕ) (read : Read) → (if b then Some (fields ++ (field ∷ []), st.StartRecord, []) else None) ≡ Some read → IsBehind [] read
last_behind true fields field read e =
    let made : Read = (fields ++ (field ∷ []), st.StartRecord, []) in
    let same : made ≡ read = cc in subst (IsBehind []) same (refl, omega arith)
last_behind false fields field read e = absurd cc

read_behind : (s : State) (fields : Fields) (field xs : List ℕ) (read : Read) → next_record default_config s fields field xs ≡ Some read → IsBehind xs read
unfolding next_record
read_behind s fields field [] read e = last_behind (ends_at_end s) fields field read e
read_behind s fields field (c ∷ rest) read e =
    by (is_end (step default_config s c).1) refl e
    (read_behind (step default_config s c).0 (fields_after (step default_config s c).1 fields field) (field_after (step default_config s c).1 c field) rest read)
  where
    by : (b : Bool) → is_end (step default_config s c).1 ≡ b
        → (if b then Some (fields_after (step default_config s c).1 fields field, (step default_config s c).0, rest)
        else next_record default_config (step default_config s c).0 (fields_after (step default_config s c).1 fields field) (field_after (step default_config s c).1 c field) rest) ≡ Some read
        → (next_record default_config (step default_config s c).0 (fields_after (step default_config s c).1 fields field) (field_after (step default_config s c).1 c field) rest ≡ Some read → IsBehind rest read)
        → IsBehind (c ∷ rest) read
    by true ends e more =
        let made : Read = (fields_after (step default_config s c).1 fields field, (step default_config s c).0, rest) in
        let same : made ≡ read = cc in subst (IsBehind (c ∷ rest)) same (step_ends s c ends, omega arith)
    by false ends e more = let h = more e in (h.0, omega (arith, h.1))

pub same_records : (n m : ℕ) (s : State) (xs : List ℕ) → ends_at_end s ≡ false → length xs < n → length xs < m → records_from default_config n s xs ≡ records_from default_config m s xs
unfolding records_from next_record
same_records zero m s xs quiet less_n less_m = absurd (omega arith)
same_records (suc n) zero s xs quiet less_n less_m = absurd (omega arith)
same_records (suc n) (suc m) s [] quiet less_n less_m = rw quiet refl
same_records (suc n) (suc m) s (c ∷ rest) quiet less_n less_m = by (next_record default_config s [] [] (c ∷ rest)) refl (same_records n m)
  where
    by : (next : Option Read) → next_record default_config s [] [] (c ∷ rest) ≡ next
        → ((s' : State) (xs' : List ℕ) → ends_at_end s' ≡ false → length xs' < n → length xs' < m → records_from default_config n s' xs' ≡ records_from default_config m s' xs')
        → records_next (records_from default_config n) next ≡ records_next (records_from default_config m) next
    by None e more = refl
    by (Some read) e more =
        let h = read_behind s [] [] (c ∷ rest) read e in
        ap (λ (rows : List Fields). read.0 ∷ rows) (more read.1 read.2 h.0 (omega (arith, h.1)) (omega (arith, h.1)))
