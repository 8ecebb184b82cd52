-- Words of the plain form are taken, and what their matches hold.
use Rattle.std.proofs.Common.{◌≡◌, ◌∙◌, ◌||◌, Bool, true, false, refl, sym, ap, ap₂, subst, codes, List, [], ◌∷◌, ◌++◌, None, append_assoc, append-nil, map}
use Rattle.std.specs.List.{fold, flat_map}
use Rattle.std.specs.Str.{bytes_eq}
use Rattle.std.proofs.lemmas.Slice.Eq.{bytes_eq-Decides}
use Rattle.clap.specs.Words.{Row, Text}
use Rattle.clap.specs.Kinds.{or_else}
use Rattle.clap.specs.Walk.{Walk, has_row, nothing_held, walk_from, walked}
use Rattle.clap.specs.Faults.{settle_fault, turn_fault, walk_fault}
use Rattle.command_line.specs.CommandLine.{AreModes, CommandOption, Value, a_flag, a_number, a_text, flag, kind_of, label, mode_text, written}
use Rattle.command_line.specs.GivenArguments.{AreOnce, MayAllBeGiven, is_given, is_plain_text, setting_words}
use Rattle.command_line.specs.declared.mode.ModeArgument.{ModeArgument}
use Rattle.command_line.proofs.ByKind.{IsRight, TakesValue, flag_kind, number_kind, right_accepted, right_given, sound, text_kind}
use Rattle.command_line.proofs.Settings.{Choices, known, top}
use Rattle.command_line.proofs.ModeTexts.{mode_accepted, mode_is_name}
use Rattle.command_line.proofs.Walking.{Pending, before_value, behind, flag_faultless, flag_walked, held, mode_faultless, mode_walked, name_faultless, name_faultless_by}
use Rattle.command_line.proofs.Walking.{name_walked, name_walked_by, row, rows_settled, settled_name, settled_value, settles_name, settles_value, value_faultless, value_walked, with_value}

abbrev pub setting_row : CommandOption × Value → Row
setting_row g = row (label g.0) (written g.1)

-- none of these options has a row yet
abbrev AreMissing : List Row → List (CommandOption × Value) → Type 0
AreMissing rows [] = Unit {0}
AreMissing rows (g ∷ rest) = (has_row (label g.0) rows ≡ false) × AreMissing rows rest

-- and none that is given before it
abbrev AreNew : List Row → List (CommandOption × Value) → Type 0
AreNew rows [] = Unit {0}
AreNew rows (g ∷ rest) = (has_row (label g.0) rows ≡ false) × AreNew (rows ++ setting_row g ∷ []) rest

bytes_eq-turned : (a b : Text) → bytes_eq a b ≡ false → bytes_eq b a ≡ false
bytes_eq-turned a b differ = go (bytes_eq b a) refl
  where
    go : (t : Bool) → bytes_eq b a ≡ t → bytes_eq b a ≡ false
    go false e = e
    go true e =
        let same : b ≡ a = (bytes_eq-Decides b a).0 e in
        let bad : true ≡ false = sym (rw same at e) ∙ rw same at differ in
        cc

has_row-more : (id : Text) (rows : List Row) (r : Row) → has_row id rows ≡ false → bytes_eq r.id id ≡ false → has_row id (rows ++ r ∷ []) ≡ false
has_row-more id [] r none other = rw other refl
has_row-more id (x ∷ rows) r none other = go (bytes_eq x.id id) refl (has_row-more id rows r)
  where
    go : (t : Bool) → bytes_eq x.id id ≡ t → (has_row id rows ≡ false → bytes_eq r.id id ≡ false → has_row id (rows ++ r ∷ []) ≡ false)
        → has_row id (x ∷ (rows ++ r ∷ [])) ≡ false
    go true e more = let bad : true ≡ false = rw e at none in cc
    go false e more = rw e (more (rw e at none) other)

-- an option that is not given again keeps the others missing
missing_more : (rows : List Row) (g : CommandOption × Value) (rest : List (CommandOption × Value)) → AreMissing rows rest → is_given g.0 rest ≡ false → AreMissing (rows ++ setting_row g ∷ []) rest
missing_more rows g [] missing once = tt
missing_more rows g (x ∷ rest) missing once = go (bytes_eq (label x.0) (label g.0)) refl (missing_more rows g rest)
  where
    go : (t : Bool) → bytes_eq (label x.0) (label g.0) ≡ t
        → (AreMissing rows rest → is_given g.0 rest ≡ false → AreMissing (rows ++ setting_row g ∷ []) rest)
        → (has_row (label x.0) (rows ++ setting_row g ∷ []) ≡ false) × AreMissing (rows ++ setting_row g ∷ []) rest
    go true e more = let bad : true ≡ false = rw e at once in cc
    go false e more = (has_row-more (label x.0) rows (setting_row g) missing.0 (bytes_eq-turned (label x.0) (label g.0) e), more missing.1 (rw e at once))

all_new : (given : List (CommandOption × Value)) (rows : List Row) → AreMissing rows given → AreOnce given → AreNew rows given
all_new [] rows missing once = tt
all_new (g ∷ rest) rows missing once = (missing.0, all_new rest (rows ++ setting_row g ∷ []) (missing_more rows g rest missing.1 once.0) once.1)

-- an argument is used, and the rows are these
abbrev pub Settles : Choices → List Row → Pending → List Row → Type 0
Settles values rows pending after = (rows_settled values rows pending ≡ after) × (settle_fault (top values).rules false (held rows pending) ≡ [])

-- the words are walked without a fault, and what is held at their end makes these rows
pub record Walks (values : Choices) (from : Walk) (words : List Text) (after : List Row) : Type 0 where
  pub rows : List Row
  pub pending : Pending
  pub faultless : walk_fault (top values) [] from words ≡ []
  pub ends : fold (walked (top values).rules []) from words ≡ behind rows pending 3
  pub settles : Settles values rows pending after

-- one more word before others
word_faultless : (values : Choices) (from next : Walk) (word : Text) (words : List Text) → turn_fault (top values) [] from word ≡ []
    → walked (top values).rules [] from word ≡ next → walk_fault (top values) [] next words ≡ [] → walk_fault (top values) [] from (word ∷ words) ≡ []
unfolding walk_fault
word_faultless values from next word words turn is rest =
    ap (λ ks. or_else ks (walk_fault (top values) [] (walked (top values).rules [] from word) words)) turn
    ∙ ap (λ w. walk_fault (top values) [] w words) is ∙ rest

step : (values : Choices) (from next : Walk) (word : Text) (words : List Text) (after : List Row) → turn_fault (top values) [] from word ≡ []
    → walked (top values).rules [] from word ≡ next → Walks values next words after → Walks values from (word ∷ words) after
step values from next word words after turn is rest = record {
  rows = rest.rows;
  pending = rest.pending;
  faultless = word_faultless values from next word words turn is rest.faultless;
  ends = ap (λ w. fold (walked (top values).rules []) w words) is ∙ rest.ends;
  settles = rest.settles;
}

none_walks : (values : Choices) (rows : List Row) (pending : Pending) (after : List Row) → Settles values rows pending after → Walks values (behind rows pending 3) [] after
unfolding walk_fault
none_walks values rows pending after settles = record { rows = rows; pending = pending; faultless = refl; ends = refl; settles = settles }

-- an option and its value before other words
value_walks : (values : Choices) (rows : List Row) (pending : Pending) (after : List Row) (s : CommandOption) (v : Value) (words : List Text) (end : List Row)
    → TakesValue (kind_of s) × (is_plain_text (written v) ≡ true) → IsRight (kind_of s) v → Settles values rows pending after → has_row (label s) after ≡ false
    → (Settles values after (with_value (label s) (written v)) (after ++ setting_row (s, v) ∷ []) → Walks values (behind after (with_value (label s) (written v)) 3) words end)
    → Walks values (behind rows pending 3) ((codes "--" ++ label s) ∷ written v ∷ words) end
value_walks values rows pending after s v words end plain right settles none rest =
    let text = written v in
    let accepted = right_accepted (kind_of s) v right in
    let next : Settles values after (with_value (label s) text) (after ++ setting_row (s, v) ∷ []) =
    (settled_value values after s text plain.0 none, settles_value values after s text plain.0 none accepted) in
    step values (behind rows pending 3) (before_value after (label s)) (codes "--" ++ label s) (text ∷ words) end
    (name_faultless_by values rows pending s plain.0 settles.1)
    (name_walked_by values rows pending s plain.0 ∙ ap (λ rs. before_value rs (label s)) settles.0)
    (step values (before_value after (label s)) (behind after (with_value (label s) text) 3) text words end
    (value_faultless (top values) after (label s) text plain.1) (value_walked values after s text plain.0 plain.1) (rest next))

-- and a flag
flag_walks : (values : Choices) (rows : List Row) (pending : Pending) (after : List Row) (s : CommandOption) (words : List Text) (end : List Row)
    → kind_of s ≡ flag → Settles values rows pending after → has_row (label s) after ≡ false
    → Walks values (behind (after ++ row (label s) (codes "true") ∷ []) None 3) words end → Walks values (behind rows pending 3) ((codes "--" ++ label s) ∷ words) end
flag_walks values rows pending after s words end is settles none rest =
    step values (behind rows pending 3) (behind (after ++ row (label s) (codes "true") ∷ []) None 3) (codes "--" ++ label s) words end
    (flag_faultless values rows pending s after is none settles.0 settles.1)
    (flag_walked values rows pending s after is none settles.0) rest

one_more : (after : List Row) (g : CommandOption × Value) (rest : List (CommandOption × Value)) → (after ++ setting_row g ∷ []) ++ map setting_row rest ≡ after ++ map setting_row (g ∷ rest)
one_more after g rest = append_assoc after (setting_row g ∷ []) (map setting_row rest)

settings_walk : (values : Choices) (given : List (CommandOption × Value)) (rows : List Row) (pending : Pending) (after : List Row) → Settles values rows pending after
    → AreNew after given → MayAllBeGiven given → Walks values (behind rows pending 3) (flat_map setting_words given) (after ++ map setting_row given)
settings_walk values [] rows pending after settles new may = none_walks values rows pending (after ++ []) (settles.0 ∙ sym (append-nil after), settles.1)
settings_walk values ((s, a_number n) ∷ rest) rows pending after settles new may =
    let v = a_number n in
    let text = written v in
    subst (Walks values (behind rows pending 3) (flat_map setting_words ((s, v) ∷ rest))) (one_more after (s, v) rest)
    (value_walks values rows pending after s v (flat_map setting_words rest) ((after ++ setting_row (s, v) ∷ []) ++ map setting_row rest)
    (number_kind (kind_of s) n (sound s) may.0) (right_given (kind_of s) v (sound s) may.0) settles new.0
    (λ next. settings_walk values rest after (with_value (label s) text) (after ++ setting_row (s, v) ∷ []) next new.1 may.1))
settings_walk values ((s, a_text t) ∷ rest) rows pending after settles new may =
    let v = a_text t in
    subst (Walks values (behind rows pending 3) (flat_map setting_words ((s, v) ∷ rest))) (one_more after (s, v) rest)
    (value_walks values rows pending after s v (flat_map setting_words rest) ((after ++ setting_row (s, v) ∷ []) ++ map setting_row rest)
    (text_kind (kind_of s) t may.0) (right_given (kind_of s) v (sound s) may.0) settles new.0
    (λ next. settings_walk values rest after (with_value (label s) t) (after ++ setting_row (s, v) ∷ []) next new.1 may.1))
settings_walk values ((s, a_flag true) ∷ rest) rows pending after settles new may =
    let v = a_flag true in
    subst (Walks values (behind rows pending 3) (flat_map setting_words ((s, v) ∷ rest))) (one_more after (s, v) rest)
    (flag_walks values rows pending after s (flat_map setting_words rest) ((after ++ setting_row (s, v) ∷ []) ++ map setting_row rest)
    (flag_kind (kind_of s) true may.0).0 settles new.0
    (settings_walk values rest (after ++ setting_row (s, v) ∷ []) None (after ++ setting_row (s, v) ∷ []) (refl, refl) new.1 may.1))
settings_walk values ((s, a_flag false) ∷ rest) rows pending after settles new may =
    let bad : false ≡ true = (flag_kind (kind_of s) false may.0).1 in cc

-- the rows of the mode and the name
abbrev pub first_rows : Text → Text → List Row
first_rows mode name = row (codes "mode") mode ∷ row (codes "scenario") name ∷ []

first_missing : (values : Choices) (mode name : Text) (given : List (CommandOption × Value)) → AreMissing (first_rows mode name) given
first_missing values mode name [] = tt
first_missing values mode name (g ∷ rest) =
    let is = known values g.0 in
    (ap₂ (λ a b. a || (b || false)) is.no_mode is.no_scenario, first_missing values mode name rest)

-- the plain form is walked
pub plain_walks : (values : Choices) → AreModes values.now → (m : ModeArgument) (name : Text) (given : List (CommandOption × Value)) → is_plain_text name ≡ true → AreOnce given → MayAllBeGiven given
    → Walks values (walk_from nothing_held) (mode_text m ∷ name ∷ flat_map setting_words given) (first_rows (mode_text m) name ++ map setting_row given)
plain_walks values are m name given named once may =
    let t = mode_text m in
    let settles : Settles values (row (codes "mode") t ∷ []) (with_value (codes "scenario") name) (first_rows t name) = (settled_name values t name, settles_name values t name) in
    let new = all_new given (first_rows t name) (first_missing values t name given) once in
    step values (walk_from nothing_held) (behind [] (with_value (codes "mode") t) 2) t (name ∷ flat_map setting_words given) (first_rows t name ++ map setting_row given)
    (mode_faultless values t (mode_is_name m)) (mode_walked values t (mode_is_name m))
    (step values (behind [] (with_value (codes "mode") t) 2) (behind (row (codes "mode") t ∷ []) (with_value (codes "scenario") name) 3) name (flat_map setting_words given) (first_rows t name ++ map setting_row given)
    (name_faultless values t name (mode_accepted values are m) named) (name_walked values t name named)
    (settings_walk values given (row (codes "mode") t ∷ []) (with_value (codes "scenario") name) (first_rows t name) settles new may))
