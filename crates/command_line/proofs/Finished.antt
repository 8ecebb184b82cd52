-- What stands behind the walk: the defaults, and what is required.
use Rattle.std.proofs.Common.{◌≡◌, ◌∙◌, ◌||◌, ◌&&◌, Bool, true, false, not, cond, refl, sym, ap, ap₂, subst, codes, length, List, [], ◌∷◌, ◌++◌, Option, Some, None, is_some, map, take, drop}
use Rattle.std.specs.Prelude.{find}
use Rattle.std.specs.List.{fold, list_all, list_any}
use Rattle.std.specs.Option.{option_map_or, option_or}
use Rattle.std.specs.Str.{bytes_eq}
use Rattle.clap.specs.Words.{Row, Rule, Text, fault_of, matches_of}
use Rattle.clap.specs.Facts.{explicit_source}
use Rattle.clap.specs.Simple.{built, entered, filled}
use Rattle.clap.specs.Kinds.{Kinds, check_kinds, or_else}
use Rattle.clap.specs.Takes.{is_given}
use Rattle.clap.specs.Walk.{Walk, default_rows, finished, has_row, is_empty, more_values, nothing_held, reading_by, settled, walk_from, walked, with_default}
use Rattle.clap.specs.Faults.{check_fault, default_fault, defaults_fault, entered_fault, given_default_fault, settle_fault, walk_fault}
use Rattle.clap.specs.declared.builder.value_parser.Reading.TheVariants.{AsWritten}
use Rattle.clap.specs.declared.error.kind.ErrorKind.TheVariants.{ValueValidation}
use Rattle.clap.specs.declared.parser.matches.ValueSource.TheVariants.{DefaultValue}
use Rattle.clap.proofs.SimpleLemmas.{is_false, is_nil}
use Rattle.clap.proofs.WalkLemmas.{both}
use Rattle.command_line.specs.CommandLine.{Kind, CommandOption, a_number, colregs, default_texts, flag, kind_of, label, option_rule, settings, takes_number, takes_text}
use Rattle.command_line.specs.GivenArguments.{with_program_name}
use Rattle.command_line.proofs.ByKind.{IsSound, right_accepted, right_default, sound}
use Rattle.command_line.proofs.Plain.{Walks, first_rows}
use Rattle.command_line.proofs.Settings.{Choices, built_rule, known, setting_is, top}
use Rattle.command_line.proofs.Walking.{at_row_missing, behind, row, rows_settled}

cond_same : {X : Type 0} (b : Bool) (x : X) → cond b x x ≡ x
cond_same true x = refl
cond_same false x = refl

fold_append : {A B : Type 0} (f : B → A → B) (x : B) (xs ys : List A) → fold f x (xs ++ ys) ≡ fold f (fold f x xs) ys
fold_append f x [] ys = refl
fold_append f x (a ∷ xs) ys = fold_append f (f x a) xs ys

-- ---- defaults

default_none : (rows : List Row) (a : Rule) → is_empty a.defaults ≡ true → with_default rows a ≡ rows
default_none rows a none =
    ap (λ ds. cond (has_row a.id rows) rows (default_rows a.id (reading_by a) ds rows)) (is_nil a.defaults none) ∙ cond_same (has_row a.id rows) rows

defaults_none : (rules : List Rule) (rows : List Row) → list_all (λ (a : Rule). is_empty a.defaults) rules ≡ true → fold with_default rows rules ≡ rows
defaults_none [] rows none = refl
defaults_none (a ∷ rest) rows none =
    let p = both (is_empty a.defaults) (list_all (λ (r : Rule). is_empty r.defaults) rest) none in
    ap (λ rs. fold with_default rs rest) (default_none rows a p.0) ∙ defaults_none rest rows p.1

-- the row of an id
abbrev pub find_row : Text → List Row → Option Row
find_row id rows = find (λ r. bytes_eq r.id id) rows

abbrev pub default_row : Text → List Text → Option Row
default_row id [] = None
default_row id (v ∷ vs) = Some (record { id = id; values = v ∷ vs; count = None; source = Some DefaultValue; reading = AsWritten })

-- the rows with the defaults of an option that has no row
abbrev defaulted : Text → List Text → List Row → List Row
defaulted id texts rows = cond (has_row id rows) rows (default_rows id AsWritten texts rows)

default_is : (name : Text) (k : Kind) (rows : List Row) → with_default rows (filled (option_rule name k)) ≡ defaulted name (default_texts k) rows
default_is name (takes_number low high None) rows = refl
default_is name (takes_number low high (Some n)) rows = refl
default_is name flag rows = refl
default_is name (takes_text None) rows = refl
default_is name (takes_text (Some text)) rows = refl

abbrev with_setting : List Row → CommandOption → List Row
with_setting rows s = defaulted (label s) (default_texts (kind_of s)) rows

-- the same of each of these options
unfoldable pub with_settings : List CommandOption → List Row → List Row
with_settings [] rows = rows
with_settings (s ∷ rest) rows = with_settings rest (with_setting rows s)

settings_are : (ss : List CommandOption) (rows : List Row) → fold with_default rows (map built_rule ss) ≡ with_settings ss rows
unfolding with_settings
settings_are [] rows = refl
settings_are (s ∷ rest) rows =
    ap (λ rs. fold with_default rs (map built_rule rest)) (default_is (label s) (kind_of s) rows) ∙ settings_are rest (with_setting rows s)

rules_are : (values : Choices) → (top values).rules ≡ take 2 (top values).rules ++ (map built_rule settings ++ drop (length settings) (drop 2 (top values).rules))
unfolding colregs top
rules_are values = refl

pub defaults_added : (values : Choices) (rows : List Row) → fold with_default rows (top values).rules ≡ with_settings settings rows
unfolding colregs top
defaults_added values rows =
    let rules = (top values).rules in
    let options = map built_rule settings in
    let others = drop (length settings) (drop 2 rules) in
    ap (fold with_default rows) (rules_are values)
    ∙ fold_append with_default rows (take 2 rules) (options ++ others)
    ∙ ap (λ rs. fold with_default rs (options ++ others)) (defaults_none (take 2 rules) rows refl)
    ∙ fold_append with_default rows options others
    ∙ ap (λ rs. fold with_default rs others) (settings_are settings rows)
    ∙ defaults_none others (with_settings settings rows) refl

-- ---- what is found in the rows with the defaults

any_found : {X : Type 0} (p : X → Bool) (xs : List X) → list_any p xs ≡ is_some (find p xs)
any_found p [] = refl
any_found p (x ∷ xs) = go (p x) (any_found p xs)
  where
    go : (t : Bool) → list_any p xs ≡ is_some (find p xs) → (t || list_any p xs) ≡ is_some (cond t (Some x) (find p xs))
    go true same = refl
    go false same = same

-- a row of another id changes nothing
find_more : (id : Text) (rows : List Row) (r : Row) → bytes_eq r.id id ≡ false → find_row id (rows ++ r ∷ []) ≡ find_row id rows
find_more id [] r other = ap (λ t. cond t (Some r) None) other
find_more id (x ∷ rows) r other = ap (λ o. cond (bytes_eq x.id id) (Some x) o) (find_more id rows r other)

find_last : (id : Text) (rows : List Row) (r : Row) → bytes_eq r.id id ≡ true → has_row id rows ≡ false → find_row id (rows ++ r ∷ []) ≡ Some r
find_last id [] r same none = ap (λ t. cond t (Some r) None) same
find_last id (x ∷ rows) r same none = go (bytes_eq x.id id) refl (find_last id rows r same)
  where
    go : (t : Bool) → bytes_eq x.id id ≡ t → (has_row id rows ≡ false → find_row id (rows ++ r ∷ []) ≡ Some r)
        → cond (bytes_eq x.id id) (Some x) (find_row id (rows ++ r ∷ [])) ≡ Some r
    go true e more = let bad : true ≡ false = rw e at none in cc
    go false e more = rw e (more (rw e at none))

default_at_end : (id v : Text) (vs : List Text) (rows : List Row) → has_row id rows ≡ false
    → default_rows id AsWritten (v ∷ vs) rows ≡ rows ++ record { id = id; values = v ∷ vs; count = None; source = Some DefaultValue; reading = AsWritten } ∷ []
default_at_end id v vs rows none =
    at_row_missing id (more_values DefaultValue (v ∷ vs)) (record { id = id; values = v ∷ vs; count = None; source = Some DefaultValue; reading = AsWritten } ∷ []) rows none

other_default : (id name : Text) (texts : List Text) (rows : List Row) → bytes_eq name id ≡ false → find_row id (defaulted name texts rows) ≡ find_row id rows
other_default id name texts rows other = go (has_row name rows) refl texts
  where
    go : (t : Bool) → has_row name rows ≡ t → (ts : List Text) → find_row id (cond t rows (default_rows name AsWritten ts rows)) ≡ find_row id rows
    go true e ts = refl
    go false e [] = refl
    go false e (v ∷ vs) = ap (find_row id) (default_at_end name v vs rows e) ∙ find_more id rows _ other

own_default : (id : Text) (texts : List Text) (rows : List Row) → bytes_eq id id ≡ true → find_row id (defaulted id texts rows) ≡ option_or (find_row id rows) (default_row id texts)
own_default id texts rows itself = go (has_row id rows) refl (find_row id rows) refl texts
  where
    go : (t : Bool) → has_row id rows ≡ t → (o : Option Row) → find_row id rows ≡ o → (ts : List Text)
        → find_row id (cond t rows (default_rows id AsWritten ts rows)) ≡ option_or o (default_row id ts)
    go true e None found ts = let bad : true ≡ false = sym e ∙ any_found (λ (r : Row). bytes_eq r.id id) rows ∙ ap is_some found in cc
    go true e (Some r) found ts = found
    go false e (Some r) found ts = let bad : false ≡ true = sym e ∙ any_found (λ (r : Row). bytes_eq r.id id) rows ∙ ap is_some found in cc
    go false e None found [] = found
    go false e None found (v ∷ vs) = ap (find_row id) (default_at_end id v vs rows e) ∙ find_last id rows _ itself e

pub other_settings : (id : Text) (ss : List CommandOption) (rows : List Row) → list_any (λ s. bytes_eq (label s) id) ss ≡ false → find_row id (with_settings ss rows) ≡ find_row id rows
unfolding with_settings
other_settings id [] rows none = refl
other_settings id (s ∷ rest) rows none = go (bytes_eq (label s) id) refl none (other_settings id rest (with_setting rows s))
  where
    go : (t : Bool) → bytes_eq (label s) id ≡ t → (t || list_any (λ x. bytes_eq (label x) id) rest) ≡ false
        → (list_any (λ x. bytes_eq (label x) id) rest ≡ false → find_row id (with_settings rest (with_setting rows s)) ≡ find_row id (with_setting rows s))
        → find_row id (with_settings rest (with_setting rows s)) ≡ find_row id rows
    go true e none more = let bad : true ≡ false = none in cc
    go false e none more = more none ∙ other_default id (label s) (default_texts (kind_of s)) rows e

-- no option stands twice in the list
abbrev are_apart : List CommandOption → Bool
are_apart [] = true
are_apart (s ∷ rest) = not (list_any (λ x. bytes_eq (label x) (label s)) rest) && are_apart rest

own_settings : (s : CommandOption) (ss : List CommandOption) (rows : List Row) → bytes_eq (label s) (label s) ≡ true → are_apart ss ≡ true → list_any (λ x. bytes_eq (label x) (label s)) ss ≡ true
    → find_row (label s) (with_settings ss rows) ≡ option_or (find_row (label s) rows) (default_row (label s) (default_texts (kind_of s)))
unfolding with_settings
own_settings s [] rows itself apart listed = cc
own_settings s (x ∷ rest) rows itself apart listed = go (bytes_eq (label x) (label s)) refl listed (own_settings s rest (with_setting rows x) itself parts.1)
  where
    parts : (not (list_any (λ y. bytes_eq (label y) (label x)) rest) ≡ true) × (are_apart rest ≡ true)
    parts = both (not (list_any (λ y. bytes_eq (label y) (label x)) rest)) (are_apart rest) apart

    go : (t : Bool) → bytes_eq (label x) (label s) ≡ t → (t || list_any (λ y. bytes_eq (label y) (label s)) rest) ≡ true
        → (list_any (λ y. bytes_eq (label y) (label s)) rest ≡ true
        → find_row (label s) (with_settings rest (with_setting rows x)) ≡ option_or (find_row (label s) (with_setting rows x)) (default_row (label s) (default_texts (kind_of s))))
        → find_row (label s) (with_settings rest (with_setting rows x)) ≡ option_or (find_row (label s) rows) (default_row (label s) (default_texts (kind_of s)))
    go true e listed more =
        let same : x ≡ s = setting_is x s e in
        let none : list_any (λ y. bytes_eq (label y) (label s)) rest ≡ false = subst (λ z. list_any (λ y. bytes_eq (label y) (label z)) rest ≡ false) same (is_false _ parts.0) in
        other_settings (label s) rest (with_setting rows x) none
        ∙ ap (λ z. find_row (label s) (with_setting rows z)) same ∙ own_default (label s) (default_texts (kind_of s)) rows itself
    go false e listed more =
        more listed
        ∙ ap (λ o. option_or o (default_row (label s) (default_texts (kind_of s)))) (other_default (label s) (label x) (default_texts (kind_of x)) rows e)

-- an option has the row that it was given, or else that of its default
pub setting_found : (values : Choices) (s : CommandOption) (rows : List Row)
    → find_row (label s) (with_settings settings rows) ≡ option_or (find_row (label s) rows) (default_row (label s) (default_texts (kind_of s)))
setting_found values s rows = own_settings s settings rows (known values s).itself refl (known values s).listed

-- ---- defaults are taken

abbrev passes : Rule → Bool
passes a = is_empty a.defaults || is_empty (given_default_fault a a.defaults)

default_faultless : (rows : List Row) (a : Rule) → passes a ≡ true → default_fault rows a ≡ []
default_faultless rows a good = go (has_row a.id rows) (is_empty a.defaults) (given_default_fault a a.defaults) good
  where
    go : (there none : Bool) (kinds : Kinds) → (none || is_empty kinds) ≡ true → cond (there || none) [] kinds ≡ []
    go true none kinds h = refl
    go false true kinds h = refl
    go false false kinds h = is_nil kinds h

defaults_faultless : (rules : List Rule) (rows : List Row) → list_all passes rules ≡ true → defaults_fault rows rules ≡ []
unfolding defaults_fault
defaults_faultless [] rows good = refl
defaults_faultless (a ∷ rest) rows good =
    let p = both (passes a) (list_all passes rest) good in
    ap (λ ks. or_else ks (defaults_fault (with_default rows a) rest)) (default_faultless rows a p.0) ∙ defaults_faultless rest (with_default rows a) p.1

kind_passes : (name : Text) (k : Kind) → IsSound k → passes (filled (option_rule name k)) ≡ true
kind_passes name (takes_number low high None) sound = refl
kind_passes name (takes_number low high (Some n)) sound =
    let right = right_default (takes_number low high (Some n)) sound in
    ap (λ (t : Bool). is_empty (or_else (cond t [] (ValueValidation ∷ [])) [])) (right_accepted (takes_number low high (Some n)) (a_number n) right)
kind_passes name flag sound = refl
kind_passes name (takes_text None) sound = refl
kind_passes name (takes_text (Some text)) sound = refl

all_append : (p : Rule → Bool) (xs ys : List Rule) → list_all p xs ≡ true → list_all p ys ≡ true → list_all p (xs ++ ys) ≡ true
all_append p [] ys these those = those
all_append p (x ∷ xs) ys these those =
    let split = both (p x) (list_all p xs) these in
    ap₂ (λ a b. a && b) split.0 (all_append p xs ys split.1 those)

settings_pass : (ss : List CommandOption) → list_all passes (map built_rule ss) ≡ true
settings_pass [] = refl
settings_pass (s ∷ rest) = ap₂ (λ a b. a && b) (kind_passes (label s) (kind_of s) (sound s)) (settings_pass rest)

pub defaults_pass : (values : Choices) (rows : List Row) → defaults_fault rows (top values).rules ≡ []
unfolding colregs top
defaults_pass values rows =
    let rules = (top values).rules in
    let options = map built_rule settings in
    let others = drop (length settings) (drop 2 rules) in
    let pass = all_append passes (take 2 rules) (options ++ others) refl (all_append passes options others (settings_pass settings) refl) in
    defaults_faultless rules rows (subst (λ rs. list_all passes rs ≡ true) (sym (rules_are values)) pass)

required_there : (values : Choices) (rows : List Row) → is_given (codes "mode") rows ≡ true → is_given (codes "scenario") rows ≡ true → check_fault (top values) rows false ≡ []
unfolding colregs top
required_there values rows mode name = ap₂ (λ (m n : Bool). check_kinds false false (not m || (not n || false))) mode name

-- ---- the whole

abbrev pub fault_behind : Choices → Walk → Kinds
fault_behind values w =
    let rules = (top values).rules in
    or_else (entered_fault (built (colregs values)) w.stopped) (or_else (settle_fault rules false w.held)
    (or_else (defaults_fault (settled rules w.held).rows rules) (check_fault (top values) (finished rules w.held) (is_some (entered (built (colregs values)) w.stopped)))))

pub fault_in_two : (values : Choices) (words : List Text)
    → fault_of (colregs values) (with_program_name words)
    ≡ or_else (walk_fault (top values) [] (walk_from nothing_held) words) (fault_behind values (fold (walked (top values).rules []) (walk_from nothing_held) words))
unfolding colregs top
fault_in_two values words = refl

pub matches_finished : (values : Choices) (words : List Text)
    → matches_of (colregs values) (with_program_name words) ≡ finished (top values).rules (fold (walked (top values).rules []) (walk_from nothing_held) words).held
unfolding colregs top
matches_finished values words = refl

module _ (values : Choices) (words : List Text) (mode name : Text) (rest : List Row)
    (walks : Walks values (walk_from nothing_held) words (first_rows mode name ++ rest)) where
  abbrev whole : List Row
  whole = with_settings settings (first_rows mode name ++ rest)

  walked_finished : fold with_default (rows_settled values walks.rows walks.pending) (top values).rules ≡ whole
  walked_finished = ap (λ rs. fold with_default rs (top values).rules) walks.settles.0 ∙ defaults_added values (first_rows mode name ++ rest)

  pub mode_found : find_row (codes "mode") whole ≡ Some (row (codes "mode") mode)
  mode_found = other_settings (codes "mode") settings (first_rows mode name ++ rest) refl

  pub name_found : find_row (codes "scenario") whole ≡ Some (row (codes "scenario") name)
  name_found = other_settings (codes "scenario") settings (first_rows mode name ++ rest) refl

  abbrev explicit : Option Row → Bool
  explicit o = option_map_or (λ r. explicit_source r.source) o false

  check_whole : check_fault (top values) whole false ≡ []
  check_whole = required_there values whole (ap explicit mode_found) (ap explicit name_found)

  fault_at_end : fault_behind values (behind walks.rows walks.pending 3) ≡ []
  unfolding colregs top
  fault_at_end =
      ap (λ ks. or_else ks (or_else (defaults_fault (rows_settled values walks.rows walks.pending) (top values).rules)
      (check_fault (top values) (fold with_default (rows_settled values walks.rows walks.pending) (top values).rules) false))) walks.settles.1
      ∙ ap (λ ks. or_else ks (check_fault (top values) (fold with_default (rows_settled values walks.rows walks.pending) (top values).rules) false))
      (defaults_pass values (rows_settled values walks.rows walks.pending))
      ∙ ap (λ rs. check_fault (top values) rs false) walked_finished ∙ check_whole

  pub walked_faultless : fault_of (colregs values) (with_program_name words) ≡ []
  walked_faultless =
      fault_in_two values words
      ∙ ap (λ ks. or_else ks (fault_behind values (fold (walked (top values).rules []) (walk_from nothing_held) words))) walks.faultless
      ∙ ap (fault_behind values) walks.ends ∙ fault_at_end

  pub walked_matches : matches_of (colregs values) (with_program_name words) ≡ whole
  walked_matches = matches_finished values words ∙ ap (λ (w : Walk). finished (top values).rules w.held) walks.ends ∙ walked_finished
