-- The arguments that matches hold: they are one list at most, and words of the plain form have theirs.
use Rattle.std.proofs.Common.{◌≡◌, ◌∙◌, ◌⊎◌, inl, inr, Bool, true, false, cond, refl, sym, ap, ap₂, subst, is_some, codes, List, [], ◌∷◌, ◌++◌, map, Some, None, Option}
use Rattle.std.specs.Prelude.{Err, IfOk, IfSome, Ok, Result, option_and_then, option_map, slice_get, unwrap_or}
use Rattle.std.specs.List.{find, flat_map, list_any}
use Rattle.std.specs.Option.{option_map_or, option_or}
use Rattle.std.specs.Str.{bytes_eq}
use Rattle.std.proofs.lemmas.Slice.Eq.{bytes_eq-Decides}
use Rattle.clap.specs.Words.{Row, Text, IsParsedFrom, app_of, found_of, rows_of, first_of, is_simple, is_simple_and_free}
use Rattle.clap.specs.Kinds.{IsAmong, Kinds}
use Rattle.clap.specs.declared.builder.command.Command.{Command}
use Rattle.clap.specs.declared.error.kind.ErrorKind.{ErrorKind}
use Rattle.clap.specs.declared.error.kind.ErrorKind.TheVariants.{OutOfMemory}
use Rattle.clap.specs.declared.parser.matches.ArgMatches.{ArgMatches}
use Rattle.clap.proofs.WalkLemmas.{find-map, first_value-rows}
use Rattle.command_line.specs.CommandLine.{AreModes, CommandOption, Value, colregs, default_of, default_texts, kind_of, label, mode_text, modes, settings, written}
use Rattle.command_line.specs.GivenArguments.{HoldsArguments, HoldsValue, IsAccepted, ArePlain, IsTaken, MayAllBeGiven, setting_words, value_among}
use Rattle.command_line.specs.Inner.Reading.{HoldsNoMode, HoldsNone}
use Rattle.command_line.specs.declared.mode.ModeArgument.{ModeArgument}
use Rattle.command_line.specs.declared.arguments.Arguments.{Arguments}
use Rattle.command_line.specs.declared.arguments.WordsFault.{WordsFault}
use Rattle.command_line.specs.declared.arguments.WordsFault.TheVariants.{Memory, Usage}
use Rattle.command_line.proofs.ByKind.{IsRight, TakesValue, has_value, held_by, lacks, left_out, right_default, right_given, same_options, sound}
use Rattle.command_line.proofs.Finished.{default_row, find_row, mode_found, name_found, setting_found, walked_faultless, walked_matches, with_settings}
use Rattle.command_line.proofs.Parsed.{mode_filled, mode_passed, scenario_filled, setting_filled, setting_taken}
use Rattle.command_line.proofs.Plain.{first_rows, plain_walks, setting_row}
use Rattle.command_line.proofs.Settings.{Choices, known, setting_is}
use Rattle.command_line.proofs.ModeTexts.{mode_back, mode_of}
use Rattle.command_line.proofs.Walking.{row}

-- ---- modes and options have different names

some_is : {X : Type 0} (x y : X) → Some x ≡ Some y → x ≡ y
some_is x y same = ap (λ o. unwrap_or o x) same

-- ---- the matches hold one arguments at most

pub one_held : (rows : List Row) (a b : Arguments) → HoldsArguments rows a → HoldsArguments rows b → a ≡ b
one_held rows a b one two =
    let modes = sym (mode_back a.mode) ∙ ap mode_of (some_is (mode_text a.mode) (mode_text b.mode) (sym one.mode ∙ two.mode)) ∙ mode_back b.mode in
    let names = some_is a.name b.name (sym one.name ∙ two.name) in
    let options = same_options a.options b.options (λ s. (one.options s).1 ∙ sym (two.options s).1) in
    λ i. record { mode = modes i; name = names i; options = options i }

-- what holds a arguments holds no fault
pub holds_one : (rows : List Row) (arguments : Arguments) → HoldsArguments rows arguments → HoldsNone rows → ⊥
holds_one rows arguments holds (inl none) = none arguments.mode holds.mode
holds_one rows arguments holds (inr (inl none)) = let bad : None ≡ Some arguments.name = sym none ∙ holds.name in cc
holds_one rows arguments holds (inr (inr (inl (s, none, some)))) =
    let bad : false ≡ true = sym (ap is_some ((holds.options s).1 ∙ none)) ∙ has_value s arguments.options some in
    cc
holds_one rows arguments holds (inr (inr (inr (s, text, found, untaken)))) =
    untaken (subst (λ (o : Option Text). IfSome o (IsTaken (kind_of s))) found (holds.options s).0)

-- ---- what the plain form holds

abbrev found_in : CommandOption → List (CommandOption × Value) → Option (CommandOption × Value)
found_in s given = find (λ g. bytes_eq (label g.0) (label s)) given

-- an option has a row exactly where it is given
row_given : (values : Choices) (mode name : Text) (given : List (CommandOption × Value)) (s : CommandOption)
    → find_row (label s) (first_rows mode name ++ map setting_row given) ≡ option_map setting_row (found_in s given)
row_given values mode name given s =
    let is = known values s in
    ap₂ (λ (a b : Bool). cond a (Some (row (codes "mode") mode)) (cond b (Some (row (codes "scenario") name)) (find_row (label s) (map setting_row given)))) is.no_mode is.no_scenario
    ∙ sym (find-map (λ (r : Row). bytes_eq r.id (label s)) setting_row given)

abbrev pub first_text : Option Row → Option Text
first_text o = option_and_then (λ (r : Row). slice_get r.values 0) o

text_or_default : (name : Text) (d : Option Value) (o : Option (CommandOption × Value))
    → first_text (option_or (option_map setting_row o) (default_row name (option_map_or (λ v. written v ∷ []) d []))) ≡ option_map written (option_or (option_map (λ g. g.1) o) d)
text_or_default name None None = refl
text_or_default name (Some v) None = refl
text_or_default name d (Some g) = refl

-- the text of an option is that of its value
text_given : (values : Choices) (mode name : Text) (given : List (CommandOption × Value)) (s : CommandOption)
    → first_of (label s) (with_settings settings (first_rows mode name ++ map setting_row given)) ≡ option_map written (value_among s given)
text_given values mode name given s =
    ap first_text (setting_found values s (first_rows mode name ++ map setting_row given)
    ∙ ap (λ o. option_or o (default_row (label s) (default_texts (kind_of s)))) (row_given values mode name given s))
    ∙ text_or_default (label s) (default_of (kind_of s)) (found_in s given)

-- and the value is one of its kind
right_among : (s : CommandOption) (given : List (CommandOption × Value)) → MayAllBeGiven given → IfSome (value_among s given) (IsRight (kind_of s))
right_among s [] may = right_default (kind_of s) (sound s)
right_among s (g ∷ rest) may = go (bytes_eq (label g.0) (label s)) refl (right_among s rest may.1)
  where
    go : (t : Bool) → bytes_eq (label g.0) (label s) ≡ t → IfSome (value_among s rest) (IsRight (kind_of s))
        → IfSome (option_or (option_map (λ (x : CommandOption × Value). x.1) (cond t (Some g) (found_in s rest))) (default_of (kind_of s))) (IsRight (kind_of s))
    go true e more = subst (λ x. IsRight (kind_of x) g.1) (setting_is g.0 s e) (right_given (kind_of g.0) g.1 (sound g.0) may.0)
    go false e more = more

-- the matches of the plain form hold what it asks for
options_held : (values : Choices) (mode name : Text) (given : List (CommandOption × Value)) (s : CommandOption) → MayAllBeGiven given
    → HoldsValue (with_settings settings (first_rows mode name ++ map setting_row given)) s (value_among s given)
options_held values mode name given s may =
    held_by (kind_of s) (first_of (label s) (with_settings settings (first_rows mode name ++ map setting_row given))) (value_among s given)
    (text_given values mode name given s) (right_among s given may)
    (left_out (option_map (λ (g : CommandOption × Value). g.1) (found_in s given)) (default_of (kind_of s)))

-- `clap` takes words of the plain form, and its matches hold what they ask for
pub plain_accepted : (values : Choices) → AreModes values.now → (words : List Text) (arguments : Arguments) → ArePlain words arguments → IsAccepted (colregs values) words arguments
plain_accepted values are words arguments plain =
    let mode = mode_text arguments.mode in
    let name = arguments.name in
    let walks = plain_walks values are arguments.mode name plain.given plain.name plain.once plain.values in
    let form = mode ∷ name ∷ flat_map setting_words plain.given in
    let rest = map setting_row plain.given in
    let rows = with_settings settings (first_rows mode name ++ rest) in
    let faultless = walked_faultless values form mode name rest walks in
    let matches = walked_matches values form mode name rest walks in
    let held : HoldsArguments rows arguments = record {
      mode = ap first_text (mode_found values form mode name rest walks);
      name = ap first_text (name_found values form mode name rest walks);
      options = λ s. subst (λ (o : Option Value). HoldsValue rows s o) (sym (plain.options s)) (options_held values mode name plain.given s plain.values);
    } in
    subst (λ (ws : List Text). IsAccepted (colregs values) ws arguments) (sym plain.form)
    (faultless, subst (λ (rs : List Row). HoldsArguments rs arguments) (sym matches) held)

-- the command is one whose arguments `clap` defines
pub colregs_simple : (values : Choices) → is_simple_and_free (colregs values) ≡ true
unfolding colregs
colregs_simple values = refl

pub colregs_is_simple : (values : Choices) → is_simple (colregs values) ≡ true
unfolding colregs
colregs_is_simple values = refl

-- what is answered where the matches hold the arguments
pub held_answer : (rows : List Row) (arguments : Arguments) (answer : Result Arguments WordsFault) → HoldsArguments rows arguments → IfOk answer (HoldsArguments rows)
    → (answer ≡ Err Usage → HoldsNone rows) → (answer ≡ Ok arguments) ⊎ (answer ≡ Err Memory)
held_answer rows arguments (Ok found) holds held unheld = inl (ap (λ r. Ok r) (one_held rows found arguments held holds))
held_answer rows arguments (Err Usage) holds held unheld = absurd (holds_one rows arguments holds (unheld refl))
held_answer rows arguments (Err Memory) holds held unheld = inr refl

-- an error of a kind that may come, other than memory that ran out
pub some_kind : (k : ErrorKind) (kinds : Kinds) → (k ≡ OutOfMemory → ⊥) → (k ≡ OutOfMemory) ⊎ IsAmong k kinds → kinds ≡ [] → ⊥
some_kind k [] other (inl memory) none = other memory
some_kind k [] other (inr among) none = among
some_kind k (x ∷ xs) other among none = cc

-- ---- what `clap` takes holds a mode, a name and what its options take

pub named_mode : (ms : List ModeArgument) (text : Text) → list_any (λ m. bytes_eq (mode_text m) text) ms ≡ true → (m : ModeArgument) × (text ≡ mode_text m)
named_mode [] text e = cc
named_mode (m ∷ ms) text e = go (bytes_eq (mode_text m) text) refl (named_mode ms text)
  where
    go : (t : Bool) → bytes_eq (mode_text m) text ≡ t → (list_any (λ m. bytes_eq (mode_text m) text) ms ≡ true → (n : ModeArgument) × (text ≡ mode_text n))
        → (n : ModeArgument) × (text ≡ mode_text n)
    go true here more = (m, sym ((bytes_eq-Decides (mode_text m) text).0 here))
    go false here more = more (rw here at e)

missing : (o : Option Text) → is_some o ≡ true → o ≡ None → ⊥
missing None some none = cc
missing (Some x) some none = cc

some_mode : (rows : List Row) (o : Option Text) → first_of (codes "mode") rows ≡ o → is_some o ≡ true
    → ((text : Text) → o ≡ Some text → list_any (λ m. bytes_eq (mode_text m) text) modes ≡ true) → HoldsNoMode rows → ⊥
some_mode rows None e some with_program_name none = cc
some_mode rows (Some text) e some with_program_name none =
    let found = named_mode modes text (with_program_name text refl) in
    none found.0 (e ∙ ap (λ t. Some t) found.1)

-- so nothing is missing
none_missing : (rows : List Row) → is_some (first_of (codes "mode") rows) ≡ true
    → ((text : Text) → first_of (codes "mode") rows ≡ Some text → list_any (λ m. bytes_eq (mode_text m) text) modes ≡ true)
    → is_some (first_of (codes "scenario") rows) ≡ true
    → ((s : CommandOption) → TakesValue (kind_of s) → is_some (default_of (kind_of s)) ≡ true → is_some (first_of (label s) rows) ≡ true)
    → ((s : CommandOption) (text : Text) → first_of (label s) rows ≡ Some text → IsTaken (kind_of s) text) → HoldsNone rows → ⊥
none_missing rows mode_there a_mode name_there filled taken (inl none) = some_mode rows (first_of (codes "mode") rows) refl mode_there a_mode none
none_missing rows mode_there a_mode name_there filled taken (inr (inl none)) = missing (first_of (codes "scenario") rows) name_there none
none_missing rows mode_there a_mode name_there filled taken (inr (inr (inl (s, none, some)))) =
    lacks (kind_of s) (first_of (label s) rows) none some (λ takes. filled s takes some)
none_missing rows mode_there a_mode name_there filled taken (inr (inr (inr (s, text, found, untaken)))) = untaken (taken s text found)

-- the same of what a parse by the command found
pub parsed_whole : (c : Command) (m : ArgMatches) → IsParsedFrom c m → (values : Choices) → AreModes values.now → app_of c ≡ colregs values
    → HoldsNone (rows_of (found_of m)) → ⊥
parsed_whole c m p values are app_is =
    let f = found_of m in
    none_missing (rows_of f) (ap is_some (sym (first_value-rows f (codes "mode"))) ∙ mode_filled c m p values app_is)
    (λ text first. sym (are text) ∙ mode_passed c m p values app_is text (first_value-rows f (codes "mode") ∙ first))
    (ap is_some (sym (first_value-rows f (codes "scenario"))) ∙ scenario_filled c m p values app_is)
    (λ s takes some. ap is_some (sym (first_value-rows f (label s))) ∙ setting_filled c m p values app_is s takes some)
    (λ s text first. setting_taken c m p values app_is s text (first_value-rows f (label s) ∙ first))
