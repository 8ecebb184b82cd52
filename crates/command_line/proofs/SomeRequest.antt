-- Words that `clap` takes give arguments: the walk leaves a mode and a name, and of each option a text that it takes, or its default.
use Rattle.std.proofs.Common.{◌≡◌, ◌∙◌, ◌||◌, ◌⊎◌, inl, inr, ℕ, Bool, true, false, not, refl, sym, ap, subst, codes, List, [], ◌∷◌, Option, Some, None, is_some}
use Rattle.std.specs.Prelude.{IfSome, option_map, unwrap_or}
use Rattle.std.specs.List.{fold}
use Rattle.std.specs.Option.{option_map_or, option_or}
use Rattle.std.specs.Str.{bytes_eq}
use Rattle.std.specs.Str.Parse.{digits_value, without_leading_plus}
use Rattle.clap.specs.Facts.{explicit_source, parser_of_value}
use Rattle.clap.specs.Words.{Row, Text, fault_of, first_of, matches_of}
use Rattle.clap.specs.ValueTests.{accepts}
use Rattle.clap.specs.Simple.{built, entered, filled, with_index}
use Rattle.clap.specs.Kinds.{Kinds, check_kinds, or_else}
use Rattle.clap.specs.Takes.{is_given}
use Rattle.clap.specs.Walk.{Walk, arg_by_id, finished, nothing_held, settled, walk_from, walked}
use Rattle.clap.specs.Faults.{check_fault, defaults_fault, entered_fault, settle_fault, walk_fault}
use Rattle.clap.specs.declared.builder.value_parser.ValueParser.TheVariants.{Unsigned}
use Rattle.clap.proofs.OnLiterals.{clap_on_literals}
use Rattle.clap.proofs.ValueTestLemmas.{accepts-Accepts}
use Rattle.command_line.specs.CommandLine.{AreModes, CommandOption, Kind, Value, a_number, a_text, colregs, default_of, default_texts, flag, kind_of, label, mode_rule, mode_text, modes, option_rule}
use Rattle.command_line.specs.CommandLine.{rows_file, scenario_rule, seed, settings, start, takes_number, takes_text, ticks, why, written}
use Rattle.command_line.specs.GivenArguments.{AskForNothing, GiveArguments, HoldsArguments, IsTaken, said, value_of, with_program_name}
use Rattle.command_line.specs.Requests.{AskFor, request_by}
use Rattle.command_line.specs.declared.arguments.Arguments.{Arguments}
use Rattle.command_line.specs.declared.arguments.Options.{Options}
use Rattle.command_line.specs.declared.mode.ModeArgument.{ModeArgument}
use Rattle.command_line.specs.declared.request.Request.{Request}
use Rattle.command_line.proofs.ByKind.{IsRight, IsSound, right_default, right_said, sound}
use Rattle.command_line.proofs.Finished.{default_row, defaults_added, fault_behind, fault_in_two, find_row, matches_finished, other_settings, setting_found, with_settings}
use Rattle.command_line.proofs.Given.{listed, listed_modes}
use Rattle.command_line.proofs.HeldArguments.{first_text, named_mode}
use Rattle.command_line.proofs.Settings.{Choices, built_rule, known, top}
use Rattle.command_line.proofs.TakenRows.{AreTaken, AreUsual, both_none, settled_taken, walk_taken}

-- ---- the command

once : (values : Choices) → (top values).args_override_self ≡ false
unfolding colregs top
once values = refl

usual : (values : Choices) → AreUsual (top values).rules (top values).rules
unfolding colregs top clap_on_literals
usual values = (
  record { valued = refl; itself = refl },
  (
    record { valued = refl; itself = refl },
    (
      record { valued = refl; itself = refl },
      (
        record { valued = refl; itself = refl },
        (
          record { valued = refl; itself = refl },
          (
            record { valued = refl; itself = refl },
            (
              record { valued = refl; itself = refl },
              (record { valued = refl; itself = refl }, (record { valued = refl; itself = refl }, tt)),
            ),
          ),
        ),
      ),
    ),
  ),
)

mode_known : (values : Choices) → arg_by_id (top values).rules (codes "mode") ≡ Some (with_index 1 (filled (mode_rule values)))
unfolding colregs top clap_on_literals
mode_known values = refl

scenario_known : (values : Choices) → arg_by_id (top values).rules (codes "scenario") ≡ Some (with_index 2 (filled scenario_rule))
unfolding colregs top clap_on_literals
scenario_known values = refl

none_entered : (values : Choices) (stop : Option (Text × List Text)) → is_some (entered (built (colregs values)) stop) ≡ false
unfolding colregs
none_entered values None = refl
none_entered values (Some p) = refl

-- ---- the text of an option

-- a text is taken, and there is one where the option has a default
abbrev IsHeldBy : Kind → Option Text → Type 0
IsHeldBy k held = IfSome held (IsTaken k) × (is_some (default_of k) ≡ true → is_some held ≡ true)

text_taken : (name : Text) (k : Kind) (text : Text) → accepts (filled (option_rule name k)).ignore_case (parser_of_value (filled (option_rule name k)).parser) text ≡ true → IsTaken k text
text_taken name (takes_number low high default) text accepted =
    let passed = accepts-Accepts false (Unsigned low high) text accepted in
    (digits_value 10 (without_leading_plus text), passed.2, passed.3, (passed.0, refl))
text_taken name flag text accepted = tt
text_taken name (takes_text default) text accepted = tt

default_held : (name : Text) (k : Kind) → IsSound k → IsHeldBy k (first_text (default_row name (default_texts k)))
default_held name k is = go (default_of k) (right_default k is)
  where
    go : (d : Option Value) → IfSome d (IsRight k) → IfSome (first_text (default_row name (option_map_or (λ v. written v ∷ []) d []))) (IsTaken k)
        × (is_some d ≡ true → is_some (first_text (default_row name (option_map_or (λ v. written v ∷ []) d []))) ≡ true)
    go None right = (tt, λ some. some)
    go (Some v) right = ((right_said k v right).0, λ some. refl)

-- ---- the options that texts say

abbrev number_in : Option Text → Option ℕ
number_in = option_map (λ text. digits_value 10 (without_leading_plus text))

abbrev options_in : (CommandOption → Option Text) → Options
options_in held = record {
  start = number_in (held start);
  ticks = number_in (held ticks);
  seed = unwrap_or (number_in (held seed)) 0;
  why = option_map_or (bytes_eq (codes "true")) (held why) false;
  rows = unwrap_or (held rows_file) [];
}

optional_said : (low high : ℕ) (held : Option Text) → option_map a_number (number_in held) ≡ said (takes_number low high None) held
optional_said low high None = refl
optional_said low high (Some text) = refl

number_said : (low high default : ℕ) (held : Option Text) → is_some held ≡ true → Some (a_number (unwrap_or (number_in held) 0)) ≡ said (takes_number low high (Some default)) held
number_said low high default None some = cc
number_said low high default (Some text) some = refl

text_said : (default : Text) (held : Option Text) → is_some held ≡ true → Some (a_text (unwrap_or held [])) ≡ said (takes_text (Some default)) held
text_said default None some = cc
text_said default (Some text) some = refl

options_said : (held : CommandOption → Option Text) → ((s : CommandOption) → IsHeldBy (kind_of s) (held s)) → (s : CommandOption) → value_of s (options_in held) ≡ said (kind_of s) (held s)
options_said held are start = optional_said 0 9999999999 (held start)
options_said held are ticks = optional_said 1 20000 (held ticks)
options_said held are seed = number_said 0 999999 1 (held seed) ((are seed).1 refl)
options_said held are why = refl
options_said held are rows_file = text_said (codes "why.csv") (held rows_file) ((are rows_file).1 refl)

-- ---- words without a fault

row_given : (id : Text) (rows : List Row) → is_given id rows ≡ true → (r : Row) × (find_row id rows ≡ Some r)
row_given id rows given = go (find_row id rows) refl given
  where
    go : (found : Option Row) → find_row id rows ≡ found → option_map_or (λ (r : Row). explicit_source r.source) found false ≡ true → (r : Row) × (find_row id rows ≡ Some r)
    go None is given = cc
    go (Some r) is given = (r, is)

second_and_fourth : (a b c d : Kinds) → or_else a (or_else b (or_else c d)) ≡ [] → (b ≡ []) × (d ≡ [])
second_and_fourth a b c d none =
    let behind_a = (both_none a (or_else b (or_else c d)) none).1 in
    let behind_b = both_none b (or_else c d) behind_a in
    (behind_b.0, (both_none c d behind_b.1).1)

module _ (values : Choices) (are : AreModes values.now) (words : List Text) (none : fault_of (colregs values) (with_program_name words) ≡ []) where
  abbrev end : Walk
  end = fold (walked (top values).rules []) (walk_from nothing_held) words

  -- the rows of what is given, and with the defaults
  abbrev given : List Row
  given = (settled (top values).rules end.held).rows

  abbrev whole : List Row
  whole = with_settings settings given

  matches_are : matches_of (colregs values) (with_program_name words) ≡ whole
  matches_are = matches_finished values words ∙ defaults_added values given

  parts : (walk_fault (top values) [] (walk_from nothing_held) words ≡ []) × (fault_behind values end ≡ [])
  parts = both_none _ _ (sym (fault_in_two values words) ∙ none)

  last_parts : (settle_fault (top values).rules false end.held ≡ [])
      × (check_fault (top values) (finished (top values).rules end.held) (is_some (entered (built (colregs values)) end.stopped)) ≡ [])
  last_parts =
      second_and_fourth (entered_fault (built (colregs values)) end.stopped) (settle_fault (top values).rules false end.held) (defaults_fault given (top values).rules)
      (check_fault (top values) (finished (top values).rules end.held) (is_some (entered (built (colregs values)) end.stopped))) parts.1

  settles : settle_fault (top values).rules (top values).args_override_self end.held ≡ []
  settles = subst (λ (again : Bool). settle_fault (top values).rules again end.held ≡ []) (sym (once values)) last_parts.0

  taken : AreTaken (top values).rules given
  taken = settled_taken (top values) [] (once values) (usual values) end.held settles
      (walk_taken (top values) [] (once values) (usual values) words (walk_from nothing_held) parts.0 (λ id a r named found. cc))

  checked : check_fault (top values) whole false ≡ []
  checked =
      subst (λ (rows : List Row). check_fault (top values) rows false ≡ []) (defaults_added values given)
      (subst (λ (b : Bool). check_fault (top values) (finished (top values).rules end.held) b ≡ []) (none_entered values end.stopped) last_parts.1)

  both_given : (is_given (codes "mode") whole ≡ true) × (is_given (codes "scenario") whole ≡ true)
  unfolding colregs top
  both_given = go (is_given (codes "mode") whole) (is_given (codes "scenario") whole) checked
    where
      go : (m n : Bool) → check_kinds false false (not m || (not n || false)) ≡ [] → (m ≡ true) × (n ≡ true)
      go true true e = (refl, refl)
      go true false e = cc
      go false n e = cc

  mode_held : (m : ModeArgument) × (first_of (codes "mode") whole ≡ Some (mode_text m))
  mode_held =
      let there = row_given (codes "mode") whole both_given.0 in
      let found = sym (other_settings (codes "mode") settings given refl) ∙ there.1 in
      let is = taken (codes "mode") (with_index 1 (filled (mode_rule values))) there.0 (mode_known values) found in
      let named = named_mode modes is.text (sym (are is.text) ∙ is.taken) in
      (named.0, ap first_text there.1 ∙ is.first ∙ ap (λ t. Some t) named.1)

  name_held : (name : Text) × (first_of (codes "scenario") whole ≡ Some name)
  name_held =
      let there = row_given (codes "scenario") whole both_given.1 in
      let found = sym (other_settings (codes "scenario") settings given refl) ∙ there.1 in
      let is = taken (codes "scenario") (with_index 2 (filled scenario_rule)) there.0 (scenario_known values) found in
      (is.text, ap first_text there.1 ∙ is.first)

  option_held : (s : CommandOption) → IsHeldBy (kind_of s) (first_of (label s) whole)
  option_held s = subst (λ (o : Option Row). IsHeldBy (kind_of s) (first_text o)) (sym (setting_found values s given)) (by (find_row (label s) given) refl)
    where
      by : (o : Option Row) → find_row (label s) given ≡ o → IsHeldBy (kind_of s) (first_text (option_or o (default_row (label s) (default_texts (kind_of s)))))
      by None found = default_held (label s) (kind_of s) (sound s)
      by (Some r) found =
          let is = taken (label s) (built_rule s) r (known values s).by_id found in
          subst (IsHeldBy (kind_of s)) (sym is.first) (text_taken (label s) (kind_of s) is.text is.taken, λ some. refl)

  abbrev arguments : Arguments
  arguments = record { mode = mode_held.0; name = name_held.0; options = options_in (λ s. first_of (label s) whole) }

  arguments_held : HoldsArguments whole arguments
  arguments_held = record {
    mode = mode_held.1;
    name = name_held.1;
    options = λ s. ((option_held s).0, options_said (λ x. first_of (label x) whole) option_held s);
  }

  some_given : GiveArguments words arguments
  some_given = (colregs values, (values, are, refl), (none, subst (λ (rows : List Row). HoldsArguments rows arguments) (sym matches_are) arguments_held))

pub asked_or_not : (words : List Text) → AskForNothing words ⊎ ((request : Request) × AskFor words request)
asked_or_not words = by (fault_of (colregs listed) (with_program_name words)) refl
  where
    by : (kinds : Kinds) → fault_of (colregs listed) (with_program_name words) ≡ kinds → AskForNothing words ⊎ ((request : Request) × AskFor words request)
    by [] none = let given = arguments listed listed_modes words none in inr (request_by given, (given, some_given listed listed_modes words none, refl))
    by (k ∷ kinds) is = inl (colregs listed, (listed, listed_modes, refl), λ none. let bad : k ∷ kinds ≡ [] = sym is ∙ none in cc)
