-- The command `colregs`, in the words in which `clap` says how it reads a command line.
use Rattle.std.specs.Prelude.{◌≡◌, ℕ, Bool, codes, true, false, List, [], ◌∷◌, Option, Some, None, fold, map, option_map}
use Rattle.std.specs.Borrow.{Bor}
use Rattle.std.specs.Fmt.{decimal}
use Rattle.std.specs.List.{list_any}
use Rattle.std.specs.Option.{option_map_or}
use Rattle.std.specs.Str.{bytes_eq}
use Rattle.clap.specs.Words.{App, Rule, Text, new_app, new_rule, possible_matches, with_rule}
use Rattle.clap.specs.Simple.{on_top}
use Rattle.clap.specs.Values.{bool_text}
use Rattle.clap.specs.declared.builder.ArgAction.TheVariants.{Set, SetTrue}
use Rattle.clap.specs.declared.builder.possible_value.PossibleValue.{PossibleValue}
use Rattle.clap.specs.declared.builder.value_parser.ValueParser.TheVariants as parser
use Rattle.command_line.specs.declared.mode.ModeArgument.{ModeArgument}
use Rattle.command_line.specs.declared.mode.ModeArgument.TheVariants as argument
use Rattle.tasks.specs.declared.mode.Mode.TheVariants as mode

-- ---- the modes

abbrev pub mode_text : ModeArgument → Text
mode_text (argument.Report mode.Points) = codes "points"
mode_text (argument.Report mode.Audit) = codes "audit"
mode_text (argument.Report mode.Plan) = codes "plan"
mode_text (argument.Report mode.Drill) = codes "drill"
mode_text argument.Migrate = codes "migrate"
mode_text (argument.Report mode.Recheck) = codes "recheck"
mode_text (argument.Report mode.Watch) = codes "watch"

abbrev pub modes : List ModeArgument
modes = argument.Report mode.Points ∷ argument.Report mode.Audit ∷ argument.Report mode.Plan ∷ argument.Report mode.Drill ∷ argument.Migrate
    ∷ argument.Report mode.Recheck ∷ argument.Report mode.Watch ∷ []

-- these values of an argument are the modes: a text is one of them exactly where it is the text of a mode
abbrev pub AreModes : List PossibleValue → Type 0
AreModes values = (text : Text) → list_any (possible_matches false text) values ≡ list_any (λ m. bytes_eq (mode_text m) text) modes

-- ---- the options, by kind

-- what an option takes: a number of a range, nothing, or a text
pub data Kind : Type 0 where
  -- the least number, the greatest, and the number where the option is not given
  takes_number : ℕ → ℕ → Option ℕ → Kind
  flag : Kind
  -- the text where the option is not given
  takes_text : Option Text → Kind

pub data CommandOption : Type 0 where
  start : CommandOption
  ticks : CommandOption
  seed : CommandOption
  why : CommandOption
  rows_file : CommandOption

abbrev pub settings : List CommandOption
settings = start ∷ ticks ∷ seed ∷ why ∷ rows_file ∷ []

abbrev pub label : CommandOption → Text
label start = codes "start"
label ticks = codes "ticks"
label seed = codes "seed"
label why = codes "why"
label rows_file = codes "rows"

abbrev pub kind_of : CommandOption → Kind
kind_of start = takes_number 0 9999999999 None
kind_of ticks = takes_number 1 20000 None
kind_of seed = takes_number 0 999999 (Some 1)
kind_of why = flag
kind_of rows_file = takes_text (Some (codes "why.csv"))

-- the value of an option
pub data Value : Type 0 where
  a_number : ℕ → Value
  a_flag : Bool → Value
  a_text : Text → Value

-- the value where the option is not given
abbrev pub default_of : Kind → Option Value
default_of (takes_number low high default) = option_map a_number default
default_of flag = Some (a_flag false)
default_of (takes_text default) = option_map a_text default

-- the value as a text
abbrev pub written : Value → Text
written (a_number n) = decimal n
written (a_flag given) = bool_text given
written (a_text text) = text

-- ---- the command

-- the program's name, and that it has a version
abbrev pub program : App
program = on_top (λ s. record s { has_version = true }) (new_app (codes "colregs"))

abbrev pub mode_rule : Bor (List PossibleValue) → Rule
mode_rule values = record (new_rule (codes "mode")) { required = true; action = Some Set; value_names = 1; parser = Some (parser.Values values) }

abbrev pub scenario_rule : Rule
scenario_rule = record (new_rule (codes "scenario")) { required = true; action = Some Set; value_names = 1 }

abbrev pub default_texts : Kind → List Text
default_texts kind = option_map_or (λ v. written v ∷ []) (default_of kind) []

-- an option of this name and kind
abbrev pub option_rule : Text → Kind → Rule
option_rule name (takes_number low high default) = record (new_rule name) {
  long = Some name;
  action = Some Set;
  value_names = 1;
  parser = Some (parser.Unsigned low high);
  defaults = default_texts (takes_number low high default);
}
option_rule name flag = record (new_rule name) { long = Some name; action = Some SetTrue }
option_rule name (takes_text default) =
    record (new_rule name) { long = Some name; action = Some Set; value_names = 1; defaults = default_texts (takes_text default) }

abbrev pub setting_rule : CommandOption → Rule
setting_rule s = option_rule (label s) (kind_of s)

-- the command: a mode and a scenario, which are required, and the options
unfoldable pub colregs : Bor (List PossibleValue) → App
colregs values = fold with_rule (with_rule (with_rule program (mode_rule values)) scenario_rule) (map setting_rule settings)

-- `clap` is given this command
abbrev pub IsColregs : App → Type 0
IsColregs app = (values : Bor (List PossibleValue)) × AreModes values.now × (app ≡ colregs values)
