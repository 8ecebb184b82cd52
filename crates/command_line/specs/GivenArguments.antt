-- What the words of a command line hold: a mode, a name and options. The program's own name is none of them.
use Rattle.std.specs.Prelude.{◌≡◌, ◌≢◌, ◌≤◌, ◌==◌, ⊤, ℕ, Bool, true, false, not, codes, List, [], ◌∷◌, ◌++◌, Option, Some}
use Rattle.std.specs.Prelude.{IfSome, find, option_map}
use Rattle.std.specs.Option.{option_map_or, option_or}
use Rattle.std.specs.List.{flat_map, list_any}
use Rattle.std.specs.Str.{bytes_eq}
use Rattle.std.specs.Str.Parse.{IsNumeral, digits_value, without_leading_plus}
use Rattle.clap.specs.Words.{App, Row, Text, fault_of, first_of, matches_of}
use Rattle.command_line.specs.CommandLine.{IsColregs, Kind, CommandOption, Value, a_flag, a_number, a_text, default_of, flag, kind_of, label, mode_text, rows_file}
use Rattle.command_line.specs.CommandLine.{seed, start, takes_number, takes_text, ticks, why, written}
use Rattle.command_line.specs.declared.arguments.Options.{Options}
use Rattle.command_line.specs.declared.arguments.Arguments.{Arguments}

-- the text is decimal digits, which a `+` may stand before, and they have this value
abbrev pub IsNumber : Text → ℕ → Type 0
IsNumber text n = IsNumeral 10 (without_leading_plus text) × (n ≡ digits_value 10 (without_leading_plus text))

-- ---- what `clap` makes of the words

-- an option of the kind takes the text: where it takes a number, that of a number in its range
abbrev pub IsTaken : Kind → Text → Type 0
IsTaken (takes_number low high default) text = (n : ℕ) × (low ≤ n) × (n ≤ high) × IsNumber text n
IsTaken _ text = ⊤

-- the value that the text of an option says, where the matches hold one; a flag is given where that is `true`
abbrev pub said : Kind → Option Text → Option Value
said (takes_number low high default) held = option_map (λ text. a_number (digits_value 10 (without_leading_plus text))) held
said flag held = Some (a_flag (option_map_or (bytes_eq (codes "true")) held false))
said (takes_text default) held = option_map a_text held

-- the matches hold this value of the option, or none
abbrev pub HoldsValue : List Row → CommandOption → Option Value → Type 0
HoldsValue rows s value = IfSome (first_of (label s) rows) (IsTaken (kind_of s)) × (value ≡ said (kind_of s) (first_of (label s) rows))

-- the value of an option among the options
abbrev pub value_of : CommandOption → Options → Option Value
value_of start options = option_map a_number options.start
value_of ticks options = option_map a_number options.ticks
value_of seed options = Some (a_number options.seed)
value_of why options = Some (a_flag options.why)
value_of rows_file options = Some (a_text options.rows)

-- the matches hold these arguments
pub record HoldsArguments (rows : List Row) (arguments : Arguments) : Type 0 where
  pub mode : first_of (codes "mode") rows ≡ Some (mode_text arguments.mode)
  pub name : first_of (codes "scenario") rows ≡ Some arguments.name
  pub options : (s : CommandOption) → HoldsValue rows s (value_of s arguments.options)

-- the words with the program's name, as `clap` reads them
abbrev pub with_program_name : List Text → List Text
with_program_name words = codes "colregs" ∷ words

-- `clap` takes the words for this command, and its matches hold the arguments
abbrev pub IsAccepted : App → List Text → Arguments → Type 0
IsAccepted app words arguments =
    (fault_of app (with_program_name words) ≡ []) × HoldsArguments (matches_of app (with_program_name words)) arguments

-- `clap` refuses the words for this command
abbrev pub AreWordsRefused : App → List Text → Type 0
AreWordsRefused app words = fault_of app (with_program_name words) ≢ []

-- The words give the arguments, as `clap` reads them by the command.
abbrev pub GiveArguments : List Text → Arguments → Type 0
GiveArguments words arguments = (app : App) × IsColregs app × IsAccepted app words arguments

-- The arguments are invalid.
abbrev pub AskForNothing : List Text → Type 0
AskForNothing words = (app : App) × IsColregs app × AreWordsRefused app words

-- ---- the plain form

-- a text that is not empty and does not begin with `-`
abbrev pub is_plain_text : Text → Bool
is_plain_text [] = false
is_plain_text (first ∷ rest) = not (first == 45)

-- what a value adds behind the option: nothing behind a flag, and else the value as a word of its own
abbrev pub value_words : Value → List Text
value_words (a_flag given) = []
value_words (a_number n) = written (a_number n) ∷ []
value_words (a_text text) = written (a_text text) ∷ []

abbrev pub setting_words : CommandOption × Value → List Text
setting_words given = (codes "--" ++ label given.0) ∷ value_words given.1

abbrev pub is_given : CommandOption → List (CommandOption × Value) → Bool
is_given s given = list_any (λ g. bytes_eq (label g.0) (label s)) given

-- no option stands twice
abbrev pub AreOnce : List (CommandOption × Value) → Type 0
AreOnce [] = ⊤
AreOnce (g ∷ rest) = (is_given g.0 rest ≡ false) × AreOnce rest

-- an option of this kind may be given with this value: a number of the range, a flag as one that is set, a plain text
abbrev pub MayBeGiven : Kind → Value → Type 0
MayBeGiven (takes_number low high default) (a_number n) = (low ≤ n) × (n ≤ high)
MayBeGiven flag (a_flag given) = given ≡ true
MayBeGiven (takes_text default) (a_text text) = is_plain_text text ≡ true
MayBeGiven _ _ = ⊥

abbrev pub MayAllBeGiven : List (CommandOption × Value) → Type 0
MayAllBeGiven [] = ⊤
MayAllBeGiven (g ∷ rest) = MayBeGiven (kind_of g.0) g.1 × MayAllBeGiven rest

-- the value of an option: the one that is given, or else its default
abbrev pub value_among : CommandOption → List (CommandOption × Value) → Option Value
value_among s given = option_or (option_map (λ g. g.1) (find (λ g. bytes_eq (label g.0) (label s)) given)) (default_of (kind_of s))

-- The words are a mode, a name and then options, each at most once. A flag stands alone, and any other option is followed by its value.
-- These are the arguments that they give.
pub record ArePlain (words : List Text) (arguments : Arguments) : Type 0 where
  pub given : List (CommandOption × Value)
  pub form : words ≡ mode_text arguments.mode ∷ arguments.name ∷ flat_map setting_words given
  pub name : is_plain_text arguments.name ≡ true
  pub once : AreOnce given
  pub values : MayAllBeGiven given
  pub options : (s : CommandOption) → value_of s arguments.options ≡ value_among s given
