-- How the matches are read, one value after the other.
use Rattle.std.specs.Prelude.{◌≡◌, ◌≢◌, ◌⊎◌, ◌≤◌, ⊤, ℕ, true, codes, List, Option, Some, None, Result, Ok, Err, is_some}
use Rattle.clap.specs.Words.{Row, Text, first_of}
use Rattle.command_line.specs.CommandLine.{CommandOption, default_of, kind_of, label, mode_text}
use Rattle.command_line.specs.GivenArguments.{HoldsValue, IsNumber, IsTaken, said, value_of}
use Rattle.command_line.specs.declared.mode.ModeArgument.{ModeArgument}
use Rattle.command_line.specs.declared.arguments.Options.{Options}
use Rattle.command_line.specs.declared.arguments.WordsFault.{WordsFault}
use Rattle.command_line.specs.declared.arguments.WordsFault.TheVariants.{Memory, Usage}

abbrev pub IsNumberIn : ℕ → ℕ → Text → ℕ → Type 0
IsNumberIn low high text n = (low ≤ n) × (n ≤ high) × IsNumber text n

-- the number of an option, none where it is not given, or a value that is no such number
abbrev pub GivesNumber : List Row → Text → ℕ → ℕ → Result (Option ℕ) WordsFault → Type 0
GivesNumber rows name low high (Ok None) = first_of name rows ≡ None
GivesNumber rows name low high (Ok (Some n)) = (text : Text) × (first_of name rows ≡ Some text) × IsNumberIn low high text n
GivesNumber rows name low high (Err Usage) = (text : Text) × (first_of name rows ≡ Some text) × ((n : ℕ) → IsNumberIn low high text n → ⊥)
GivesNumber rows name low high (Err Memory) = ⊥

-- the matches hold a text that the option does not take: `clap` lets none through
abbrev pub HoldsNoValue : List Row → Type 0
HoldsNoValue rows = (s : CommandOption) × (text : Text) × (first_of (label s) rows ≡ Some text) × (IsTaken (kind_of s) text → ⊥)

-- the matches say no value of an option that has a default: `clap` puts the default there
abbrev pub LacksDefault : List Row → Type 0
LacksDefault rows = (s : CommandOption) × (said (kind_of s) (first_of (label s) rows) ≡ None) × (is_some (default_of (kind_of s)) ≡ true)

abbrev pub HoldsNoOptions : List Row → Type 0
HoldsNoOptions rows = LacksDefault rows ⊎ HoldsNoValue rows

abbrev pub GivesOptions : List Row → Result Options WordsFault → Type 0
GivesOptions rows (Ok options) = (s : CommandOption) → HoldsValue rows s (value_of s options)
GivesOptions rows (Err Usage) = HoldsNoOptions rows
GivesOptions rows (Err Memory) = ⊤

-- the matches hold no mode
abbrev pub HoldsNoMode : List Row → Type 0
HoldsNoMode rows = (mode : ModeArgument) → first_of (codes "mode") rows ≢ Some (mode_text mode)

-- the matches hold no request: the mode, the name or a default is missing, or an option does not take its text
abbrev pub HoldsNone : List Row → Type 0
HoldsNone rows = HoldsNoMode rows ⊎ ((first_of (codes "scenario") rows ≡ None) ⊎ HoldsNoOptions rows)
