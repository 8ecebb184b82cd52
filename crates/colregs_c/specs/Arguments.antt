-- The arguments of the program that a call's numbers stand for.
use Rattle.std.specs.Prelude.{ℕ, ◌==◌, ◌-◌, ◌^◌, ◌&&◌, ◌||◌, ◌++◌, Bool, true, not, nat_le, codes, List, [], ◌∷◌, slice_get, Option, Some, None, if◌then◌else◌}
use Rattle.std.specs.List.{flat_map}
use Rattle.command_line.specs.CommandLine.{CommandOption, Value, a_flag, a_number, modes, seed, start, ticks, why}
use Rattle.command_line.specs.GivenArguments.{setting_words}
use Rattle.tasks.specs.Tasks.{task_by}
use Rattle.command_line.specs.declared.mode.ModeArgument.{ModeArgument}
use Rattle.command_line.specs.declared.mode.ModeArgument.TheVariants as argument
use Rattle.command_line.specs.declared.request.Request.{Request}
use Rattle.command_line.specs.declared.request.Request.TheVariants as asks
use Rattle.command_line.specs.declared.request.WindowOptions.{WindowOptions}
use Rattle.tasks.specs.declared.mode.Mode.{Mode}
use Rattle.tasks.specs.declared.task.Task.{Task}
use Rattle.colregs_c.specs.declared.numbers.OptionNumbers.{OptionNumbers}

-- the number that stands for the scenario's own start
abbrev pub own_start : ℕ
own_start = 2 ^ 64 - 1

-- whether each option is in its range
abbrev pub are_in_range : OptionNumbers → Bool
are_in_range options =
    (nat_le options.start 9999999999 || (options.start == own_start)) && (nat_le options.ticks 20000 && (nat_le options.seed 999999 && nat_le options.flags 1))

-- the mode that a call asks for, by its number; none where a number is out of its range
abbrev pub asked_mode : ℕ → OptionNumbers → Option ModeArgument
asked_mode number options = if are_in_range options then slice_get modes number else None

-- ---- the options that are given, each with its value

abbrev pub start_given : ℕ → List (CommandOption × Value)
start_given n = if n == own_start then [] else (start, a_number n) ∷ []

abbrev pub ticks_given : ℕ → List (CommandOption × Value)
ticks_given n = if n == 0 then [] else (ticks, a_number n) ∷ []

abbrev pub seed_given : ℕ → List (CommandOption × Value)
seed_given n = (seed, a_number n) ∷ []

abbrev pub why_given : ℕ → List (CommandOption × Value)
why_given n = if n == 0 then [] else (why, a_flag true) ∷ []

abbrev pub given : OptionNumbers → List (CommandOption × Value)
given options = start_given options.start ++ (ticks_given options.ticks ++ (seed_given options.seed ++ why_given options.flags))

-- the mode's name, the scenario's, and then the options
abbrev pub arguments_of : List ℕ → OptionNumbers → List (List ℕ)
arguments_of mode options = mode ∷ codes "scenario.toml" ∷ flat_map setting_words (given options)

-- ---- what they ask for

abbrev pub window_of : OptionNumbers → WindowOptions
window_of options = record {
  start = if options.start == own_start then None else Some options.start;
  ticks = if options.ticks == 0 then None else Some options.ticks;
}

abbrev pub task_with : Mode → OptionNumbers → Task
task_with mode options = task_by mode options.seed (not (options.flags == 0)) (codes "why.csv")

abbrev pub request_of : ModeArgument → OptionNumbers → Request
request_of argument.Migrate options = asks.Migration (codes "scenario.toml")
request_of (argument.Report mode) options =
    asks.Report (record { task = task_with mode options; name = codes "scenario.toml"; window = window_of options })
