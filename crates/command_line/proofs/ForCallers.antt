-- What a caller may conclude of words and their request.
use Rattle.std.proofs.Common.{◌≡◌, ◌≤◌, true, false, refl, subst, codes, List, [], ◌∷◌, Option, Some, None}
use Rattle.std.specs.Prelude.{IfSome}
use Rattle.clap.specs.Words.{Text, first_of, matches_of}
use Rattle.tasks.proofs.ForCallers.{seed_within}
use Rattle.tasks.specs.Tasks.{task_by, task_seed}
use Rattle.tasks.specs.declared.mode.Mode.{Mode}
use Rattle.command_line.specs.CommandLine.{CommandOption, label, mode_text, rows_file, seed, start, ticks, why}
use Rattle.command_line.specs.GivenArguments.{ArePlain, GiveArguments, is_plain_text, value_among, value_of, with_program_name}
use Rattle.command_line.specs.Requests.{AskFor, IsPlain, request_by, request_with}
use Rattle.command_line.specs.declared.arguments.Arguments.{Arguments}
use Rattle.command_line.specs.declared.arguments.Options.{Options}
use Rattle.command_line.specs.declared.mode.ModeArgument.{ModeArgument}
use Rattle.command_line.specs.declared.mode.ModeArgument.TheVariants as argument
use Rattle.command_line.specs.declared.request.ReportRequest.{ReportRequest}
use Rattle.command_line.specs.declared.request.Request.TheVariants as request
use Rattle.command_line.proofs.ByKind.{number_lies}

-- a mode and a name alone
abbrev pub bare : ModeArgument → Text → Arguments
bare mode name = record { mode = mode; name = name; options = record { start = None; ticks = None; seed = 1; why = false; rows = codes "why.csv" } }

bare_values : (mode : ModeArgument) (name : Text) (s : CommandOption) → value_of s (bare mode name).options ≡ value_among s []
bare_values mode name start = refl
bare_values mode name ticks = refl
bare_values mode name seed = refl
bare_values mode name why = refl
bare_values mode name rows_file = refl

two_given : (mode : ModeArgument) (name : Text) → is_plain_text name ≡ true → ArePlain (mode_text mode ∷ name ∷ []) (bare mode name)
two_given mode name named = record { given = []; form = refl; name = named; once = tt; values = tt; options = bare_values mode name }

-- two words have the plain form
pub two_words : (mode : ModeArgument) (name : Text) → is_plain_text name ≡ true → IsPlain (mode_text mode ∷ name ∷ []) (request_by (bare mode name))
two_words mode name named = (bare mode name, two_given mode name named, refl)

-- ---- what is given lies in its range

abbrev text_held : (words : List Text) (given : Arguments) → GiveArguments words given → CommandOption → Option Text
text_held words given gives s = first_of (label s) (matches_of gives.0 (with_program_name words))

seed_given : (words : List Text) (given : Arguments) → GiveArguments words given → given.options.seed ≤ 999999
seed_given words given gives =
    let holds = gives.2.1.options seed in
    (number_lies 0 999999 (Some 1) (text_held words given gives seed) (Some given.options.seed) holds.0 holds.1).1

start_given : (words : List Text) (given : Arguments) → GiveArguments words given → IfSome given.options.start (λ n. (0 ≤ n) × (n ≤ 9999999999))
start_given words given gives =
    let holds = gives.2.1.options start in
    number_lies 0 9999999999 None (text_held words given gives start) given.options.start holds.0 holds.1

ticks_given : (words : List Text) (given : Arguments) → GiveArguments words given → IfSome given.options.ticks (λ n. (1 ≤ n) × (n ≤ 20000))
ticks_given words given gives =
    let holds = gives.2.1.options ticks in
    number_lies 1 20000 None (text_held words given gives ticks) given.options.ticks holds.0 holds.1

-- ---- and so does what a report is asked for with

-- What holds of the report that any arguments of the words make holds of the one that is asked for.
of_report : (asked : ReportRequest) (P : ReportRequest → Type 0) (m : ModeArgument) (name : Text) (options : Options)
    → ((kind : Mode) → P (record { task = task_by kind options.seed options.why options.rows; name = name; window = record { start = options.start; ticks = options.ticks } }))
    → request.Report asked ≡ request_with m name options → P asked
of_report asked P argument.Migrate name options each is = cc is
of_report asked P (argument.Report kind) name options each is =
    let made : ReportRequest = record { task = task_by kind options.seed options.why options.rows; name = name; window = record { start = options.start; ticks = options.ticks } } in
    let same : made ≡ asked = cc is in
    subst P same (each kind)

module _ (words : List Text) (asked : ReportRequest) (asks : AskFor words (request.Report asked)) where
  pub seed_in_range : task_seed asked.task ≤ 999999
  seed_in_range = of_report asked (λ (r : ReportRequest). task_seed r.task ≤ 999999) asks.0.mode asks.0.name asks.0.options
      (λ kind. seed_within kind asks.0.options.seed asks.0.options.why asks.0.options.rows 999999 (seed_given words asks.0 asks.1)) asks.2

  pub start_in_range : IfSome asked.window.start (λ n. (0 ≤ n) × (n ≤ 9999999999))
  start_in_range = of_report asked (λ (r : ReportRequest). IfSome r.window.start (λ n. (0 ≤ n) × (n ≤ 9999999999))) asks.0.mode asks.0.name asks.0.options
      (λ kind. start_given words asks.0 asks.1) asks.2

  pub ticks_in_range : IfSome asked.window.ticks (λ n. (1 ≤ n) × (n ≤ 20000))
  ticks_in_range = of_report asked (λ (r : ReportRequest). IfSome r.window.ticks (λ n. (1 ≤ n) × (n ≤ 20000))) asks.0.mode asks.0.name asks.0.options
      (λ kind. ticks_given words asks.0 asks.1) asks.2
