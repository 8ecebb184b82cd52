-- What the words of a command line ask for: a migration, or the report of a task.
use Rattle.std.specs.Prelude.{◌≡◌, List}
use Rattle.clap.specs.Words.{Text}
use Rattle.tasks.specs.Tasks.{task_by}
use Rattle.command_line.specs.GivenArguments.{ArePlain, GiveArguments}
use Rattle.command_line.specs.declared.arguments.Arguments.{Arguments}
use Rattle.command_line.specs.declared.arguments.Options.{Options}
use Rattle.command_line.specs.declared.mode.ModeArgument.{ModeArgument}
use Rattle.command_line.specs.declared.mode.ModeArgument.TheVariants as argument
use Rattle.command_line.specs.declared.request.Request.{Request}
use Rattle.command_line.specs.declared.request.Request.TheVariants as request

abbrev pub request_with : ModeArgument → Text → Options → Request
request_with argument.Migrate name options = request.Migration name
request_with (argument.Report mode) name options = request.Report (record {
  task = task_by mode options.seed options.why options.rows;
  name = name;
  window = record { start = options.start; ticks = options.ticks };
})

-- the request that arguments make: an option that it does not need has no effect
abbrev pub request_by : Arguments → Request
request_by arguments = request_with arguments.mode arguments.name arguments.options

-- The words ask for the request, as `clap` reads them by the command.
abbrev pub AskFor : List Text → Request → Type 0
AskFor words request = (arguments : Arguments) × GiveArguments words arguments × (request ≡ request_by arguments)

-- The words have the plain form, and this is what they ask for.
abbrev pub IsPlain : List Text → Request → Type 0
IsPlain words request = (arguments : Arguments) × ArePlain words arguments × (request ≡ request_by arguments)
