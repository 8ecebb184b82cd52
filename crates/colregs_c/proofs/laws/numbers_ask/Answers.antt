use Rattle.command_line.specs.CommandLine.{mode_text}
use Rattle.colregs_c.specs.Arguments.{arguments_of, request_of}
use Rattle.colregs_c.proofs.Asking.{plain_numbers}
use Rattle.colregs_c.proofs.laws.numbers_ask.Goals as goal

pub returns : goal.returns
returns c mode options range =
    c.plain_form.ensures (arguments_of (mode_text mode) options) (request_of mode options) (plain_numbers mode options range)
