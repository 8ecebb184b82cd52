-- Why there is no request.
use Rattle.command_line.specs.declared.arguments.WordsFault.{WordsFault}
use Rattle.command_line.specs.declared.arguments.WordsFault.TheVariants as fault
use Rattle.colregs_program.specs.declared.status.Status.{Status}
use Rattle.colregs_program.specs.declared.status.Status.TheVariants as status

-- the answer of a run that ends with this fault
abbrev pub answer_of : WordsFault → Status
answer_of fault.Usage = status.Usage
answer_of fault.Memory = status.Memory
