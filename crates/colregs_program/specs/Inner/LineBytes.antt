-- The bytes of a line for standard error.
use Rattle.std.specs.Prelude.{ℕ, List, string_bytes}
use Rattle.colregs_program.specs.declared.fault_line.FaultLine.{FaultLine}
use Rattle.colregs_program.specs.declared.fault_line.FaultLine.TheVariants as fault_line

abbrev pub line_bytes : FaultLine → List ℕ
line_bytes (fault_line.Fixed text) = text.now
line_bytes (fault_line.Made text) = string_bytes text
