-- An open line that continues.
use Rattle.std.specs.Prelude.{ℕ, ◌≡◌, ◌==◌, List, ◌++◌, length, if◌then◌else◌}
use Rattle.log_lines.specs.GrowingLog.{open_part}
use Rattle.log_lines.specs.Standing.{OpenLineStandsFor}
use Rattle.log_lines.specs.declared.open_line.OpenLine.{OpenLine}

-- The line that was open after a log continues with a part; or none was open: the part is alone.
pub record HasExtended (line : OpenLine) (log part : List ℕ) : Type 0 where
  pub stood : List ℕ
  pub stands : OpenLineStandsFor line stood
  pub is : (if length (open_part stood) == 0 then part else open_part stood) ≡ open_part log ++ part
