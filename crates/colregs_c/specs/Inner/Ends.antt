-- What a run in memory hands on.
use Rattle.std.specs.Prelude.{◌≡◌, ◌≢◌, []}
use Rattle.colregs_program.specs.FaultLines.{fault_line}
use Rattle.colregs_program.specs.declared.status.Status.{Status}
use Rattle.colregs_program.specs.declared.status.Status.TheVariants as status
use Rattle.colregs_c.specs.Calls.{Call, IsAnsweredBy}
use Rattle.colregs_c.specs.declared.devices.GatheredText.{GatheredText}
use Rattle.colregs_c.specs.declared.running.Ended.{Ended}

-- The end has the answer and all that was written, and memory did not run out.
pub record AreWhole (answer : Status) (out err : GatheredText) (end : Ended) : Type 0 where
  pub same : end.status ≡ answer
  pub report : end.report ≡ out.bytes
  pub line : end.line ≡ err.bytes
  pub remembered : answer ≢ status.Memory
  pub written : out.faults ≡ 0
  pub told : err.faults ≡ 0

-- The end has the answer to a call, its report and the line of standard error.
pub record IsEndOf (call : Call) (end : Ended) : Type 0 where
  pub answered : IsAnsweredBy call end.status end.report.items
  pub line : end.line.items ≡ fault_line end.status

-- The end is that of a call whose numbers are out of their ranges.
pub record IsRefusal (end : Ended) : Type 0 where
  pub usage : end.status ≡ status.Usage
  pub report : end.report.items ≡ []
  pub line : end.line.items ≡ fault_line end.status
