use Rattle.std.proofs.Common.{refl}
use Rattle.log_lines.proofs.Timing.{KeepsTimes-none}
use Rattle.log_lines.proofs.line_times.LineTimes.new.Goals as goal

pub returns : goal.returns
returns c = KeepsTimes-none _ _ c.of.ensures refl refl refl refl
