use Rattle.std.proofs.Common.{◌≡◌, ◌==◌, ◌∷◌, ◌++◌, [], ℕ, List, Bool, true, false, length, not, if◌then◌else◌, sym}
use Rattle.log_lines.specs.GrowingLog.{ended_lines, open_part}
use Rattle.log_lines.specs.LogLines.{lines_of}
use Rattle.log_lines.proofs.Streaming.{all_ended, ended_by_end}
use Rattle.log_lines.proofs.streamed.StreamedLines.is_open.Goals as goal

by_rest : (log : List ℕ) (empty : Bool) → (length (open_part log) == 0) ≡ empty → lines_of log ≡ (if not empty then ended_lines (log ++ 10 ∷ []) else ended_lines log)
by_rest log true is = all_ended log is
by_rest log false is = ended_by_end log is

pub returns : goal.returns
returns c = λ scenario log stands. by_rest log c.is_empty.result (sym (c.is_empty.ensures log stands.line))
