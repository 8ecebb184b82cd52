-- When some answer is due to the arguments of a run: that none is is refuted.
use Rattle.std.specs.Prelude.{ℕ, List, Some}
use Rattle.colregs_program.specs.Answers.{IsDue}
use Rattle.colregs_program.specs.declared.status.Status.{Status}
use Rattle.outside.specs.Shelves.{Files}

-- The contents of the shelf and the log are known.
abbrev pub SomeDue : Type 0
SomeDue = (words : List (List ℕ)) (held : Files) (bytes : List ℕ) → ¬ ((due : Status) → ¬ IsDue words (Some held) (Some bytes) due)
