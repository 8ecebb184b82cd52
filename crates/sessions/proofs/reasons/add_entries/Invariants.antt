use Rattle.std.proofs.Common.{take, flat_map}
use Rattle.refutations.specs.EntryRows.{entry_text}
use Rattle.refutations.specs.EntryTexts.{HasRows}
use Rattle.sessions.proofs.reasons.add_entries.Given as goal

-- the rows of the first entries were written
abbrev pub invariant-loop-entry : goal.invariant-loop-entry
invariant-loop-entry l = HasRows l.rows (flat_map (entry_text l.situation) (take l.entry-index l.entries))
