use Rattle.std.proofs.Common.{◌≡◌, take}
use Rattle.refutations.specs.EntryRows.{choices_text}
use Rattle.refutations.proofs.entry_row.choices_text.Given as goal

abbrev pub invariant-loop-k : goal.invariant-loop-k
invariant-loop-k l = l.text.items ≡ choices_text (take l.k l.choices)
