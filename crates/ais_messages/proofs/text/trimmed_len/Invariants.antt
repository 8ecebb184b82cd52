use Rattle.std.proofs.Common.{◌≡◌, ◌≤◌, take}
use Rattle.ais_messages.specs.SixBitText.{trimmed}
use Rattle.ais_messages.proofs.text.trimmed_len.Given as goal

-- the bytes so far, without the spaces at their end
abbrev pub invariant-loop-k : goal.invariant-loop-k
invariant-loop-k l = record {
  within : l.len ≤ l.k;
  trimmed : take l.len l.text ≡ trimmed (take l.k l.text);
}
