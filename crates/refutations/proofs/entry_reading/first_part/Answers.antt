use Rattle.std.proofs.Common.{ℕ, ◌==◌}
use Rattle.aivdm.proofs.Parts.{split-some, split-none}
use Rattle.refutations.proofs.entry_reading.first_part.Goals as goal

pub returns-in-Some : goal.returns-in-Some
returns-in-Some c = split-some (λ (byte : ℕ). byte == 46) c.args.text.now c.in-Some.at c.in-Some.ensures

pub returns-in-None : goal.returns-in-None
returns-in-None c = split-none (λ (byte : ℕ). byte == 46) c.args.text.now c.in-None.ensures
