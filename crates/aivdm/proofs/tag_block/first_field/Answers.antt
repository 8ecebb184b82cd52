use Rattle.std.proofs.Common.{ℕ, ◌==◌}
use Rattle.aivdm.proofs.Parts.{split-some, split-none}
use Rattle.aivdm.proofs.tag_block.first_field.Goals as goal

pub returns-in-Some : goal.returns-in-Some
returns-in-Some c = split-some (λ (byte : ℕ). byte == 44) c.args.fields.now c.in-Some.at c.in-Some.ensures

pub returns-in-None : goal.returns-in-None
returns-in-None c = split-none (λ (byte : ℕ). byte == 44) c.args.fields.now c.in-None.ensures
