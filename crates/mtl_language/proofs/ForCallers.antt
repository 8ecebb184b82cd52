-- Lemmas for the crates above: what a text means.
use Rattle.std.proofs.Common.{ℕ, List}
use Rattle.mtl_language.specs.FormulaReading.{HasOneMeaning}
use Rattle.mtl_language.proofs.Meanings.{has_one_meaning}

-- Each text has a meaning at each tick, and no other.
pub one_meaning_each : (text : List ℕ) (tick : ℕ) → HasOneMeaning text tick
one_meaning_each = has_one_meaning
