-- Lemmas for the crates above: bytes mean one scenario or have one first fault, ranks do not count in it if own ship is needed, and
-- bytes are not migrated for one reason.
pub use Rattle.scenario.proofs.Migrations.{one_reason}
pub use Rattle.scenario.proofs.OneReading.{has_one_reading}
pub use Rattle.scenario.proofs.RanksRead.{unranked}
pub use Rattle.scenario.proofs.Single.{meant_or_refused, one_meaning, one_refusal}
