-- Lemmas for the crates above: places for legs, and the numbers of prefixes with one leg more.
pub use Rattle.planner.proofs.Walking.{join_places, next_number, number_before, split_places}
