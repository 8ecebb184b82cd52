-- Lemmas for the crates above: what is known of each trace, lists of traces and what they stand for, and that traces which have begun
-- stay.
pub use Rattle.traces.proofs.MoreTicks.{more_stay}
pub use Rattle.traces.proofs.NextTick.{all_members, different_pairs, known_count, known_within, steps_count}
pub use Rattle.traces.proofs.SeenVessels.{unranked_pair}
pub use Rattle.traces.proofs.Ticks.{begun_within, one_beginning, ranks_still}
pub use Rattle.traces.proofs.Growing.{pairs_changed, pairs_followed, zip_at, zip_length, zip_member, zip_push, zip_set}
pub use Rattle.traces.proofs.Different.{different_append, different_from_map, different_map, different_none, few_different, from_map, in_map, same_sum}
pub use Rattle.traces.proofs.Keeping.{all_ready_after, whole_written}
pub use Rattle.traces.proofs.UnderWay.{at_step}
