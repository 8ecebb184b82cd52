-- Lemmas for the crates above: plans that have legs in common, traces up to an earlier tick, reasons, and blocks of plans.
pub use Rattle.plan_situations.proofs.CommonLegs.{in_force, same_contact, same_point, same_reached, same_state, same_step, same_steps, when_less, when_not_less}
pub use Rattle.plan_situations.proofs.Lifting.{a_rule_too, begins_too, breaks_later, earlier_rows, enters_too, fails_too, no_within, one_start, one_trace, rows_too, some_weaker, stays_no, trace_length}
pub use Rattle.plan_situations.proofs.FlatList.{as_many, no_trace, none_some, none_so_far, none_so_far_of, rule_breaks, rows_more, rule_broken, some_at, some_here, steps_more}
pub use Rattle.plan_situations.proofs.FirstBroken.{rule_known, rule_there}
pub use Rattle.plan_situations.proofs.Entries.{entry_enters}
pub use Rattle.plan_situations.proofs.FirstReasons.{and_weaker, breaks_at, broken_at, broken_there, entry_reason, rule_reason, through}
pub use Rattle.plan_situations.proofs.Agreeing.{breaks_at_too, enters_at_too, entries_agree, failing_reason, rule_breaks_too, rules_agree}
pub use Rattle.plan_situations.proofs.Blocks.{all_so_far, first_plan_begins, first_plan_numbered, least_of, one_block, plan_in_block, prefix_lasts, reached_end, same_front, shared, small_place, some_plan, told_within}
pub use Rattle.plan_situations.proofs.Situated.{situation_in_order}
