use Rattle.std.proofs.Common.{ℕ, subst, IfSome}
use Rattle.scenario_values.specs.ValueRanges.{AreDetectNumbers, AreLogNumbers, IsOwnPart}
use Rattle.scenario.proofs.values.with_lists.Goals as goal

pub returns-clause-in_range : goal.returns-clause-in_range
returns-clause-in_range c = record {
  window = c.window_in.ensures.in_range;
  log = subst (λ (tick : ℕ). AreLogNumbers tick c.log_numbers_in.result) c.window_in.ensures.tick c.log_numbers_in.ensures.in_range;
  detect = subst (λ (tick : ℕ). AreDetectNumbers tick c.detect_in.result) c.window_in.ensures.tick c.detect_in.ensures.in_range;
  act = c.act_in.ensures.in_range;
  rules = c.requires.rules;
  subjects = c.requires.ships;
  few_subjects = c.requires.few;
  own = subst (λ (tick : ℕ). IfSome c.args.own (IsOwnPart tick)) c.window_in.ensures.tick c.requires.own;
}
