use Rattle.std.proofs.Common.{◌≡◌, ℕ, ◌-◌, ◌<◌, ◌≤◌, [], ◌∷◌, ◌++◌, length}
use Rattle.std.specs.Prelude.{Option, true}
use Rattle.encounters.specs.declared.pair_step.PairStep.{PairStep}
use Rattle.meetings.specs.Answers.{answer_of}
use Rattle.mtl_monitor.specs.Following.{fed_of}
use Rattle.traces.specs.Audited.{AuditNumbers}
use Rattle.traces.specs.Known.{Known, watched}
use Rattle.early_monitor.specs.Alarms.{tree_of_rule}
use Rattle.early_monitor.specs.Inner.Breaches.{Adds, IsBreachBelow}
use Rattle.early_monitor.specs.Inner.RulesWatched.{AreWatched, FitsRule, IsCalmRule, StandsForRule, early_at}
use Rattle.early_monitor.specs.Inner.TraceWatched.{StandsFor, kept_at}
use Rattle.early_monitor.proofs.watched_trace.WatchedTrace.step.Given as goal

abbrev pub invariant-loop-rule : goal.invariant-loop-rule
invariant-loop-rule l = record {
  as_many : length l.state-items ≡ length l.rules.early.items;
  bound : l.rule ≤ length l.state-items;
  calm : l.all_calm ≡ true → (k : ℕ) → k < l.rule → IsCalmRule l.rules l.values k;
  fits_done : (k : ℕ) → k < l.rule → FitsRule (fed_of l.values) (early_at l.rules k) (kept_at l.state-items k);
  fits_rest : (k : ℕ) → l.rule ≤ k → k < length l.rules.early.items → FitsRule (fed_of l.values - 1) (early_at l.rules k) (kept_at l.state-items k);
  stands_done : (numbers : AuditNumbers) (known : Known) → AreWatched l.rules numbers.rules → StandsFor l.rules numbers l.fn.self known → (k : ℕ) → k < l.rule
      → StandsForRule (early_at l.rules k) (kept_at l.state-items k) (tree_of_rule numbers.rules k) (known.trace ++ answer_of l.row ∷ []);
  stands_rest : (numbers : AuditNumbers) (known : Known) → AreWatched l.rules numbers.rules → StandsFor l.rules numbers l.fn.self known → (k : ℕ) → l.rule ≤ k → k < length numbers.rules
      → StandsForRule (early_at l.rules k) (kept_at l.state-items k) (tree_of_rule numbers.rules k) known.trace;
  adds : (numbers : AuditNumbers) (known : Known) (seen : Option PairStep) → AreWatched l.rules numbers.rules → StandsFor l.rules numbers l.fn.self known
      → Adds (IsBreachBelow numbers l.step l.rule (watched known seen (answer_of l.row))) l.fn.alarms.keys l.alarms.keys;
}
