-- As one trace of a watch after the other takes its step.
use Rattle.std.proofs.Common.{◌≡◌, ℕ, ◌⊎◌, ◌↔◌, inl, inr, List, [], ◌∷◌, ◌++◌, length, get_or, set, append_assoc, sym, subst}
use Rattle.std.specs.Prelude.{Option}
use Rattle.std.specs.List.{AllZip, Contains}
use Rattle.encounters.specs.declared.pair_step.PairStep.{PairStep}
use Rattle.mtl_formulas.specs.declared.atom.Atom.{Atom}
use Rattle.mtl_formulas.specs.declared.verdict.Verdict.{Verdict}
use Rattle.traces.specs.Audited.{AuditNumbers}
use Rattle.traces.specs.Known.{Known, watched}
use Rattle.traces.proofs.ForCallers.{zip_at, zip_set}
use Rattle.early_monitor.specs.declared.alarm.Alarm.{Alarm}
use Rattle.early_monitor.specs.declared.watched_rules.WatchedRules.{WatchedRules}
use Rattle.early_monitor.specs.declared.watched_trace.WatchedTrace.{WatchedTrace}
use Rattle.early_monitor.specs.Inner.Breaches.{Adds, IsBreachOf}
use Rattle.early_monitor.specs.Inner.RulesWatched.{AreWatched}
use Rattle.early_monitor.specs.Inner.TraceWatched.{StandsFor}
use Rattle.early_monitor.specs.Inner.TracesWatched.{AreFound, IsBreachAmong}
use Rattle.early_monitor.proofs.NextAlarms.{among_more}

both : (Was Now Before Here All : Type 0) → Was ↔ Before → (Now ↔ (Was ⊎ Here)) → ((Before ⊎ Here) ↔ All) → Now ↔ All
both Was Now Before Here All was now all = (
  λ i. all.0 (elim (now.0 i) [ inl there ↦ inl (was.0 there) | inr here ↦ inr here ]),
  λ h. now.1 (elim (all.1 h) [ inl there ↦ inl (was.1 there) | inr here ↦ inr here ]),
)

module _ (w : WatchedRules) (numbers : AuditNumbers) (step : ℕ) (alarms alarms' : List Alarm) (kept : List WatchedTrace) (index : ℕ) (other was after : WatchedTrace) (answers : Atom → Verdict)
    (done rest : List Known) (known : Known) (seen : Option PairStep) (at : index ≡ length done) (here : get_or kept index other ≡ was)
    (stands : AreWatched w numbers.rules → StandsFor w numbers was known → StandsFor w numbers after (watched known seen answers))
    (adds : AreWatched w numbers.rules → StandsFor w numbers was known → Adds (IsBreachOf numbers step (watched known seen answers)) alarms alarms') where
  -- The trace at an index takes its step.
  pub found_more : AreFound w alarms numbers step kept done (known ∷ rest) tt → AreFound w alarms' numbers step (set kept index after) (done ++ watched known seen answers ∷ []) rest tt
  found_more f =
      let after_known : Known = watched known seen answers in
      let old : StandsFor w numbers was known =
      subst (λ (t : WatchedTrace). StandsFor w numbers t known) here
      (subst (λ (n : ℕ). StandsFor w numbers (get_or kept n other) known) (sym at) (zip_at (StandsFor w numbers) kept done known rest other f.stand)) in
      let its = adds f.rules old in
      record {
        rules = f.rules;
        stand = subst (λ (ys : List Known). AllZip (StandsFor w numbers) (set kept index after) ys) (sym (append_assoc done (after_known ∷ []) rest))
            (subst (λ (n : ℕ). AllZip (StandsFor w numbers) (set kept n after) (done ++ after_known ∷ rest)) (sym at)
            (zip_set (StandsFor w numbers) kept done known rest after after_known f.stand (stands f.rules old)));
        alarms_are = λ a. both (Contains alarms a) (Contains alarms' a) (IsBreachAmong numbers step done a) (IsBreachOf numbers step after_known a)
            (IsBreachAmong numbers step (done ++ after_known ∷ []) a) (f.alarms_are a) (its a) (among_more numbers step done after_known a);
      }
