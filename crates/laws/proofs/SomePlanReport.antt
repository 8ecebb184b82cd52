-- That own ship has no report, where a plan may be sought or rows are right, is refuted.
use Rattle.std.proofs.Common.{ℕ, ◌-◌, ◌≤◌, inl, inr, Bool, true, false, List, [], ◌++◌, Option, None, Some, refl, arith}
use Rattle.std.specs.Prelude.{IfSome, flat_map}
use Rattle.audit_report.specs.ReportRows.{no_plan_fields}
use Rattle.hull_domains.specs.Shapes.{IsShape}
use Rattle.lattice.specs.Grids.{choices_of, plans_of}
use Rattle.lattice.proofs.Digits.{below_plan_of, length-plan_of}
use Rattle.meetings.specs.Ranks.{all_power_driven}
use Rattle.meetings.specs.Traces.{steps_from}
use Rattle.plan_situations.specs.FailingPlans.{Fails}
use Rattle.plan_situations.specs.LeastPlans.{AllFail, numbered}
use Rattle.plan_situations.specs.Situations.{IsSituation, own_at, target_at, terms_of}
use Rattle.plan_situations.specs.declared.readiness.Ready.{Ready}
use Rattle.plan_situations.specs.declared.situation.Situation.{Situation}
use Rattle.plan_situations.proofs.ForCallers.{failing_reason, least_of, one_block}
use Rattle.refutation_check.specs.CheckedRows.{IsFirstBadRow, why_rows}
use Rattle.refutation_search.specs.CanonicalLists.{IsCanonical}
use Rattle.refutations.specs.EntryRows.{entry_text}
use Rattle.refutations.specs.declared.entry.WhyEntry.{WhyEntry}
use Rattle.report_csv.specs.CsvRows.{row_of}
use Rattle.rule_set.specs.NamedTrees.{RulesHaveDifferentNames}
use Rattle.scenario_values.specs.declared.own_part.OwnPart.{OwnPart}
use Rattle.scenario_values.specs.declared.values.Scenario.{Scenario}
use Rattle.sessions.specs.PlanReport.{AreReasons, IsManoeuvre, IsOwn, IsPlanReport, plan_text, situation_on}
use Rattle.sessions.specs.RecheckReport.{IsRecheckReport}
use Rattle.laws.proofs.HaveRows.{HaveRows}
use Rattle.laws.proofs.Refuted.{LeastOrNone, each_below, least_or_none}
use Rattle.laws.proofs.RightRows.{right_fail, some_right}
use Rattle.laws.proofs.SomeCanonicalList.{some_canonical_list}

-- A plan may be sought in a situation.
pub record IsPlannable (situation : Situation) : Type 0 where
  pub sound : IsSituation situation
  pub different : RulesHaveDifferentNames situation.rules
  pub few : choices_of situation.lattice ≤ 512
  pub shape : IfSome situation.shape IsShape

-- ---- the first plan that does not fail, or none

module _ (s : Situation) (sound : IsSituation s) where
  some_manoeuvre : ¬ ((manoeuvre : Option (List ℕ)) → ¬ IsManoeuvre s manoeuvre)
  some_manoeuvre none = least_or_none (λ n. ¬ Fails s (numbered s n)) (plans_of s.lattice) found
    where
      found : LeastOrNone (λ n. ¬ Fails s (numbered s n)) (plans_of s.lattice) → ⊥
      found (inl (n, lt, least)) = each_below (λ j. Fails s (numbered s j)) n least.before (λ before.
          let some = sound.some_choice in
          none (Some (numbered s n)) (least_of s sound.some_leg n (numbered s n) lt refl
          (record { count = length-plan_of (choices_of s.lattice) s.lattice.legs n; below = below_plan_of (choices_of s.lattice) s.lattice.legs n (omega arith) })
          least.here before))
      found (inr all) = each_below (λ j. Fails s (numbered s j)) (plans_of s.lattice) all (λ fail. none None fail)

  -- why every plan fails, where that is asked for
  some_reasons : (why : Bool) → (AllFail s → ¬ ((entries : List WhyEntry) → ¬ IsCanonical s entries)) → (manoeuvre : Option (List ℕ))
      → IsManoeuvre s manoeuvre → ¬ ((text : List ℕ) → ¬ AreReasons why s manoeuvre text)
  some_reasons false reasons manoeuvre is none = none [] refl
  some_reasons true reasons (Some plan) is none = none [] refl
  some_reasons true reasons None fail none = reasons fail (λ entries canonical. none (flat_map (entry_text s) entries) (entries, canonical, refl))

-- ---- the reports

module _ (scenario : Scenario) (log : List ℕ) (own : OwnPart) (ready : Ready) (is_own : IsOwn scenario log own ready)
    (may : IsPlannable (situation_on scenario log own ready)) where
  abbrev s : Situation
  s = situation_on scenario log own ready

  pub some_plan_report : HaveRows → (why : Bool) → ¬ ((text : List ℕ) → ¬ IsPlanReport why scenario log text)
  some_plan_report rows_of why none = some_manoeuvre s may.sound (λ manoeuvre is_first.
      some_reasons s may.sound why (some_canonical_list rows_of s may.sound may.shape) manoeuvre is_first (λ text are_reasons.
      none (plan_text scenario log own ready manoeuvre ++ text) (record {
        own = own;
        ready = ready;
        is_own = is_own;
        manoeuvre = manoeuvre;
        is_first = is_first;
        reasons = text;
        are_reasons = are_reasons;
        is = refl;
      })))

  pub some_recheck_report : HaveRows → (rows : List ℕ) → ((k : ℕ) → ¬ IsFirstBadRow s (why_rows rows) k) → ¬ ((text : List ℕ) → ¬ IsRecheckReport rows scenario log text)
  some_recheck_report rows_of rows good none = some_right s may.different may.few (why_rows rows) good (λ right.
      let some = may.sound.some_choice in
      let fail = right_fail s may.different may.few (omega arith) (λ prefix below few. one_block s may.sound.some_leg prefix (omega arith) below few)
      (λ plan last. failing_reason s plan last (λ T start. rows_of (terms_of s) all_power_driven (steps_from (own_at s plan) (target_at s T) start (last - start))))
      (why_rows rows) right in
      none (row_of (no_plan_fields (plans_of own.lattice))) (record { own = own; ready = ready; is_own = is_own; right = right; fail = fail; is = refl }))
