-- What a check of rows comes to in own ship's situation.
use Rattle.std.proofs.Common.{ℕ, ◌≡◌, ◌∙◌, List, Ok, Err, false, refl, ap, sym, subst, subst₂}
use Rattle.std.specs.Prelude.{IfSome, IsSome}
use Rattle.report_csv.specs.CsvRows.{row_of}
use Rattle.audit_report.specs.ReportRows.{no_plan_fields}
use Rattle.log_lines.specs.JudgedLines.{is_crowded, numbers_of}
use Rattle.log_lines.specs.LogLines.{lines_of}
use Rattle.lattice.specs.Grids.{plans_of}
use Rattle.refutation_check.specs.CheckedRows.{AreRight, IsFirstBadRow, why_rows}
use Rattle.plan_situations.specs.LeastPlans.{AllFail}
use Rattle.plan_situations.specs.PlanSituations.{situation_of}
use Rattle.plan_situations.specs.Preparing.{IsPrepared}
use Rattle.plan_situations.specs.declared.preparation.Prepared.{Prepared}
use Rattle.plan_situations.specs.declared.readiness.Ready.{Ready}
use Rattle.plan_situations.specs.declared.situation.Situation.{Situation}
use Rattle.scenario_values.specs.declared.own_part.OwnPart.{OwnPart}
use Rattle.scenario_values.specs.declared.values.Scenario.{Scenario}
use Rattle.tasks.specs.declared.mode.Mode.TheVariants as mode
use Rattle.sessions.specs.Endings.{HasBadEntry, IsAnswerOf}
use Rattle.sessions.specs.Inner.Faults.{EndCause}
use Rattle.sessions.specs.Inner.Rechecking.{IsBadText}
use Rattle.sessions.specs.PlanReport.{IsOwn, IsSituationOn, log_messages, situation_on}
use Rattle.sessions.specs.RecheckReport.{IsRecheckReport}
use Rattle.sessions.specs.declared.session_fault.SessionFault.{SessionFault}
use Rattle.sessions.specs.declared.session_fault.SessionFault.TheVariants as fault
use Rattle.sessions.proofs.Meeting.{a_bad_entry, a_report}
use Rattle.sessions.proofs.OneOwn.{one_own, one_ready}
use Rattle.sessions.proofs.Seeking.{few_targets, lacks, own_of}

pub prepared_on : (scenario : Scenario) (log : List ℕ) (prepared : Prepared) → IsSome scenario.own
    → IfSome scenario.own (λ own. IsPrepared (numbers_of scenario) (log_messages scenario log) scenario own prepared) → IsSituationOn scenario log prepared.situation
prepared_on scenario log prepared some is =
    let own = own_of scenario.own (λ own. IsPrepared (numbers_of scenario) (log_messages scenario log) scenario own prepared) some is in
    record {
      own = own.own;
      ready = prepared.ready;
      is_own = record { needed = own.is; is_ready = own.holds.is_ready };
      few = own.holds.few;
      is = own.holds.situation;
    }

module _ (scenario : Scenario) (log rows : List ℕ) (s : Situation) (on : IsSituationOn scenario log s) where
  pub recheck_report : (text : List ℕ) (plans : ℕ) → AreRight s (why_rows rows) → AllFail s → plans ≡ plans_of s.lattice → text ≡ row_of (no_plan_fields plans)
      → IsRecheckReport rows scenario log text
  unfolding situation_of
  recheck_report text plans right fail many is = record {
    own = on.own;
    ready = on.ready;
    is_own = on.is_own;
    right = subst (λ (x : Situation). AreRight x (why_rows rows)) on.is right;
    fail = subst AllFail on.is fail;
    is = is ∙ ap (λ (n : ℕ). row_of (no_plan_fields n)) (many ∙ ap (λ (x : Situation). plans_of x.lattice) on.is);
  }

  bad_of : (k : ℕ) → HasBadEntry mode.Recheck rows scenario log k → IsFirstBadRow s (why_rows rows) k
  bad_of k (own', ready', is', bad) =
      let same : on.own ≡ own' = one_own scenario log on.own own' on.ready ready' on.is_own is' in
      let is-own' : IsOwn scenario log on.own ready' = subst (λ (o : OwnPart). IsOwn scenario log o ready') (sym same) is' in
      let same-ready : on.ready ≡ ready' = one_ready scenario log on.own on.ready ready' on.is_own is-own' in
      let there : IsFirstBadRow (situation_on scenario log on.own on.ready) (why_rows rows) k =
      subst₂ (λ (o : OwnPart) (r : Ready). IsFirstBadRow (situation_on scenario log o r) (why_rows rows) k) (sym same) (sym same-ready) bad in
      subst (λ (x : Situation). IsFirstBadRow x (why_rows rows) k) (sym on.is) there

  module _ (calm : is_crowded scenario (lines_of log) ≡ false) where
    pub no_bad_entry : ((k : ℕ) → ¬ IsFirstBadRow s (why_rows rows) k) → IsAnswerOf mode.Recheck rows scenario log (Ok false)
    no_bad_entry none =
        a_report scenario log calm mode.Recheck rows refl (lacks scenario log calm mode.Recheck rows refl on.own (Ok on.ready) on.is_own.needed on.is_own.is_ready)
        (few_targets scenario log calm on.own on.ready on.is_own on.few) (λ none. none) (λ k bad. none k (bad_of k bad))

    pub bad_entry : (k : ℕ) → IsFirstBadRow s (why_rows rows) k → IsAnswerOf mode.Recheck rows scenario log (Err (fault.Entry k))
    bad_entry k bad =
        a_bad_entry scenario log calm mode.Recheck rows refl (lacks scenario log calm mode.Recheck rows refl on.own (Ok on.ready) on.is_own.needed on.is_own.is_ready)
        (few_targets scenario log calm on.own on.ready on.is_own on.few) (λ none. none) k
        (on.own, on.ready, on.is_own, subst (λ (x : Situation). IsFirstBadRow x (why_rows rows) k) on.is bad)

    pub bad_cause : (why : SessionFault) → IsBadText s rows why → EndCause mode.Recheck rows scenario log why
    bad_cause (fault.Entry k) bad = bad_entry k bad
    bad_cause fault.Memory bad = tt
    bad_cause fault.Vessels bad = absurd bad
    bad_cause fault.Pairs bad = absurd bad
    bad_cause fault.LogBytes bad = absurd bad
    bad_cause (fault.Own lack) bad = absurd bad
    bad_cause fault.Targets bad = absurd bad
