-- What a search for own ship found, and what the report says of it.
use Rattle.std.proofs.Common.{ℕ, ◌≡◌, ◌∙◌, ◌++◌, ◌<◌, ◌≤◌, List, [], length, refl, ap, ap₂, sym, subst, subst₂, append_assoc, arith, Bool, true, false}
use Rattle.std.specs.Prelude.{Option, None, Some, Result, Ok, Err, IfSome, IsSome, flat_map, is_none, is_some, not}
use Rattle.audit_report.specs.ReportTexts.{HasText}
use Rattle.audit_report.specs.declared.report_text.ReportText.{ReportText}
use Rattle.log_lines.specs.JudgedLines.{is_crowded, numbers_of}
use Rattle.log_lines.specs.LogLines.{lines_of}
use Rattle.lattice.specs.Grids.{Grid}
use Rattle.plan_situations.specs.PlanSituations.{greatest_targets, own_readiness, situation_of, targets_near, vessels_near}
use Rattle.plan_situations.specs.Preparing.{HasManyTargets as HaveManyTargets, IsPrepared}
use Rattle.plan_situations.specs.declared.near.Near.{Near}
use Rattle.plan_situations.specs.declared.preparation.PrepareFault.{PrepareFault}
use Rattle.plan_situations.specs.declared.preparation.PrepareFault.TheVariants as prepare
use Rattle.plan_situations.specs.declared.preparation.Prepared.{Prepared}
use Rattle.plan_situations.specs.declared.readiness.Ready.{Ready}
use Rattle.plan_situations.specs.declared.readiness.Unready.{Unready}
use Rattle.plan_situations.specs.LeastPlans.{AllFail}
use Rattle.plan_situations.specs.declared.situation.Situation.{Situation}
use Rattle.scenario_values.specs.declared.own_part.OwnPart.{OwnPart}
use Rattle.scenario_values.specs.declared.values.Scenario.{Scenario}
use Rattle.tracks.specs.VesselsHeld.{Sent}
use Rattle.sessions.specs.Endings.{MeetsTargetLimit, HasNoManoeuvre, IsAnswerOf, OfOwn, lack_by, lack_of, lack_where, unready_of}
use Rattle.refutation_search.specs.CanonicalLists.{IsCanonical}
use Rattle.refutations.specs.EntryRows.{entry_text}
use Rattle.refutations.specs.declared.entry.WhyEntry.{WhyEntry}
use Rattle.sessions.specs.PlanReport.{AreReasons, IsManoeuvre, IsOwn, log_messages, situation_on}
use Rattle.audit_report.specs.PlanRows.{manoeuvre_rows}
use Rattle.audit_report.specs.VesselRows.{near_rows}
use Rattle.sessions.specs.Inner.Faults.{EndCause, preparing_fault}
use Rattle.sessions.specs.Inner.PlanWriting.{AreReasonsWhere, IsSought, SoughtCause}
use Rattle.tasks.specs.declared.mode.Mode.{Mode}
use Rattle.tasks.specs.declared.mode.Mode.TheVariants as mode
use Rattle.tasks.specs.Modes.{Focus, OfOwnShip, focus_of, own_ship}
use Rattle.sessions.proofs.Meeting.{a_report, no_manoeuvre, own_unready, too_many_targets}
use Rattle.sessions.proofs.OneManoeuvre.{each_fails}

-- ---- own ship, where she is needed

pub record Own (o : Option OwnPart) (P : OwnPart → Type 0) : Type 0 where
  pub own : OwnPart
  pub is : o ≡ Some own
  pub holds : P own

pub own_of : (o : Option OwnPart) (P : OwnPart → Type 0) → IsSome o → IfSome o P → Own o P
own_of None P some h = cc some
own_of (Some own) P some h = record { own = own; is = refl; holds = h }

-- ---- why nothing was sought

pub search_cause : (scenario : Scenario) (messages : List Sent) (fault : PrepareFault)
    → ((why : Unready) → fault ≡ prepare.Unready why → IfSome scenario.own (λ own. own_readiness (numbers_of scenario) messages scenario own ≡ Err why))
    → (fault ≡ prepare.TooManyTargets → IfSome scenario.own (HaveManyTargets (numbers_of scenario) messages scenario)) → SoughtCause scenario messages fault
search_cause scenario messages (prepare.Unready why) unready many = unready why refl
search_cause scenario messages prepare.TooManyTargets unready many = many refl
search_cause scenario messages prepare.Memory unready many = tt

module _ (scenario : Scenario) (log : List ℕ) (calm : is_crowded scenario (lines_of log) ≡ false) (m : Mode) (rows : List ℕ) (on_own : focus_of m ≡ own_ship) where
  -- what she lacks, by her readiness
  pub lacks : (own : OwnPart) (came : Result Ready Unready) → scenario.own ≡ Some own → own_readiness (numbers_of scenario) (log_messages scenario log) scenario own ≡ came
      → unready_of m scenario log ≡ lack_of came
  lacks own came is readiness = ap (λ (focus : Focus). lack_by focus scenario log) on_own ∙ (ap (lack_where scenario log) is ∙ ap lack_of readiness)

  pub own_cause : IsSome scenario.own → (fault : PrepareFault) → SoughtCause scenario (log_messages scenario log) fault → EndCause m rows scenario log (preparing_fault fault)
  own_cause some (prepare.Unready why) cause =
      let own = own_of scenario.own (λ own. own_readiness (numbers_of scenario) (log_messages scenario log) scenario own ≡ Err why) some cause in
      own_unready scenario log calm m rows on_own why (lacks own.own (Err why) own.is own.holds)
  own_cause some prepare.TooManyTargets cause =
      let own = own_of scenario.own (HaveManyTargets (numbers_of scenario) (log_messages scenario log) scenario) some cause in
      let (ready, is_ready, many) = own.holds in
      let limit : OfOwnShip own_ship (OfOwn scenario log (λ own ready. greatest_targets < length (targets_near (numbers_of scenario) (log_messages scenario log) scenario own ready))) =
      (own.own, ready, record { needed = own.is; is_ready = is_ready }, many) in
      too_many_targets scenario log calm m rows on_own (lacks own.own (Ok ready) own.is is_ready)
      (subst (λ (focus : Focus). OfOwnShip focus (OfOwn scenario log (λ own ready. greatest_targets < length (targets_near (numbers_of scenario) (log_messages scenario log) scenario own ready)))) (sym on_own) limit)
  own_cause some prepare.Memory cause = tt

-- ---- what was sought

pub record IsWritten (scenario : Scenario) (messages : List Sent) (front : List ℕ) (text : ReportText) (prepared : Prepared) (lattice : Grid) (plan : Option (List ℕ)) : Type 0 where
  pub has : HasText text ((front ++ near_rows (numbers_of scenario) messages prepared.near.items) ++ manoeuvre_rows scenario.window.ticks lattice prepared.ready plan)

pub sought : (scenario : Scenario) (messages : List Sent) (front : List ℕ) (text : ReportText) (prepared : Prepared) (searched : Situation) (lattice : Grid) (plan told : Option (List ℕ)) (none : Bool)
    → searched ≡ prepared.situation → IsSome scenario.own → IfSome scenario.own (λ own. IsPrepared (numbers_of scenario) messages scenario own prepared) → IsManoeuvre prepared.situation plan
    → lattice ≡ prepared.situation.lattice → told ≡ plan → none ≡ is_none plan
    → HasText text ((front ++ near_rows (numbers_of scenario) messages prepared.near.items) ++ manoeuvre_rows scenario.window.ticks lattice prepared.ready told)
    → IsSought scenario messages text front searched none
unfolding situation_of
sought scenario messages front text prepared searched lattice plan told none searched-is some is first grid same is_none_of has =
    let found = own_of scenario.own (λ own. IsPrepared (numbers_of scenario) messages scenario own prepared) some is in
    let own = found.own in
    let h = found.holds in
    let lattice-is : lattice ≡ own.lattice = grid ∙ ap (λ (s : Situation). s.lattice) h.situation in
    let near = near_rows (numbers_of scenario) messages in
    let rows : (front ++ near prepared.near.items) ++ manoeuvre_rows scenario.window.ticks lattice prepared.ready told
    ≡ front ++ (near (vessels_near (numbers_of scenario) messages scenario own prepared.ready) ++ manoeuvre_rows scenario.window.ticks own.lattice prepared.ready plan) =
    ap₂ (λ (vs : List Near) (p : Option (List ℕ)). (front ++ near vs) ++ manoeuvre_rows scenario.window.ticks lattice prepared.ready p) h.near same
    ∙ ap (λ (g : Grid). (front ++ near (vessels_near (numbers_of scenario) messages scenario own prepared.ready)) ++ manoeuvre_rows scenario.window.ticks g prepared.ready plan) lattice-is
    ∙ append_assoc front (near (vessels_near (numbers_of scenario) messages scenario own prepared.ready)) (manoeuvre_rows scenario.window.ticks own.lattice prepared.ready plan) in
    record {
      own = own;
      ready = prepared.ready;
      needed = found.is;
      is_ready = h.is_ready;
      is_of = searched-is ∙ h.situation;
      few = h.few;
      manoeuvre = plan;
      is_first = subst (λ (s : Situation). IsManoeuvre s plan) h.situation first;
      told = is_none_of;
      has = subst (HasText text) rows has;
    }

-- ---- the answer

module _ (scenario : Scenario) (log : List ℕ) (calm : is_crowded scenario (lines_of log) ≡ false) where
  pub few_targets : (own : OwnPart) (ready : Ready) → IsOwn scenario log own ready → length (targets_near (numbers_of scenario) (log_messages scenario log) scenario own ready) ≤ greatest_targets
      → MeetsTargetLimit mode.Plan scenario log → ⊥
  few_targets own ready is few (own', ready', is', many) =
      let same : own ≡ own' = cc (is.needed, is'.needed) in
      let is-own' : IsOwn scenario log own ready' = subst (λ (o : OwnPart). IsOwn scenario log o ready') (sym same) is' in
      let same-ready : ready ≡ ready' = cc (is.is_ready, is-own'.is_ready) in
      let more = subst₂ (λ (o : OwnPart) (r : Ready). greatest_targets < length (targets_near (numbers_of scenario) (log_messages scenario log) scenario o r)) (sym same) (sym same-ready) many in
      absurd (omega arith)

  some_manoeuvre : (own : OwnPart) (ready : Ready) (plan : List ℕ) → IsOwn scenario log own ready → IsManoeuvre (situation_on scenario log own ready) (Some plan)
      → HasNoManoeuvre mode.Plan scenario log → ⊥
  some_manoeuvre own ready plan is least (own', ready', is', all) =
      let same : own ≡ own' = cc (is.needed, is'.needed) in
      let is-own' : IsOwn scenario log own ready' = subst (λ (o : OwnPart). IsOwn scenario log o ready') (sym same) is' in
      let same-ready : ready ≡ ready' = cc (is.is_ready, is-own'.is_ready) in
      let fail = subst₂ (λ (o : OwnPart) (r : Ready). AllFail (situation_on scenario log o r)) (sym same) (sym same-ready) all in
      least.passes (each_fails (situation_on scenario log own ready) plan least.whole fail)

  answer_by : (own : OwnPart) (ready : Ready) (manoeuvre : Option (List ℕ)) (none : Bool) → IsOwn scenario log own ready
      → length (targets_near (numbers_of scenario) (log_messages scenario log) scenario own ready) ≤ greatest_targets
      → IsManoeuvre (situation_on scenario log own ready) manoeuvre → none ≡ is_none manoeuvre → IsAnswerOf mode.Plan [] scenario log (Ok none)
  answer_by own ready None none is few first told =
      let ready-is = lacks scenario log calm mode.Plan [] refl own (Ok ready) is.needed is.is_ready in
      subst (λ (b : Bool). IsAnswerOf mode.Plan [] scenario log (Ok b)) (sym told)
      (no_manoeuvre scenario log calm mode.Plan [] refl ready-is (few_targets own ready is few) (own, ready, is, first))
  answer_by own ready (Some plan) none is few first told =
      let ready-is = lacks scenario log calm mode.Plan [] refl own (Ok ready) is.needed is.is_ready in
      subst (λ (b : Bool). IsAnswerOf mode.Plan [] scenario log (Ok b)) (sym told)
      (a_report scenario log calm mode.Plan [] refl ready-is (few_targets own ready is few) (some_manoeuvre own ready plan is first) (λ k bad. bad))

  pub plan_answer : (text : ReportText) (front : List ℕ) (searched : Situation) (none : Bool) → IsSought scenario (log_messages scenario log) text front searched none
      → IsAnswerOf mode.Plan [] scenario log (Ok none)
  plan_answer text front searched none h = answer_by h.own h.ready h.manoeuvre none (record { needed = h.needed; is_ready = h.is_ready }) h.few h.is_first h.told

pub none_is : {A : Type 0} (o : Option A) (b : Bool) → is_some o ≡ not b → b ≡ is_none o
none_is None true e = refl
none_is None false e = cc e
none_is (Some x) true e = cc e
none_is (Some x) false e = refl

-- where nothing was found, every plan fails
pub all_fail : (s searched : Situation) (plan : Option (List ℕ)) (none : Bool) → searched ≡ s → none ≡ is_none plan → none ≡ true → IsManoeuvre s plan → AllFail searched
all_fail s searched None none is told given all = subst AllFail (sym is) all
all_fail s searched (Some plan) none is told given least = cc (told, given)

-- ---- why every plan fails

pub not_asked : (why none : Bool) (s : Situation) → why ≡ false → AreReasonsWhere why none s []
not_asked false none s is = refl
not_asked true none s is = cc is

pub one_found : (why none : Bool) (s : Situation) → none ≡ false → AreReasonsWhere why none s []
one_found false none s is = refl
one_found true false s is = refl
one_found true true s is = cc is

pub all_told : (why none : Bool) (s : Situation) (entries : List WhyEntry) → why ≡ true → none ≡ true → IsCanonical s entries
    → AreReasonsWhere why none s (flat_map (entry_text s) entries)
all_told false none s entries asked found canonical = cc asked
all_told true false s entries asked found canonical = cc found
all_told true true s entries asked found canonical = (entries, canonical, refl)

pub are_reasons : (why none : Bool) (s searched : Situation) (manoeuvre : Option (List ℕ)) (reasons : List ℕ) → searched ≡ s → none ≡ is_none manoeuvre
    → AreReasonsWhere why none searched reasons → AreReasons why s manoeuvre reasons
are_reasons false none s searched manoeuvre reasons is told nothing = nothing
are_reasons true false s searched None reasons is told nothing = cc told
are_reasons true false s searched (Some plan) reasons is told nothing = nothing
are_reasons true true s searched None reasons is told (entries, canonical, rows) =
    (entries, subst (λ (x : Situation). IsCanonical x entries) is canonical, rows ∙ ap (λ (x : Situation). flat_map (entry_text x) entries) is)
are_reasons true true s searched (Some plan) reasons is told all = cc told
