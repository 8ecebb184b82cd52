-- What a log comes to at its end.
use Rattle.std.proofs.Common.{ℕ, ◌≡◌, inl, inr, Bool, true, false, IsTrue, List, [], Option, None, Some, Ok, Err, refl, sym, ap, subst, subst₂, ◌∙◌}
use Rattle.plan_situations.specs.declared.readiness.Unready.{Unready}
use Rattle.scenario_values.specs.declared.values.Scenario.{Scenario}
use Rattle.log_lines.specs.JudgedLines.{is_crowded}
use Rattle.log_lines.specs.LogLines.{lines_of}
use Rattle.tasks.specs.declared.mode.Mode.{Mode}
use Rattle.tasks.specs.declared.mode.Mode.TheVariants as mode
use Rattle.refutation_check.specs.CheckedRows.{IsFirstBadRow, why_rows}
use Rattle.refutation_check.proofs.ForCallers.{one_index}
use Rattle.scenario_values.specs.declared.own_part.OwnPart.{OwnPart}
use Rattle.settling.specs.ScenarioAudit.{audit_numbers}
use Rattle.plan_situations.specs.declared.readiness.Ready.{Ready}
use Rattle.traces.specs.ManyTraces.{HaveMoreThan}
use Rattle.traces.specs.declared.all_traces.TheConstants.{MOST_TRACES}
use Rattle.sessions.specs.AuditReport.{sightings_of}
use Rattle.sessions.specs.Endings.{Came, First, FirstOf, MeetsTargetLimit, HasBadEntry, HasManyTraces, HasNoManoeuvre, IsAnswerOf, OfOwn, Unless, unready_of}
use Rattle.tasks.specs.Modes.{Focus, OfOwnShip, OfTicks, WhereChecked, each_line, each_tick, focus_of, needs_rows, nothing, own_ship}
use Rattle.sessions.specs.PlanReport.{IsOwn, situation_on}
use Rattle.sessions.proofs.OneOwn.{one_own, one_ready}
use Rattle.sessions.specs.declared.session_fault.SessionFault.TheVariants as fault

pub first_once : (Stands : Type 0) (here : Came) (Else : Came → Type 0) (a b : Came)
    → ((x y : Came) → Else x → Else y → x ≡ y) → First Stands here Else a → First Stands here Else b → a ≡ b
first_once Stands here Else a b once (inl (stands, is)) (inl (_, is')) = is ∙ sym is'
first_once Stands here Else a b once (inl (stands, is)) (inr (not, _)) = absurd (not stands)
first_once Stands here Else a b once (inr (not, _)) (inl (stands, _)) = absurd (not stands)
first_once Stands here Else a b once (inr (_, else)) (inr (_, else')) = once a b else else'

-- ---- the first bad entry is one

one_bad_row : (scenario : Scenario) (log rows : List ℕ) (k l : ℕ) → OfOwn scenario log (λ own ready. IsFirstBadRow (situation_on scenario log own ready) (why_rows rows) k)
    → OfOwn scenario log (λ own ready. IsFirstBadRow (situation_on scenario log own ready) (why_rows rows) l) → k ≡ l
one_bad_row scenario log rows k l (own, ready, is, bad) (own', ready', is', bad') =
    let same : own ≡ own' = one_own scenario log own own' ready ready' is is' in
    let is-own' : IsOwn scenario log own ready' = subst (λ (o : OwnPart). IsOwn scenario log o ready') (sym same) is' in
    let same-ready : ready ≡ ready' = one_ready scenario log own ready ready' is is-own' in
    let there : IsFirstBadRow (situation_on scenario log own ready) (why_rows rows) l =
    subst₂ (λ (o : OwnPart) (r : Ready). IsFirstBadRow (situation_on scenario log o r) (why_rows rows) l) (sym same) (sym same-ready) bad' in
    one_index (situation_on scenario log own ready) (why_rows rows) k l bad there

one_bad_entry : (focus : Focus) (checks : Bool) (rows : List ℕ) (scenario : Scenario) (log : List ℕ) (k l : ℕ)
    → OfOwnShip focus (WhereChecked checks (OfOwn scenario log (λ own ready. IsFirstBadRow (situation_on scenario log own ready) (why_rows rows) k)))
    → OfOwnShip focus (WhereChecked checks (OfOwn scenario log (λ own ready. IsFirstBadRow (situation_on scenario log own ready) (why_rows rows) l))) → k ≡ l
one_bad_entry own_ship true rows scenario log k l a b = one_bad_row scenario log rows k l a b
one_bad_entry own_ship false rows scenario log k l a b = absurd a
one_bad_entry each_line checks rows scenario log k l a b = absurd a
one_bad_entry (each_tick told) checks rows scenario log k l a b = absurd a
one_bad_entry nothing checks rows scenario log k l a b = absurd a

-- ---- there is one answer

unless_once : (o : Option Unready) (Else : Came → Type 0) (a b : Came) → ((x y : Came) → Else x → Else y → x ≡ y) → Unless o Else a → Unless o Else b → a ≡ b
unless_once None Else a b once x y = once a b x y
unless_once (Some why) Else a b once x y = x ∙ sym y

pub first_of_once : (Stands : ℕ → Type 0) (here : ℕ → Came) (Else : Came → Type 0) (a b : Came) → ((k l : ℕ) → Stands k → Stands l → k ≡ l)
    → ((x y : Came) → Else x → Else y → x ≡ y) → FirstOf Stands here Else a → FirstOf Stands here Else b → a ≡ b
first_of_once Stands here Else a b one once (inl (k, stands, is)) (inl (l, stands', is')) = is ∙ (ap here (one k l stands stands') ∙ sym is')
first_of_once Stands here Else a b one once (inl (k, stands, is)) (inr (not, _)) = absurd (not k stands)
first_of_once Stands here Else a b one once (inr (not, _)) (inl (k, stands, is)) = absurd (not k stands)
first_of_once Stands here Else a b one once (inr (_, else)) (inr (_, else')) = once a b else else'

abbrev pub reported : Came → Type 0
reported came = came ≡ Ok false

abbrev pub entry_fault : ℕ → Came
entry_fault k = Err (fault.Entry k)

module _ (m : Mode) (rows : List ℕ) (scenario : Scenario) (log : List ℕ) where
  -- what follows each test

  abbrev pub behind_search : Came → Type 0
  behind_search = FirstOf (HasBadEntry m rows scenario log) entry_fault reported

  abbrev pub behind_targets : Came → Type 0
  behind_targets = First (HasNoManoeuvre m scenario log) (Ok true) behind_search

  abbrev pub behind_own : Came → Type 0
  behind_own = First (MeetsTargetLimit m scenario log) (Err fault.Targets) behind_targets

  abbrev pub behind_traces : Came → Type 0
  behind_traces = Unless (unready_of m scenario log) behind_own

  abbrev pub behind_vessels : Came → Type 0
  behind_vessels = First (HasManyTraces m scenario log) (Err fault.Pairs) behind_traces

  pub one_answer_to : (a b : Came) → IsAnswerOf m rows scenario log a → IsAnswerOf m rows scenario log b → a ≡ b
  one_answer_to a b =
      first_once (IsTrue (is_crowded scenario (lines_of log))) (Err fault.Vessels) behind_vessels a b
      (λ c d. first_once (HasManyTraces m scenario log) (Err fault.Pairs) behind_traces c d
      (λ e f. unless_once (unready_of m scenario log) behind_own e f
      (λ g h. first_once (MeetsTargetLimit m scenario log) (Err fault.Targets) behind_targets g h
      (λ i j. first_once (HasNoManoeuvre m scenario log) (Ok true) behind_search i j
      (λ k l. first_of_once (HasBadEntry m rows scenario log) entry_fault reported k l (one_bad_entry (focus_of m) (needs_rows m) rows scenario log) (λ x y is is'. is ∙ sym is'))))))

-- ---- the answers to lines

not_crowded : (scenario : Scenario) (log : List ℕ) → is_crowded scenario (lines_of log) ≡ false → IsTrue (is_crowded scenario (lines_of log)) → ⊥
not_crowded scenario log calm crowded = cc (calm, crowded)

pub crowded_answer : (m : Mode) (rows : List ℕ) (scenario : Scenario) (log : List ℕ) → IsTrue (is_crowded scenario (lines_of log))
    → IsAnswerOf m rows scenario log (Err fault.Vessels)
crowded_answer m rows scenario log crowded = inl (crowded, refl)

pub pairs_answer : (m : Mode) (rows : List ℕ) (scenario : Scenario) (log : List ℕ) → is_crowded scenario (lines_of log) ≡ false → HasManyTraces m scenario log
    → IsAnswerOf m rows scenario log (Err fault.Pairs)
pairs_answer m rows scenario log calm many = inr (not_crowded scenario log calm, inl (many, refl))

no_entry : (m : Mode) (rows : List ℕ) (scenario : Scenario) (log : List ℕ) → ((k : ℕ) → ¬ HasBadEntry m rows scenario log k) → behind_search m rows scenario log (Ok false)
no_entry m rows scenario log none = inr (none, refl)

module _ (scenario : Scenario) (log : List ℕ) (calm : is_crowded scenario (lines_of log) ≡ false) where
  pub points_done : IsAnswerOf mode.Points [] scenario log (Ok false)
  points_done = inr (not_crowded scenario log calm, inr (λ x. x, inr (λ x. x, inr (λ x. x, no_entry mode.Points [] scenario log (λ k x. x)))))

  pub audit_done : ¬ HasManyTraces mode.Audit scenario log → IsAnswerOf mode.Audit [] scenario log (Ok false)
  audit_done few = inr (not_crowded scenario log calm, inr (few, inr (λ x. x, inr (λ x. x, no_entry mode.Audit [] scenario log (λ k x. x)))))

  pub watch_done : ¬ HasManyTraces mode.Watch scenario log → IsAnswerOf mode.Watch [] scenario log (Ok false)
  watch_done few = inr (not_crowded scenario log calm, inr (few, inr (λ x. x, inr (λ x. x, no_entry mode.Watch [] scenario log (λ k x. x)))))

  pub drill_done : ¬ HasManyTraces mode.Drill scenario log → IsAnswerOf mode.Drill [] scenario log (Ok false)
  drill_done few = inr (not_crowded scenario log calm, inr (few, inr (λ x. x, inr (λ x. x, no_entry mode.Drill [] scenario log (λ k x. x)))))

  -- ---- if own ship is examined

  module _ (m : Mode) (rows : List ℕ) (on_own : focus_of m ≡ own_ship) where
    no_traces : ¬ HasManyTraces m scenario log
    no_traces many = subst (λ (focus : Focus). OfTicks focus (HaveMoreThan MOST_TRACES (audit_numbers scenario) (sightings_of scenario log))) on_own many

    behind_lines : (came : Came) → behind_traces m rows scenario log came → IsAnswerOf m rows scenario log came
    behind_lines came is = inr (not_crowded scenario log calm, inr (no_traces, is))

    pub own_unready : (why : Unready) → unready_of m scenario log ≡ Some why → IsAnswerOf m rows scenario log (Err (fault.Own why))
    own_unready why is =
        behind_lines (Err (fault.Own why))
        (subst (λ (o : Option Unready). Unless o (behind_own m rows scenario log) (Err (fault.Own why))) (sym is) refl)

    module _ (ready : unready_of m scenario log ≡ None) where
      behind_readiness : (came : Came) → behind_own m rows scenario log came → IsAnswerOf m rows scenario log came
      behind_readiness came is = behind_lines came (subst (λ (o : Option Unready). Unless o (behind_own m rows scenario log) came) (sym ready) is)

      pub too_many_targets : MeetsTargetLimit m scenario log → IsAnswerOf m rows scenario log (Err fault.Targets)
      too_many_targets many = behind_readiness (Err fault.Targets) (inl (many, refl))

      module _ (few : ¬ MeetsTargetLimit m scenario log) where
        pub no_manoeuvre : HasNoManoeuvre m scenario log → IsAnswerOf m rows scenario log (Ok true)
        no_manoeuvre none = behind_readiness (Ok true) (inr (few, inl (none, refl)))

        module _ (some : ¬ HasNoManoeuvre m scenario log) where
          pub a_bad_entry : (k : ℕ) → HasBadEntry m rows scenario log k → IsAnswerOf m rows scenario log (Err (fault.Entry k))
          a_bad_entry k bad = behind_readiness (Err (fault.Entry k)) (inr (few, inr (some, inl (k, bad, refl))))

          pub a_report : ((k : ℕ) → ¬ HasBadEntry m rows scenario log k) → IsAnswerOf m rows scenario log (Ok false)
          a_report none = behind_readiness (Ok false) (inr (few, inr (some, inr (none, refl))))
