-- The report of `plan`: own ship and the vessels near her, the legs of the first plan that does not fail or that there is none, how many
-- lines came to each outcome, and then, where that is asked for, why every plan fails.
use Rattle.std.specs.Prelude.{ℕ, ◌≡◌, ◌≤◌, length, Bool, true, flat_map, List, [], ◌++◌, Option, Some, None, MatchOption, Ok}
use Rattle.log_lines.specs.JudgedLines.{judged_lines, numbers_of}
use Rattle.log_lines.specs.LogLines.{lines_of}
use Rattle.log_lines.specs.SentLines.{sent}
use Rattle.refutation_search.specs.CanonicalLists.{IsCanonical}
use Rattle.refutations.specs.EntryRows.{entry_text}
use Rattle.refutations.specs.declared.entry.WhyEntry.{WhyEntry}
use Rattle.plan_situations.specs.PlanSituations.{greatest_targets, own_readiness, situation_of, targets_near, vessels_near}
use Rattle.plan_situations.specs.declared.readiness.Ready.{Ready}
use Rattle.plan_situations.specs.LeastPlans.{AllFail, IsLeastPlan}
use Rattle.plan_situations.specs.declared.situation.Situation.{Situation}
use Rattle.scenario_values.specs.declared.own_part.OwnPart.{OwnPart}
use Rattle.scenario_values.specs.declared.values.Scenario.{Scenario}
use Rattle.tracks.specs.VesselsHeld.{Sent}
use Rattle.audit_report.specs.OutcomeRows.{count_rows}
use Rattle.audit_report.specs.PlanRows.{manoeuvre_rows}
use Rattle.audit_report.specs.VesselRows.{near_rows}

-- ---- own ship

-- the messages of a log
abbrev pub log_messages : Scenario → List ℕ → List Sent
log_messages scenario log = sent scenario (lines_of log)

-- Own ship is planned for, and ready.
pub record IsOwn (scenario : Scenario) (log : List ℕ) (own : OwnPart) (ready : Ready) : Type 0 where
  pub needed : scenario.own ≡ Some own
  pub is_ready : own_readiness (numbers_of scenario) (log_messages scenario log) scenario own ≡ Ok ready

-- the situation in which her plan is sought
abbrev pub situation_on : Scenario → List ℕ → OwnPart → Ready → Situation
situation_on scenario log own ready = situation_of (numbers_of scenario) (log_messages scenario log) scenario own ready

-- She is ready, and has not too many targets: the situation in which her plan is sought is this.
pub record IsSituationOn (scenario : Scenario) (log : List ℕ) (situation : Situation) : Type 0 where
  pub own : OwnPart
  pub ready : Ready
  pub is_own : IsOwn scenario log own ready
  pub few : length (targets_near (numbers_of scenario) (log_messages scenario log) scenario own ready) ≤ greatest_targets
  pub is : situation ≡ situation_on scenario log own ready

-- ---- the reasons

-- Why every plan fails, where that is asked for and every plan does: the rows of the canonical list of entries.
abbrev pub AreReasons : Bool → Situation → Option (List ℕ) → List ℕ → Type 0
AreReasons true situation None text = (entries : List WhyEntry) × IsCanonical situation entries × (text ≡ flat_map (entry_text situation) entries)
AreReasons _ situation manoeuvre text = text ≡ []

-- ---- the report

-- The first plan that does not fail, or none where every plan fails.
abbrev pub IsManoeuvre : Situation → Option (List ℕ) → Type 0
IsManoeuvre situation manoeuvre = MatchOption manoeuvre (AllFail situation) (IsLeastPlan situation)

-- the rows of the report
unfoldable pub plan_text : Scenario → List ℕ → OwnPart → Ready → Option (List ℕ) → List ℕ
plan_text scenario log own ready manoeuvre =
    near_rows (numbers_of scenario) (log_messages scenario log) (vessels_near (numbers_of scenario) (log_messages scenario log) scenario own ready)
    ++ manoeuvre_rows scenario.window.ticks own.lattice ready manoeuvre
    ++ count_rows (judged_lines scenario (lines_of log))

-- The text is the report on a log, which says why every plan fails where that is asked for.
pub record IsPlanReport (why : Bool) (scenario : Scenario) (log text : List ℕ) : Type 0 where
  pub own : OwnPart
  pub ready : Ready
  pub is_own : IsOwn scenario log own ready
  pub manoeuvre : Option (List ℕ)
  pub is_first : IsManoeuvre (situation_on scenario log own ready) manoeuvre
  pub reasons : List ℕ
  pub are_reasons : AreReasons why (situation_on scenario log own ready) manoeuvre reasons
  pub is : text ≡ plan_text scenario log own ready manoeuvre ++ reasons
