-- What is written of a search.
use Rattle.std.specs.Prelude.{ℕ, ◌≡◌, ◌≤◌, ◌++◌, Bool, true, List, [], length, flat_map, Option, Some, Ok, Err, IfSome, is_none}
use Rattle.audit_report.specs.ReportTexts.{HasText}
use Rattle.audit_report.specs.declared.report_text.ReportText.{ReportText}
use Rattle.log_lines.specs.JudgedLines.{numbers_of}
use Rattle.refutation_search.specs.CanonicalLists.{IsCanonical}
use Rattle.refutations.specs.EntryRows.{entry_text}
use Rattle.refutations.specs.declared.entry.WhyEntry.{WhyEntry}
use Rattle.plan_situations.specs.PlanSituations.{greatest_targets, own_readiness, situation_of, targets_near, vessels_near}
use Rattle.plan_situations.specs.Preparing.{HasManyTargets}
use Rattle.plan_situations.specs.declared.preparation.PrepareFault.{PrepareFault}
use Rattle.plan_situations.specs.declared.preparation.PrepareFault.TheVariants as prepare
use Rattle.plan_situations.specs.declared.readiness.Ready.{Ready}
use Rattle.plan_situations.specs.declared.situation.Situation.{Situation}
use Rattle.scenario_values.specs.declared.own_part.OwnPart.{OwnPart}
use Rattle.scenario_values.specs.declared.values.Scenario.{Scenario}
use Rattle.tracks.specs.VesselsHeld.{Sent}
use Rattle.sessions.specs.PlanReport.{IsManoeuvre}
use Rattle.audit_report.specs.PlanRows.{manoeuvre_rows}
use Rattle.audit_report.specs.VesselRows.{near_rows}

-- Own ship was ready, and had not too many targets: a plan was sought in her situation, and the rows of the vessels near her and of her manoeuvre
-- were written behind a front.
pub record IsSought (scenario : Scenario) (messages : List Sent) (text : ReportText) (front : List ℕ) (searched : Situation) (none : Bool) : Type 0 where
  pub own : OwnPart
  pub ready : Ready
  pub needed : scenario.own ≡ Some own
  pub is_ready : own_readiness (numbers_of scenario) messages scenario own ≡ Ok ready
  pub is_of : searched ≡ situation_of (numbers_of scenario) messages scenario own ready
  pub few : length (targets_near (numbers_of scenario) messages scenario own ready) ≤ greatest_targets
  pub manoeuvre : Option (List ℕ)
  pub is_first : IsManoeuvre (situation_of (numbers_of scenario) messages scenario own ready) manoeuvre
  pub told : none ≡ is_none manoeuvre
  pub has : HasText text (front ++ (near_rows (numbers_of scenario) messages (vessels_near (numbers_of scenario) messages scenario own ready)
      ++ manoeuvre_rows scenario.window.ticks own.lattice ready manoeuvre))

-- what the fault says of own ship
abbrev pub SoughtCause : Scenario → List Sent → PrepareFault → Type 0
SoughtCause scenario messages (prepare.Unready why) = IfSome scenario.own (λ own. own_readiness (numbers_of scenario) messages scenario own ≡ Err why)
SoughtCause scenario messages prepare.TooManyTargets = IfSome scenario.own (HasManyTargets (numbers_of scenario) messages scenario)
SoughtCause scenario messages prepare.Memory = Unit {0}

-- why every plan fails, where that is asked for and none was found
abbrev pub AreReasonsWhere : Bool → Bool → Situation → List ℕ → Type 0
AreReasonsWhere true true situation text = (entries : List WhyEntry) × IsCanonical situation entries × (text ≡ flat_map (entry_text situation) entries)
AreReasonsWhere _ _ situation text = text ≡ []
