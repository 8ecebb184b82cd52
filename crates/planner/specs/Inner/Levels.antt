-- What is kept for the search, and after a prefix of legs.
use Rattle.std.specs.Prelude.{ℕ, ◌≡◌, ◌+◌, ◌<◌, ◌≤◌, Bool, true, false, List, [], length, get_or, All}
use Rattle.lattice.specs.Grids.{choices_of}
use Rattle.lattice.specs.PlanNumbers.{plan_of}
use Rattle.mtl_monitor.specs.Following as monitor
use Rattle.mtl_formulas.specs.Traces.{Trace}
use Rattle.plan_situations.specs.FailingPlans.{BreaksARule, EntersDomain, Some_}
use Rattle.rule_program.specs.Lags.{IsNoLast}
use Rattle.planner.specs.Inner.Breaking.{Tells, formulas_of}
use Rattle.planner.specs.Inner.Legs.{IsPathIn, lasts}
use Rattle.planner.specs.Inner.Watching.{IsCutAtNow, IsEarly, IsReady, Stands}
use Rattle.plan_situations.specs.Boxes.{ahead_from, HoldsPath}
use Rattle.plan_situations.specs.Prefixes.{reached, steps_told}
use Rattle.plan_situations.specs.declared.boxes.Bounds.{Bounds}
use Rattle.plan_situations.specs.Situations.{IsSituation, now_of}
use Rattle.planner.specs.declared.already.Already.{Already}
use Rattle.planner.specs.declared.basis.SearchBasis.{SearchBasis}
use Rattle.planner.specs.declared.legs.PlannedLeg.{PlannedLeg}
use Rattle.planner.specs.declared.level.Level.{Level}
use Rattle.plan_situations.specs.declared.situation.Situation.{Situation}
use Rattle.plan_situations.specs.declared.situation.Target.{Target}
use Rattle.planner.specs.declared.watched.Watched.{Watched}

-- What is known of a target at now is what the rows of her trace that is cut there say.
pub record IsToldAtNow (situation : Situation) (target : Target) (already : Already) : Type 0 where
  pub cut : Trace
  pub is_cut : IsCutAtNow situation target cut
  pub tells : Tells (formulas_of situation) cut already

pub record IsBasis (situation : Situation) (basis : SearchBasis) : Type 0 where
  pub is_situation : IsSituation situation
  pub of_rules : monitor.IsProgramOf basis.program (formulas_of situation)
  pub few : monitor.count_of basis.program ≤ 17
  pub no_last : basis.no_last ≡ true → All IsNoLast (formulas_of situation)
  pub count : length basis.already.items ≡ length situation.targets
  pub each : (k : ℕ) (t : Target) (a : Already) → k < length situation.targets → IsToldAtNow situation (get_or situation.targets k t) (get_or basis.already.items k a)

-- There is a place for each target.
pub record HasTargets (situation : Situation) (basis : SearchBasis) (watched : List Watched) : Type 0 where
  pub count : length watched ≡ length situation.targets
  pub ready : All (IsReady basis.program) watched

-- None was fed more rows than this.
abbrev pub AreEarly : ℕ → List Watched → Type 0
AreEarly at watched = All (IsEarly at) watched

-- Each target has a box, which holds her predicted path at this many ticks from one on that is counted from now.
pub record AreBeside (situation : Situation) (first ticks : ℕ) (beside : List Bounds) : Type 0 where
  pub count : length beside ≡ length situation.targets
  pub each : (k : ℕ) (t : Target) (b : Bounds) → k < length situation.targets → HoldsPath (get_or beside k b) (ahead_from (get_or situation.targets k t) first ticks)

-- A level has the places for a leg, and the boxes beside it.
pub record HasPlaces (situation : Situation) (basis : SearchBasis) (leg : ℕ) (level : Level) : Type 0 where
  pub path : length level.path.items ≡ lasts situation leg + 1
  pub beside : AreBeside situation (steps_told situation.lattice leg) (lasts situation leg + 1) level.beside.items
  pub targets : HasTargets situation basis level.watched.items
  pub fits : monitor.Fits basis.program level.ending
  pub room : monitor.HasRoom basis.program level.ending

-- It has them, and own ship's path in the leg with a box that holds it.
pub record IsOnLeg (situation : Situation) (basis : SearchBasis) (leg : PlannedLeg) (level : Level) : Type 0 where
  pub places : HasPlaces situation basis leg.index level
  pub path : IsPathIn situation leg level.path.items
  pub bounds : HoldsPath level.bounds level.path.items

-- What is kept stands for the steps of a plan up to a tick.
abbrev pub StandsAt : Situation → SearchBasis → List ℕ → ℕ → List Watched → Type 0
StandsAt situation basis plan at watched = (k : ℕ) (t : Target) (a : Already) (w : Watched) (cut : Trace) → k < length situation.targets
    → IsCutAtNow situation (get_or situation.targets k t) cut
    → Tells (formulas_of situation) cut (get_or basis.already.items k a)
    → Stands basis.program situation plan (get_or situation.targets k t) cut at (get_or watched k w)

-- What is kept of the target with this index is early at a tick, and stands there if what was kept at an earlier one stands.
pub record IsFollowedTo (situation : Situation) (basis : SearchBasis) (plan : List ℕ) (from to : ℕ) (old : List Watched) (k : ℕ) (watched : Watched) : Type 0 where
  pub early : IsEarly to watched
  pub stands : StandsAt situation basis plan from old → (t : Target) (a : Already) (cut : Trace) → IsCutAtNow situation (get_or situation.targets k t) cut
      → Tells (formulas_of situation) cut (get_or basis.already.items k a) → Stands basis.program situation plan (get_or situation.targets k t) cut to watched

-- All targets were followed from a tick to another under a plan, with the answer whether a rule is newly
-- broken.
pub record AreFollowed (situation : Situation) (basis : SearchBasis) (plan : List ℕ) (from to : ℕ) (old new : List Watched) (told : Bool) : Type 0 where
  pub stands : told ≡ false → StandsAt situation basis plan from old → StandsAt situation basis plan to new
  pub breaks : told ≡ true → StandsAt situation basis plan from old → Some_ (BreaksARule situation plan to) situation.targets

-- Up to a tick own ship enters no domain.
abbrev pub StaysOut : Situation → List ℕ → ℕ → Type 0
StaysOut situation plan at = ¬ Some_ (EntersDomain situation plan at) situation.targets

-- What a level keeps stands for the steps of this many legs of this number, in which she enters no
-- domain.
pub record IsAfter (situation : Situation) (basis : SearchBasis) (legs number : ℕ) (level : Level) : Type 0 where
  pub targets : HasTargets situation basis level.watched.items
  pub early : AreEarly (reached situation legs) level.watched.items
  pub stands : StandsAt situation basis (plan_of (choices_of situation.lattice) legs number) (reached situation legs) level.watched.items
  pub outside : StaysOut situation (plan_of (choices_of situation.lattice) legs number) (reached situation legs)

-- All of a search: a level at now, and one for each leg.
pub record ArePlaces (situation : Situation) (basis : SearchBasis) (leg : ℕ) (below : List Level) : Type 0 where
  pub count : leg + length below ≡ situation.lattice.legs
  pub each : (i : ℕ) (l : Level) → i < length below → HasPlaces situation basis (leg + i) (get_or below i l)

-- What stands at now.
pub record IsPrepared (situation : Situation) (basis : SearchBasis) (start : Level) : Type 0 where
  pub is_basis : IsBasis situation basis
  pub targets : HasTargets situation basis start.watched.items
  pub early : AreEarly (now_of situation) start.watched.items
  pub stands : StandsAt situation basis [] (now_of situation) start.watched.items
  pub fits : monitor.Fits basis.program start.ending
  pub room : monitor.HasRoom basis.program start.ending
