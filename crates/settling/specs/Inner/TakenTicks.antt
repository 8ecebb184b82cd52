-- The state of a taker of a window's ticks, which returns items for each tick: an audit returns rows, a watch alarms.
use Rattle.std.specs.Prelude.{ℕ, ◌≡◌, ◌+◌, ◌<◌, ◌≤◌, ◌↔◌, [], ◌∷◌, ◌++◌, List}
use Rattle.log_lines.specs.SentLines.{sent}
use Rattle.log_lines.specs.Standing.{StandsFor as JudgeStandsFor}
use Rattle.log_lines.specs.declared.judge.Judge.{Judge}
use Rattle.scenario_values.specs.declared.values.Scenario.{Scenario}
use Rattle.settled_ticks.specs.Settled.{IsSettled}
use Rattle.settled_ticks.specs.Sightings.{seen_first, sighted}
use Rattle.settled_ticks.specs.Standing.{handed_out}
use Rattle.settled_ticks.specs.declared.settled_ticks.SettledTicks.{SettledTicks}
use Rattle.settling.specs.ScenarioAudit.{audit_numbers}
use Rattle.traces.specs.Audited.{AuditNumbers, SeenVessels, Sighting, last_sighting}
use Rattle.traces.specs.ManyTraces.{HaveMoreThan}
use Rattle.traces.specs.declared.all_traces.TheConstants.{MOST_TRACES}

-- A taker of ticks: the number of ticks so far and in the window; the vessels seen at the latest tick; and its model:
-- numbers, ticks and returned items.
pub record Taker (Item : Type 0) : Type 1 where
  pub Sound : Type 0
  pub count : ℕ
  pub last_tick : ℕ
  pub latest : SeenVessels
  pub Stands : AuditNumbers → List Sighting → List Item → Type 0
  pub within : Sound → count ≤ last_tick + 1
  pub seen_last : (numbers : AuditNumbers) (ticks : List Sighting) (given : List Item)
      → Stands numbers ticks given → latest ≡ (last_sighting ticks).vessels

-- It takes another tick with this sighting, and returns these items.
pub record TakesNext {Item : Type 0} (old new : Taker Item) (seen : Sighting) (items : List Item)
    : Type 0 where
  pub sound : new.Sound
  pub count : new.count ≡ old.count + 1
  pub last_tick : new.last_tick ≡ old.last_tick
  pub stands : (numbers : AuditNumbers) (before : List Sighting) (given : List Item)
      → old.Stands numbers before given → new.Stands numbers (before ++ seen ∷ []) (given ++ items)
  pub few : (numbers : AuditNumbers) (before : List Sighting) (given : List Item)
      → old.Stands numbers before given → HaveMoreThan MOST_TRACES numbers (before ++ seen ∷ []) → ⊥

-- That tick begins too many traces.
abbrev pub IsTooManyFor : {Item : Type 0} → Taker Item → Sighting → Type 0
IsTooManyFor {Item} old seen = (numbers : AuditNumbers) (before : List Sighting) (given : List Item)
    → old.Stands numbers before given → HaveMoreThan MOST_TRACES numbers (before ++ seen ∷ [])

-- It has taken no tick of the scenario's window.
pub record IsBeforeAll {Item : Type 0} (taker : Taker Item) (scenario : Scenario) : Type 0 where
  pub sound : taker.Sound
  pub count : taker.count ≡ 0
  pub last : taker.last_tick ≡ scenario.window.ticks
  pub stands : taker.Stands (audit_numbers scenario) [] []

-- It has taken all ticks of the scenario's window, by these lines, and returned these items.
pub record HasTakenAll {Item : Type 0} (taker : Taker Item) (scenario : Scenario)
    (lines : List (List ℕ)) (given : List Item) : Type 0 where
  pub sound : taker.Sound
  pub all : taker.count ≡ taker.last_tick + 1
  pub stands : taker.Stands (audit_numbers scenario) (sighted scenario (sent scenario lines)) given
  pub few : HaveMoreThan MOST_TRACES (audit_numbers scenario)
      (sighted scenario (sent scenario lines)) → ⊥

module _ {Item : Type 0} (taker : Taker Item) (ticks : SettledTicks) (scenario : Scenario) where
  -- It has taken the ticks returned so far, by these lines, and returned these items.
  pub record HasTaken (lines : List (List ℕ)) (given : List Item) : Type 0 where
    pub sound : taker.Sound
    pub next : taker.count ≡ handed_out ticks
    pub last : taker.last_tick ≡ scenario.window.ticks
    pub stands : taker.Stands (audit_numbers scenario)
        (seen_first scenario (sent scenario lines) (handed_out ticks)) given
    pub few : HaveMoreThan MOST_TRACES (audit_numbers scenario)
        (seen_first scenario (sent scenario lines) (handed_out ticks)) → ⊥

  -- It has taken them, and they are settled.
  pub record IsSettling (lines : List (List ℕ)) (given : List Item) : Type 0 where
    pub taken : HasTaken lines given
    pub settled : (i : ℕ) → i < handed_out ticks → IsSettled scenario lines i

  -- The settled ticks are those that it has taken.
  pub record HasTakenSettled (lines : List (List ℕ)) (given : List Item) : Type 0 where
    pub settled : (i : ℕ) → IsSettled scenario lines i ↔ (i < handed_out ticks)
    pub taken : HasTaken lines given

  -- The same held for lines that the judge has taken, before further ones.
  pub record HasTakenOneLog (judge : Judge) : Type 0 where
    pub lines : List (List ℕ)
    pub more : List (List ℕ)
    pub given : List Item
    pub stands : HasTakenSettled lines given
    pub judged : JudgeStandsFor judge scenario (lines ++ more)
