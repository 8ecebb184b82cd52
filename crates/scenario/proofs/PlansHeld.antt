-- Own ship's plans, and what is predicted of other vessels, in a document without a fault.
use Rattle.std.proofs.Common.{◌≡◌, ℕ, zero, suc, ◌≤◌, ◌+◌, ◌*◌, ◌^◌, ◌&&◌, nat_le, ℤ, List, length, Bool, true, false, if◌then◌else◌, Option, Some, None, refl, ap, ◌∙◌, subst, arith}
use Rattle.std.specs.Prelude.{codes}
use Rattle.std.proofs.lemmas.Bool.{and_parts}
use Rattle.std.proofs.lemmas.Bool.Decides.{nat_tests}
use Rattle.std.proofs.lemmas.List.{length-map}
use Rattle.toml.specs.Data.{Members, as_integer}
use Rattle.scenario.specs.KeyFaults.{basis_of, tick_of}
use Rattle.scenario.specs.Inner.NoFaults.{HaveNoFault}
use Rattle.scenario_keys.specs.KeyValues.{integer_of, integers_at, list_at, natural_at}
use Rattle.predictions.specs.PredictFaults.{predict_fault}
use Rattle.scenario.specs.PlanFaults.{are_few, are_in_range, are_short, plans_cause, sizes_of}
use Rattle.scenario_keys.specs.ScenarioKeys.{own_rows}
use Rattle.scenario.specs.Inner.KnownKeys.{kind_at}
use Rattle.scenario_keys.specs.declared.cause.Cause.{Cause}
use Rattle.scenario_keys.specs.declared.cause.Cause.TheVariants as cause
use Rattle.scenario.specs.declared.plan_sizes.PlanSizes.{PlanSizes}
use Rattle.scenario_keys.specs.declared.rows.Kind.TheVariants as kind
use Rattle.scenario.proofs.Held.{faultless_at, one_le_tick, uncaused}

nat_le-true : (m n : ℕ) → nat_le m n ≡ true → m ≤ n
nat_le-true m n h = grind (arith, nat_tests)

is_plans : (document : Members) → kind_at (basis_of true document) (codes "") (codes "own") ≡ Some kind.Plans
unfolding kind_at own_rows
is_plans document = refl

uncaused_plans : (document : Members) → HaveNoFault true document → plans_cause (tick_of document) (sizes_of document) ≡ None
uncaused_plans document faultless =
    let h = faultless_at true document (codes "") (codes "own") kind.Plans (is_plans document) faultless in
    uncaused h.number (plans_cause (tick_of document) (sizes_of document)) h.faultless

few_and_short : (tick : ℕ) (sizes : PlanSizes) → are_in_range sizes ≡ true → plans_cause tick sizes ≡ None → (are_few sizes && are_short tick sizes) ≡ true
few_and_short tick sizes range h =
    let cause_by : Bool → Bool → Option Cause = λ r b. if r then (if b then None else Some cause.Product) else None in
    let f : cause_by true (are_few sizes && are_short tick sizes) ≡ None = subst (λ (r : Bool). cause_by r (are_few sizes && are_short tick sizes) ≡ None) range h in
    elim (are_few sizes && are_short tick sizes) as (λ b. cause_by true b ≡ None → b ≡ true) [
      | true ↦ λ e. refl
      | false ↦ λ e. cc
    ] f

le_product : (p t : ℕ) → 1 ≤ t → p ≤ p * t
le_product p zero h = absurd (omega arith)
le_product p (suc t) h = omega arith

pub record PlansHold (tick courses speeds legs leg_ticks tail : ℕ) : Type 0 where
  pub few : (courses * speeds) ^ legs ≤ 1073741824
  pub short : (legs * leg_ticks + tail) * tick ≤ 7200
  pub positions : legs * leg_ticks + tail ≤ 7200

sizes_are : (document : Members) (courses speeds : List ℤ) (legs leg_ticks tail : ℕ) →
    courses ≡ integers_at (codes "own") (codes "courses") document → speeds ≡ integers_at (codes "own") (codes "speeds") document →
    legs ≡ natural_at (codes "own") (codes "legs") document → leg_ticks ≡ natural_at (codes "own") (codes "leg_ticks") document →
    tail ≡ natural_at (codes "own") (codes "tail") document →
    sizes_of document ≡ record { courses = length courses; speeds = length speeds; legs = legs; leg_ticks = leg_ticks; tail = tail }
unfolding sizes_of
sizes_are document courses speeds legs leg_ticks tail c s l t u =
    let many : length courses ≡ length (list_at (codes "own") (codes "courses") document) =
    ap length c ∙ length-map (list_at (codes "own") (codes "courses") document) (λ d. integer_of (as_integer d)) in
    let more : length speeds ≡ length (list_at (codes "own") (codes "speeds") document) =
    ap length s ∙ length-map (list_at (codes "own") (codes "speeds") document) (λ d. integer_of (as_integer d)) in
    rw (many, more, l, t, u)

pub plans_held : (document : Members) (courses speeds : List ℤ) (legs leg_ticks tail : ℕ) → HaveNoFault true document →
    courses ≡ integers_at (codes "own") (codes "courses") document → speeds ≡ integers_at (codes "own") (codes "speeds") document →
    legs ≡ natural_at (codes "own") (codes "legs") document → leg_ticks ≡ natural_at (codes "own") (codes "leg_ticks") document →
    tail ≡ natural_at (codes "own") (codes "tail") document →
    length courses ≤ 32 → length speeds ≤ 16 → legs ≤ 8 → leg_ticks ≤ 7200 → tail ≤ 7200 →
    PlansHold (tick_of document) (length courses) (length speeds) legs leg_ticks tail
plans_held document courses speeds legs leg_ticks tail faultless c s l t u few slow short long wide =
    let sizes : PlanSizes = record { courses = length courses; speeds = length speeds; legs = legs; leg_ticks = leg_ticks; tail = tail } in
    let same : sizes_of document ≡ sizes = sizes_are document courses speeds legs leg_ticks tail c s l t u in
    let none : plans_cause (tick_of document) sizes ≡ None =
    subst (λ (sizes : PlanSizes). plans_cause (tick_of document) sizes ≡ None) same (uncaused_plans document faultless) in
    let range : are_in_range sizes ≡ true = grind (arith, nat_tests) in
    let (a, b) = and_parts (are_few sizes) (are_short (tick_of document) sizes) (few_and_short (tick_of document) sizes range none) in
    let some = nat_le-true ((length courses * length speeds) ^ legs) 1073741824 a in
    let time = nat_le-true ((legs * leg_ticks + tail) * tick_of document) 7200 b in
    let one = le_product (legs * leg_ticks + tail) (tick_of document) (one_le_tick document) in
    record { few = some; short = time; positions = omega arith }

-- what is predicted in a document without a fault

is_predicted : (document : Members) → kind_at (basis_of true document) (codes "") (codes "predict.mmsi") ≡ Some kind.PredictedShip
unfolding kind_at own_rows
is_predicted document = refl

pub predict_held : (document : Members) → HaveNoFault true document →
    predict_fault (tick_of document) (natural_at (codes "own") (codes "mmsi") document) (list_at (codes "") (codes "predict") document) ≡ None
predict_held document faultless =
    (faultless_at true document (codes "") (codes "predict.mmsi") kind.PredictedShip (is_predicted document) faultless).faultless
