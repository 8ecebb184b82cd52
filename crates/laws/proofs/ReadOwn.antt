-- Own ship of a document without a fault is in her ranges.
use Rattle.std.proofs.Common.{ℕ, ◌*◌, ◌≤◌, ℤ, pos, ◌≤ℤ◌, List, length, map, Bool, true, false, Option, Some, None, All, MatchOption, refl, arith}
use Rattle.std.specs.Prelude.{codes, neg_ℤ, slice_index_or, unsigned_abs, IfSome, if◌then◌else◌}
use Rattle.std.specs.Bool.{Decides}
use Rattle.std.proofs.lemmas.Int.{ints}
use Rattle.std.proofs.lemmas.List.{length-map}
use Rattle.std.proofs.lemmas.List.Elements.{All-map}
use Rattle.toml.specs.Data.{Data, Members, as_integer}
use Rattle.hull_domains.specs.Shapes.{is_shape, shape_of, IsShape}
use Rattle.hull_domains.proofs.Tested.{tested}
use Rattle.lattice.specs.Grids.{positions_of, IsGrid}
use Rattle.scenario_keys.specs.KeyValues.{integer_of, integers_at, list_at, natural_at}
use Rattle.scenario_keys.specs.ScenarioKeys.{own_rows}
use Rattle.predictions.proofs.Ranges.{in_range}
use Rattle.scenario.specs.Inner.KnownKeys.{kind_at}
use Rattle.scenario.specs.Inner.NoFaults.{HaveNoFault}
use Rattle.scenario.specs.Inner.WithinBounds.{IsWithin as LiesWithin}
use Rattle.scenario.specs.KeyFaults.{tick_of}
use Rattle.scenario.specs.ScenarioValues.{grid_of, own_of}
use Rattle.scenario.specs.Shapes.{vertex_of}
use Rattle.scenario.proofs.ListsHeld.{elements_within, list_held, tables_held}
use Rattle.scenario.proofs.PlansHeld.{plans_held, predict_held, PlansHold}
use Rattle.scenario_values.specs.ValueRanges.{IsOwnPart}
use Rattle.laws.proofs.ReadNumbers.{number_in, optional_in}

-- ---- a list of changes of course or of speed

near_zero : (size : ℕ) (found : Option ℤ) → MatchOption found ⊥ (λ z. (neg_ℤ (pos size) ≤ℤ z) × (z ≤ℤ pos size)) → unsigned_abs (integer_of found) ≤ size
near_zero size None h = absurd h
near_zero size (Some z) h = let a = h.0 in let b = h.1 in grind (arith, ints)

changes_near : (size : ℕ) (list : List Data) → All (LiesWithin (neg_ℤ (pos size)) (pos size)) list → All (λ z. unsigned_abs z ≤ size) (map (λ found. integer_of (as_integer found)) list)
changes_near size list all =
    All-map (λ z. unsigned_abs z ≤ size) (λ found. integer_of (as_integer found)) list (λ k d lt. near_zero size (as_integer (slice_index_or list k d)) (all k d lt))

record IsList (least most size : ℕ) (list : List ℤ) : Type 0 where
  some : least ≤ length list
  few : length list ≤ most
  near : All (λ z. unsigned_abs z ≤ size) list

-- ---- a shape

shape_by : (vertices : List (ℤ × ℤ)) (b : Bool) → Decides b (IsShape vertices) → IfSome (if b then Some vertices else None) IsShape
shape_by vertices true tells = tells.0 refl
shape_by vertices false tells = tt

pub shape_in_range : (vertices : List (ℤ × ℤ)) → IfSome (shape_of vertices) IsShape
shape_in_range vertices = shape_by vertices (is_shape vertices) (tested vertices)

module _ (document : Members) (none : HaveNoFault true document) where
  -- ---- her plans

  courses_in_range : IsList 1 32 1800 (integers_at (codes "own") (codes "courses") document)
  unfolding kind_at own_rows
  courses_in_range =
      let list = list_at (codes "own") (codes "courses") document in
      let held = list_held true document (codes "own") (codes "courses") (neg_ℤ (pos 1800)) (pos 1800) refl none in
      let from : 1 ≤ length list = held.from in
      let to : length list ≤ 32 = held.to in
      let many = length-map list (λ found. integer_of (as_integer found)) in
      record {
        some = omega arith;
        few = omega arith;
        near = changes_near 1800 list (elements_within true document (codes "own") (codes "courses") (neg_ℤ (pos 1800)) (pos 1800) refl none);
      }

  speeds_in_range : IsList 1 16 1022 (integers_at (codes "own") (codes "speeds") document)
  unfolding kind_at own_rows
  speeds_in_range =
      let list = list_at (codes "own") (codes "speeds") document in
      let held = list_held true document (codes "own") (codes "speeds") (neg_ℤ (pos 1022)) (pos 1022) refl none in
      let from : 1 ≤ length list = held.from in
      let to : length list ≤ 16 = held.to in
      let many = length-map list (λ found. integer_of (as_integer found)) in
      record {
        some = omega arith;
        few = omega arith;
        near = changes_near 1022 list (elements_within true document (codes "own") (codes "speeds") (neg_ℤ (pos 1022)) (pos 1022) refl none);
      }

  abbrev number : List ℕ → ℕ
  number name = natural_at (codes "own") name document

  plans : PlansHold (tick_of document) (length (integers_at (codes "own") (codes "courses") document)) (length (integers_at (codes "own") (codes "speeds") document))
      (number (codes "legs")) (number (codes "leg_ticks")) (number (codes "tail"))
  unfolding kind_at own_rows
  plans =
      plans_held document (integers_at (codes "own") (codes "courses") document) (integers_at (codes "own") (codes "speeds") document)
      (number (codes "legs")) (number (codes "leg_ticks")) (number (codes "tail")) none refl refl refl refl refl courses_in_range.few speeds_in_range.few
      (number_in true document none (codes "own") (codes "legs") 1 8 refl).1 (number_in true document none (codes "own") (codes "leg_ticks") 1 7200 refl).1
      (number_in true document none (codes "own") (codes "tail") 0 7200 refl).1

  pub lattice_in_range : IsGrid (grid_of document)
  unfolding grid_of kind_at own_rows
  lattice_in_range =
      let legs = number_in true document none (codes "own") (codes "legs") 1 8 refl in
      let ticks = number_in true document none (codes "own") (codes "leg_ticks") 1 7200 refl in
      let turn = optional_in true document none (codes "own") (codes "turn_rate") 1 1800 1800 refl in
      let speed = optional_in true document none (codes "own") (codes "speed_rate") 1 1022 1022 refl in
      record {
        some_course = courses_in_range.some;
        few_courses = courses_in_range.few;
        course_changes = courses_in_range.near;
        some_speed = speeds_in_range.some;
        few_speeds = speeds_in_range.few;
        speed_changes = speeds_in_range.near;
        some_leg = legs.0;
        few_legs = legs.1;
        some_tick = ticks.0;
        few_ticks = ticks.1;
        short_tail = (number_in true document none (codes "own") (codes "tail") 0 7200 refl).1;
        turns = turn.0;
        turn_rate = turn.1;
        hastens = speed.0;
        speed_rate = speed.1;
        few_plans = plans.few;
        few_positions = plans.positions;
      }

  time_in_range : positions_of (grid_of document) * tick_of document ≤ 7200
  unfolding grid_of
  time_in_range = plans.short

  -- ---- the whole of her

  few_tables : length (list_at (codes "") (codes "predict") document) ≤ 64
  unfolding kind_at own_rows
  few_tables = tables_held true document (codes "") (codes "predict") 64 refl none

  pub own_in_range : IsOwnPart (tick_of document) (own_of document)
  unfolding own_of kind_at own_rows
  own_in_range = record {
    mmsi = number_in true document none (codes "own") (codes "mmsi") 200000000 799999999 refl;
    plan_time = time_in_range;
    base = (number_in true document none (codes "own") (codes "base") 0 100000 refl).1;
    lengths = (number_in true document none (codes "own") (codes "lengths") 0 100 refl).1;
    range = number_in true document none (codes "own") (codes "range") 1 100000 refl;
    predict = in_range (tick_of document) (natural_at (codes "own") (codes "mmsi") document) (list_at (codes "") (codes "predict") document) few_tables
        (predict_held document none);
  }

-- her lattice and her shape
pub own_lattice : (document : Members) → HaveNoFault true document → IsGrid (own_of document).lattice
unfolding own_of
own_lattice document none = lattice_in_range document none

pub own_shape : (document : Members) → IfSome (own_of document).shape IsShape
unfolding own_of
own_shape document = shape_in_range (map vertex_of (list_at (codes "own") (codes "shape") document))
