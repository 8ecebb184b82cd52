-- The numbers of a document without a fault are in their ranges.
use Rattle.std.proofs.Common.{◌≡◌, ℕ, ◌%◌, ◌≤◌, ℤ, pos, negsuc, ◌≤ℤ◌, List, length, Bool, true, false, Option, Some, None, All, MatchOption, refl, ap, arith}
use Rattle.std.specs.Prelude.{codes, not, slice_index_or, unsigned_abs, if◌then◌else◌}
use Rattle.std.proofs.Math.Nat.{div-le_self, div-mul-le_self}
use Rattle.std.proofs.lemmas.Int.{ints}
use Rattle.std.proofs.lemmas.List.{length-map}
use Rattle.std.proofs.lemmas.List.Elements.{All-map}
use Rattle.std.proofs.lemmas.Nat.{le-div}
use Rattle.toml.specs.Data.{Members, as_integer}
use Rattle.ais_messages.specs.ShipIdentities.{IsShip}
use Rattle.rule_set.specs.RuleTrees.{AreRuleNumbers, AreSafeMetres}
use Rattle.rule_set.specs.declared.numbers.Safe.TheVariants as safe
use Rattle.scenario_keys.specs.KeyValues.{found_in, integer_at, integer_or, list_at, natural_at, natural_of, naturals_at, optional_at, table_at}
use Rattle.scenario_keys.specs.ScenarioKeys.{first_rows, metres}
use Rattle.scenario.specs.Inner.KnownKeys.{are_ticks, begins_with_the_tick, kind_at, least_in, lies_in, may_lie_in, most_in, range_at, range_in}
use Rattle.scenario.specs.Inner.NoFaults.{HaveNoFault}
use Rattle.scenario.specs.KeyFaults.{basis_of, is_version_two, tick_of}
use Rattle.scenario.specs.RuleValues.{formula_tables, rule_numbers_of, safe_of}
use Rattle.scenario.specs.ScenarioValues.{act_of, detect_of, log_numbers_of, units_at, window_of}
use Rattle.scenario.proofs.Held.{from_tick, in_ticks, known, known_or, one_le_tick, optional_bounds, tick_is, tick_le_60, wider}
use Rattle.scenario.proofs.ListsHeld.{elements_within, list_held, tables_held}
use Rattle.scenario_values.specs.ValueRanges.{greatest_log, AreActNumbers, AreDetectNumbers, AreLogNumbers, IsWindow}

-- ---- a number at a key

abbrev pub IsWithin : ℕ → ℕ → ℕ → Type 0
IsWithin low high n = (low ≤ n) × (n ≤ high)

pub within : (low high : ℕ) (found : Option ℤ) → MatchOption found ⊥ (λ n. (pos low ≤ℤ n) × (n ≤ℤ pos high)) → IsWithin low high (natural_of found)
within low high None h = absurd h
within low high (Some (pos n)) h = let a = h.0 in let b = h.1 in (omega (arith, ints), omega (arith, ints))
within low high (Some (negsuc n)) h = let a = h.0 in absurd (omega (arith, ints))

there : (low high : ℕ) (found : Option ℤ) → MatchOption found ⊥ (λ n. (pos low ≤ℤ n) × (n ≤ℤ pos high)) → found ≡ Some (pos (natural_of found))
there low high None h = absurd h
there low high (Some (pos n)) h = refl
there low high (Some (negsuc n)) h = let a = h.0 in absurd (omega (arith, ints))

from_the_tick : (tick : ℕ) (found : Option ℤ) → MatchOption found ⊥ (λ n. pos tick ≤ℤ n) → tick ≤ natural_of found
from_the_tick tick None h = absurd h
from_the_tick tick (Some (pos n)) h = omega (arith, ints)
from_the_tick tick (Some (negsuc n)) h = absurd (omega (arith, ints))

multiple : (tick high : ℕ) (found : Option ℤ) → MatchOption found ⊥ (λ n. (pos 0 ≤ℤ n) × (n ≤ℤ pos high)) → MatchOption found ⊥ (λ n. unsigned_abs n % tick ≡ 0)
    → natural_of found % tick ≡ 0
multiple tick high None h on = absurd h
multiple tick high (Some (pos n)) h on = on
multiple tick high (Some (negsuc n)) h on = let a = h.0 in absurd (omega (arith, ints))

module _ (own : Bool) (document : Members) (none : HaveNoFault own document) where
  pub number_in : (table name : List ℕ) (low high : ℕ) → lies_in (pos low) (pos high) (range_at (basis_of own document) table name) ≡ true → IsWithin low high (natural_at table name document)
  number_in table name low high lies =
      within low high (integer_at table name document) (known own document table name (pos low) (pos high) (integer_at table name document) lies none refl)

  pub from_tick_at : (table name : List ℕ) → begins_with_the_tick (range_at (basis_of own document) table name) ≡ true → tick_of document ≤ natural_at table name document
  from_tick_at table name begins =
      from_the_tick (tick_of document) (integer_at table name document) (from_tick own document table name (integer_at table name document) begins none refl)

  pub multiple_at : (table name : List ℕ) (high : ℕ) → lies_in (pos 0) (pos high) (range_at (basis_of own document) table name) ≡ true
      → are_ticks (range_at (basis_of own document) table name) ≡ true → natural_at table name document % tick_of document ≡ 0
  multiple_at table name high lies ticks =
      multiple (tick_of document) high (integer_at table name document) (known own document table name (pos 0) (pos high) (integer_at table name document) lies none refl)
      (in_ticks own document table name (integer_at table name document) ticks none refl)

  pub optional_in : (table name : List ℕ) (low high otherwise : ℕ) → may_lie_in (pos low) (pos high) (pos otherwise) (range_at (basis_of own document) table name) ≡ true
      → IsWithin low high (optional_at table name otherwise document)
  unfolding optional_at
  optional_in table name low high otherwise lies =
      let range = range_at (basis_of own document) table name in
      let found = integer_or (pos otherwise) (found_in name (table_at table document)) in
      let bounds = optional_bounds (pos low) (pos high) (pos otherwise) range lies in
      within low high found
      (wider (pos low) (pos high) (least_in range) (most_in range) found bounds.0 bounds.1 (known_or own document table name (pos low) (pos high) (pos otherwise) lies none))

-- ---- the parts of a scenario

module _ (document : Members) (none : HaveNoFault false document) where
  pub window_in_range : IsWindow (window_of document)
  unfolding window_of kind_at first_rows
  window_in_range =
      let tick = number_in false document none (codes "window") (codes "tick") 1 60 refl in
      let ticks = number_in false document none (codes "window") (codes "ticks") 1 20000 refl in
      record {
        start = (number_in false document none (codes "window") (codes "start") 0 9999999999 refl).1;
        tick_from = tick.0;
        tick_to = tick.1;
        ticks_from = ticks.0;
        ticks_to = ticks.1;
      }

  -- the window's tick is the one by which keys are tested
  pub tick_same : tick_of document ≡ (window_of document).tick
  unfolding window_of kind_at first_rows
  tick_same =
      let tick = number_in false document none (codes "window") (codes "tick") 1 60 refl in
      tick_is document (natural_at (codes "window") (codes "tick") document) tick.0 tick.1
      (there 1 60 (integer_at (codes "window") (codes "tick") document)
      (known false document (codes "window") (codes "tick") (pos 1) (pos 60) (integer_at (codes "window") (codes "tick") document) refl none refl))

  pub log_in_range : AreLogNumbers (tick_of document) (log_numbers_of document)
  unfolding log_numbers_of kind_at first_rows
  log_in_range =
      let speed = number_in false document none (codes "log") (codes "max_speed") 1 1022 refl in
      let bytes = optional_in false document none (codes "log") (codes "max_bytes") 1 greatest_log greatest_log refl in
      record {
        gap_from = from_tick_at false document none (codes "log") (codes "gap") refl;
        gap_to = (number_in false document none (codes "log") (codes "gap") 0 3600 refl).1;
        slack = (number_in false document none (codes "log") (codes "slack") 0 3600 refl).1;
        max_speed_from = speed.0;
        max_speed_to = speed.1;
        max_bytes_from = bytes.0;
        max_bytes_to = bytes.1;
      }

  pub act_in_range : AreActNumbers (act_of document)
  unfolding act_of kind_at first_rows
  act_in_range =
      let turn = number_in false document none (codes "act") (codes "apparent_turn") 1 1800 refl in
      let speed = number_in false document none (codes "act") (codes "apparent_speed") 1 1022 refl in
      record {
        steady_turn = (number_in false document none (codes "act") (codes "steady_turn") 0 1800 refl).1;
        apparent_turn_from = turn.0;
        apparent_turn_to = turn.1;
        steady_speed = (number_in false document none (codes "act") (codes "steady_speed") 0 1022 refl).1;
        apparent_speed_from = speed.0;
        apparent_speed_to = speed.1;
      }

  -- a distance, in tenths of a millimetre
  units : (name : List ℕ) → IsWithin 1 100000 (natural_at (codes "detect") name document) → IsWithin 10000 1000000000 (units_at (codes "detect") name document)
  unfolding units_at
  units name h = let a = h.0 in let b = h.1 in (omega arith, omega arith)

  pub detect_in_range : AreDetectNumbers (tick_of document) (detect_of document)
  unfolding detect_of kind_at first_rows
  detect_in_range =
      let watch = units (codes "watch") (number_in false document none (codes "detect") (codes "watch") 1 100000 refl) in
      let risk = units (codes "risk") (number_in false document none (codes "detect") (codes "risk") 1 100000 refl) in
      let clear = units (codes "clear") (number_in false document none (codes "detect") (codes "clear") 1 100000 refl) in
      let seconds = natural_at (codes "detect") (codes "horizon") document in
      let most = (number_in false document none (codes "detect") (codes "horizon") 0 7200 refl).1 in
      let least = from_tick_at false document none (codes "detect") (codes "horizon") refl in
      let time = div-mul-le_self seconds (tick_of document) in
      let fewer = div-le_self seconds (tick_of document) in
      record {
        numbers = record {
          watch = watch.1;
          risk = risk.1;
          clear = clear.1;
          horizon = omega arith;
          doubt = (number_in false document none (codes "detect") (codes "doubt") 0 1124 refl).1;
        };
        watch = watch.0;
        risk = risk.0;
        clear = clear.0;
        horizon_from = le-div 1 seconds (tick_of document) (one_le_tick document) (omega arith);
        horizon_to = omega arith;
        ahead = (number_in false document none (codes "detect") (codes "ahead") 0 900 refl).1;
        reciprocal = (number_in false document none (codes "detect") (codes "reciprocal") 0 900 refl).1;
      }

  pub subjects_in_range : All IsShip (naturals_at (codes "") (codes "subjects") document)
  unfolding kind_at first_rows
  subjects_in_range =
      let list = list_at (codes "") (codes "subjects") document in
      let held = elements_within false document (codes "") (codes "subjects") (pos 200000000) (pos 799999999) refl none in
      All-map IsShip (λ found. natural_of (as_integer found)) list (λ k d lt. within 200000000 799999999 (as_integer (slice_index_or list k d)) (held k d lt))

  pub few_subjects : length (naturals_at (codes "") (codes "subjects") document) ≤ 64
  unfolding kind_at first_rows
  few_subjects =
      let list = list_at (codes "") (codes "subjects") document in
      let few : length list ≤ 64 = (list_held false document (codes "") (codes "subjects") (pos 200000000) (pos 799999999) refl none).to in
      let many = length-map list (λ found. natural_of (as_integer found)) in
      omega arith

-- ---- the numbers of the rules

module _ (document : Members) (none : HaveNoFault false document) where
  abbrev metres_at : List ℕ → ℕ
  metres_at name = natural_at (codes "rules") name document

  safe_in_range : (two : Bool) → is_version_two document ≡ two → AreSafeMetres (
      if two
      then safe.PerKind (metres_at (codes "safe_head_on")) (metres_at (codes "safe_overtaking")) (metres_at (codes "safe_crossing")) (metres_at (codes "safe_other"))
      else safe.One (metres_at (codes "safe"))
      )
  unfolding kind_at first_rows
  safe_in_range true e =
      let lies = ap (λ b. lies_in (pos 0) (pos 100000) (range_in (if b then Some metres else None))) e in (
        (number_in false document none (codes "rules") (codes "safe_head_on") 0 100000 lies).1,
        (number_in false document none (codes "rules") (codes "safe_overtaking") 0 100000 lies).1,
        (number_in false document none (codes "rules") (codes "safe_crossing") 0 100000 lies).1,
        (number_in false document none (codes "rules") (codes "safe_other") 0 100000 lies).1,
      )
  safe_in_range false e =
      let lies = ap (λ b. lies_in (pos 0) (pos 100000) (range_in (if not b then Some metres else None))) e in
      (number_in false document none (codes "rules") (codes "safe") 0 100000 lies).1

  pub rule_numbers_in_range : AreRuleNumbers (tick_of document) (rule_numbers_of document)
  unfolding rule_numbers_of safe_of kind_at first_rows
  rule_numbers_in_range = record {
    is_tick = (one_le_tick document, tick_le_60 document);
    safe = safe_in_range (is_version_two document) refl;
    overtake = (number_in false document none (codes "rules") (codes "overtake") 0 100000 refl).1;
    close = (number_in false document none (codes "rules") (codes "close") 0 100000 refl).1;
    t8 = record { few = (number_in false document none (codes "rules") (codes "t8") 0 7200 refl).1; whole = multiple_at false document none (codes "rules") (codes "t8") 7200 refl refl };
    ta = record { few = (number_in false document none (codes "rules") (codes "ta") 0 7200 refl).1; whole = multiple_at false document none (codes "rules") (codes "ta") 7200 refl refl };
    tl = record { few = (number_in false document none (codes "rules") (codes "tl") 0 7200 refl).1; whole = multiple_at false document none (codes "rules") (codes "tl") 7200 refl refl };
    tw = record { few = (number_in false document none (codes "rules") (codes "tw") 0 7200 refl).1; whole = multiple_at false document none (codes "rules") (codes "tw") 7200 refl refl };
    te = record { few = (number_in false document none (codes "rules") (codes "te") 0 7200 refl).1; whole = multiple_at false document none (codes "rules") (codes "te") 7200 refl refl };
  }

  pub few_formulas : length (formula_tables document) ≤ 5
  unfolding formula_tables kind_at first_rows
  few_formulas = tables_held false document (codes "") (codes "formula") 5 refl none
