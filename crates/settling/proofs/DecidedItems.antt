-- Rows or alarms, each decided with some tick: what the settled ticks say of them stays, and those that are decided are a front of all.
use Rattle.std.proofs.Common.{◌≡◌, ℕ, ◌<◌, ◌≤◌, List, ◌++◌, length, map, sym, arith}
use Rattle.std.specs.Prelude.{◌↔◌}
use Rattle.std.specs.List.{Contains}
use Rattle.std.specs.List.Sorted.{IsStrictlySortedBy}
use Rattle.std.specs.Cmp.{IsTotalOrder}
use Rattle.std.specs.declared.cmp.Ordering.{Ordering}
use Rattle.std.specs.declared.cmp.Ordering.TheVariants.{Less}
use Rattle.log_lines.specs.SentLines.{sent}
use Rattle.scenario_values.specs.declared.values.Scenario.{Scenario}
use Rattle.settled_ticks.specs.Settled.{IsSettled}
use Rattle.settled_ticks.specs.Sightings.{seen_first, sighted}
use Rattle.settled_ticks.proofs.ForCallers.{settled_ticks_are_first}
use Rattle.traces.specs.Audited.{Sighting, sighting_at}
use Rattle.settling.proofs.Fronts.{front}
use Rattle.settling.proofs.Seen.{first_count, first_seen, settled_seen, sighted_count}

-- Whether something is an item depends on the ticks alone up to the one that decides it.
abbrev pub LooksUpTo : {X : Type 0} → (List Sighting → X → Type 0) → (X → ℕ) → Type 0
LooksUpTo {X} Is decided_at =
    (ticks others : List Sighting) (x : X) → decided_at x < length ticks → decided_at x < length others
    → ((k : ℕ) → k ≤ decided_at x → sighting_at ticks k ≡ sighting_at others k) → Is ticks x → Is others x

module _ (scenario : Scenario) {X : Type 0} (Is : List Sighting → X → Type 0) (decided_at : X → ℕ) (looks : LooksUpTo Is decided_at) where
  -- ---- with more lines

  module _ (lines more : List (List ℕ)) (x : X) (h : IsSettled scenario lines (decided_at x)) where
    stays : Is (sighted scenario (sent scenario lines)) x → Is (sighted scenario (sent scenario (lines ++ more))) x
    stays is =
        let within = h.within in
        let count = sighted_count scenario (sent scenario lines) in
        let other_count = sighted_count scenario (sent scenario (lines ++ more)) in
        looks (sighted scenario (sent scenario lines)) (sighted scenario (sent scenario (lines ++ more))) x (omega arith) (omega arith)
        (λ k le. sym (settled_seen scenario lines more k (settled_ticks_are_first scenario lines (decided_at x) k h le))) is

    was : Is (sighted scenario (sent scenario (lines ++ more))) x → Is (sighted scenario (sent scenario lines)) x
    was is =
        let within = h.within in
        let count = sighted_count scenario (sent scenario lines) in
        let other_count = sighted_count scenario (sent scenario (lines ++ more)) in
        looks (sighted scenario (sent scenario (lines ++ more))) (sighted scenario (sent scenario lines)) x (omega arith) (omega arith)
        (λ k le. settled_seen scenario lines more k (settled_ticks_are_first scenario lines (decided_at x) k h le)) is

  -- ---- by the first ticks

  module _ (lines : List (List ℕ)) (s : ℕ) (x : X) (h : IsSettled scenario lines (decided_at x)) (lt : decided_at x < s) where
    agree : (k : ℕ) → k ≤ decided_at x → sighting_at (seen_first scenario (sent scenario lines) s) k ≡ sighting_at (sighted scenario (sent scenario lines)) k
    agree k le = let within = h.within in first_seen scenario (sent scenario lines) s k (omega arith) (omega arith)

    pub by_all : Is (seen_first scenario (sent scenario lines) s) x → Is (sighted scenario (sent scenario lines)) x
    by_all is =
        let within = h.within in
        let count = first_count scenario (sent scenario lines) s in
        let other_count = sighted_count scenario (sent scenario lines) in
        looks (seen_first scenario (sent scenario lines) s) (sighted scenario (sent scenario lines)) x (omega arith) (omega arith) agree is

    pub by_first : Is (sighted scenario (sent scenario lines)) x → Is (seen_first scenario (sent scenario lines) s) x
    by_first is =
        let within = h.within in
        let count = first_count scenario (sent scenario lines) s in
        let other_count = sighted_count scenario (sent scenario lines) in
        looks (sighted scenario (sent scenario lines)) (seen_first scenario (sent scenario lines) s) x (omega arith) (omega arith) (λ k le. sym (agree k le)) is

  -- ---- a front

  -- The decided ones are a front of all in order that are items by more lines and that have them.
  module _ {K : Type 0} (cmp : K → K → Ordering) (total : IsTotalOrder cmp) (place : X → K) (no_later : (x y : X) → cmp (place y) (place x) ≡ Less → decided_at y ≤ decided_at x)
      (lines more : List (List ℕ)) (items all : List X)
      (each : (x : X) → Contains items x ↔ (Is (sighted scenario (sent scenario lines)) x × IsSettled scenario lines (decided_at x)))
      (sorted : IsStrictlySortedBy cmp (map place items)) (all_sorted : IsStrictlySortedBy cmp (map place all))
      (held : (x : X) → Is (sighted scenario (sent scenario (lines ++ more))) x → IsSettled scenario lines (decided_at x) → Contains all x)
      (are : (x : X) → Contains all x → Is (sighted scenario (sent scenario (lines ++ more))) x) where
    inside : (x : X) → Contains items x → Contains all x
    inside x i = let is = (each x).0 i in held x (stays lines more x is.1 is.0) is.1

    pub begin_all : (rest : List X) × (all ≡ items ++ rest)
    begin_all =
        front cmp total place items all sorted all_sorted inside (λ x y i j before.
        let settled : IsSettled scenario lines (decided_at y) = settled_ticks_are_first scenario lines (decided_at x) (decided_at y) ((each x).0 i).1 (no_later x y before) in
        (each y).1 (was lines more y settled (are y j), settled))
