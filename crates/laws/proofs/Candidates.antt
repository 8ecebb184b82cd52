-- Finite lists that have all pairs of vessels, steps and rules that an audit of some ticks can report.
use Rattle.std.proofs.Common.{ℕ, zero, suc, ◌≡◌, ◌<◌, Bool, true, false, List, [], ◌∷◌, length, map, inl, inr, refl, sym, subst, arith}
use Rattle.std.specs.Prelude.{Option, Some, None, IsSome, nat_eq, flat_map}
use Rattle.std.specs.List.{Contains}
use Rattle.std.proofs.lemmas.Bool.{cases_lt}
use Rattle.std.proofs.lemmas.Bool.Decides.{nat_tests}
use Rattle.std.proofs.lemmas.List.{get_or_past}
use Rattle.std.proofs.lemmas.List.Elements.{Contains-append_left, Contains-append_right, Contains-get_or}
use Rattle.meetings.specs.Traces.{AreInContact}
use Rattle.meetings.specs.declared.pair.Pair.{Pair}
use Rattle.motion.specs.declared.leg.TickState.{TickState}
use Rattle.outside.proofs.Members.{in_cons, in_head, in_none, in_tail}
use Rattle.traces.proofs.ForCallers.{in_map}
use Rattle.traces.specs.Audited.{AuditNumbers, Begins, SeenVessels, Sighting, nothing_seen, seen_state_at, sighting_at, state_in}

-- ---- numbers below a bound, and what a list gives for each of its elements

pub below : ℕ → List ℕ
below zero = []
below (suc n) = n ∷ below n

pub in_below : (n k : ℕ) → k < n → Contains (below n) k
unfolding below
in_below zero k lt = absurd (omega arith)
in_below (suc n) k lt = elim (cases_lt k n) [
  | inl less ↦ in_tail n (below n) k (in_below n k less)
  | inr ge ↦ (let same : n ≡ k = omega arith in subst (Contains (n ∷ below n)) same (in_head n (below n)))
]

module _ {X Y : Type 0} (f : X → List Y) where
  pub in_each : (xs : List X) (x : X) (y : Y) → Contains xs x → Contains (f x) y → Contains (flat_map f xs) y
  in_each [] x y i j = in_none x i
  in_each (z ∷ zs) x y i j = elim (in_cons z zs x i) [
    | inl same ↦ Contains-append_left (f z) (flat_map f zs) y (subst (λ (w : X). Contains (f w) y) (sym same) j)
    | inr later ↦ Contains-append_right (f z) (flat_map f zs) y (in_each zs x y later j)
  ]

-- ---- the vessels that are seen at some tick

abbrev mmsi_of : ℕ × TickState → ℕ
mmsi_of vessel = vessel.0

abbrev mmsis_in : Sighting → List ℕ
mmsis_in seen = map mmsi_of seen.vessels

seen_in : (m : ℕ) (seen : SeenVessels) → IsSome (state_in m seen) → Contains (map mmsi_of seen) m
seen_in m [] some = absurd (cc)
seen_in m (v ∷ vs) some = by (λ later. seen_in m vs later) (nat_eq v.0 m) refl
  where
    by : (IsSome (state_in m vs) → Contains (map mmsi_of vs) m) → (b : Bool) → nat_eq v.0 m ≡ b → Contains (v.0 ∷ map mmsi_of vs) m
    by rest true is = let same : v.0 ≡ m = grind (arith, nat_tests) in subst (Contains (v.0 ∷ map mmsi_of vs)) same (in_head v.0 (map mmsi_of vs))
    by rest false is = in_tail v.0 (map mmsi_of vs) m (rest (rw is at some))

module _ (ticks : List Sighting) where
  mmsis_seen : List ℕ
  mmsis_seen = flat_map mmsis_in ticks

  -- A vessel that is seen at a tick is one of them, and the tick is one of these.
  seen_at_tick : (m k : ℕ) → IsSome (seen_state_at ticks m k) → Contains mmsis_seen m × (k < length ticks)
  unfolding mmsis_seen
  seen_at_tick m k some = elim (cases_lt k (length ticks)) [
    | inl within ↦ (in_each mmsis_in ticks (sighting_at ticks k) m (Contains-get_or ticks k nothing_seen within) (seen_in m (sighting_at ticks k).vessels some), within)
    | inr past ↦ absurd (let none = subst (λ (s : Sighting). IsSome (state_in m s.vessels)) (get_or_past ticks k nothing_seen past) some in cc)
  ]

  pub pairs_seen : List Pair
  pairs_seen = flat_map (λ (subject : ℕ). map (λ (other : ℕ). record { subject = subject; other = other }) mmsis_seen) mmsis_seen

  pair_seen : (pair : Pair) → Contains mmsis_seen pair.subject → Contains mmsis_seen pair.other → Contains pairs_seen pair
  unfolding pairs_seen
  pair_seen pair i j =
      in_each (λ (subject : ℕ). map (λ (other : ℕ). record { subject = subject; other = other }) mmsis_seen) mmsis_seen pair.subject pair i
      (in_map (λ (other : ℕ). record { subject = pair.subject; other = other }) mmsis_seen pair.other j)

  both_seen : (watch : ℕ) (a b : Option TickState) → AreInContact watch a b → IsSome a × IsSome b
  both_seen watch None b h = absurd h
  both_seen watch (Some a) None h = absurd h
  both_seen watch (Some a) (Some b) h = (refl, refl)

  -- The pair of a trace is one of theirs, and it begins at one of these ticks.
  pub begun : (numbers : AuditNumbers) (pair : Pair) (start : ℕ) → Begins numbers ticks pair start → Contains pairs_seen pair × (start < length ticks)
  begun numbers pair start begins =
      let both = both_seen numbers.detect.watch (seen_state_at ticks pair.subject start) (seen_state_at ticks pair.other start) begins.begins.contact in
      let subject = seen_at_tick pair.subject start both.0 in
      let other = seen_at_tick pair.other start both.1 in
      (pair_seen pair subject.0 other.0, subject.1)
