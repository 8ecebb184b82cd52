-- Where a vessel is seen at a tick hangs on her legs alone, and which rank she has on her reports and the ship types told of her.
use Rattle.std.proofs.Common.{◌≡◌, ◌≢◌, ℕ, zero, suc, ◌+◌, ◌==◌, ◌<◌, ◌⊎◌, inl, inr, Bool, true, false, List, [], ◌∷◌, length, get_or, map, refl, sym, ap, ◌∙◌, arith}
use Rattle.std.specs.Prelude.{Option, Some, None, unwrap_or}
use Rattle.std.specs.List.{Contains, cons_option, filter_map, range_with_len, zip}
use Rattle.std.specs.Map.{lookup}
use Rattle.std.specs.Option.{option_map}
use Rattle.std.proofs.lemmas.Bool.Decides.{nat_tests}
use Rattle.motion.specs.TickStates.{state_at}
use Rattle.motion.specs.declared.leg.Leg.{Leg}
use Rattle.motion.specs.declared.leg.TickState.{TickState}
use Rattle.log_lines.specs.JudgedLines.{numbers_of}
use Rattle.log_lines.specs.LogLines.{lines_of}
use Rattle.log_lines.specs.SentLines.{sent}
use Rattle.log_lines.specs.ShipTypes.{noted}
use Rattle.outside.proofs.Members.{in_cons, in_none}
use Rattle.ranks.specs.VesselRanks.{Note, rank_at, rank_by_report, rank_by_type, report_at}
use Rattle.ranks.specs.declared.rank.Rank.{Rank}
use Rattle.ranks.specs.declared.rank.Rank.TheVariants.{Power}
use Rattle.scenario_values.specs.Ticks.{time_of_tick}
use Rattle.scenario_values.specs.declared.values.Scenario.{Scenario}
use Rattle.sessions.specs.AuditReport.{sightings_of}
use Rattle.settled_ticks.specs.Sightings.{ranks_of, sighting_by, vessel_rank}
use Rattle.tracks.specs.AcceptedReports.{JudgingNumbers}
use Rattle.tracks.specs.SeenVessels.{seen_of, seen_vessel}
use Rattle.tracks.specs.VesselsHeld.{Sent, accepted_of, held_of, is_held, legs_of}
use Rattle.tracks.specs.declared.accepted.Accepted.{Accepted}
use Rattle.tracks.proofs.Ascending.{Contains_from_among}
use Rattle.tracks.proofs.Holding.{held_among, no_points}
use Rattle.laws.proofs.SameLegs.{by_test}
use Rattle.traces.specs.Audited.{SeenVessels, Sighting, nothing_seen, rank_in, seen_state_at, sighting_at, state_in}

same_or_other : (m n : ℕ) → (m ≡ n) ⊎ (m ≢ n)
same_or_other m n = grind arith

-- ---- a vessel among those that are seen

hit : (m k : ℕ) (o : Option TickState) (rest : SeenVessels) → k ≡ m → (o ≡ None → state_in m rest ≡ None)
    → state_in m (cons_option (option_map (λ (s : TickState). (k, s)) o) rest) ≡ o
hit m k None rest e none = none refl
hit m k (Some s) rest e none = let same : (k == m) ≡ true = grind (arith, nat_tests) in rw same refl

miss : (m k : ℕ) (o : Option TickState) (rest : SeenVessels) → k ≢ m → state_in m (cons_option (option_map (λ (s : TickState). (k, s)) o) rest) ≡ state_in m rest
miss m k None rest ne = refl
miss m k (Some s) rest ne = let other : (k == m) ≡ false = grind (arith, nat_tests) in rw other refl

state_among : (time : ℕ) (legs : ℕ → List Leg) (ms : List ℕ) (m : ℕ) → Contains ms m ⊎ (state_at time (legs m) ≡ None)
    → state_in m (filter_map (seen_vessel time legs) ms) ≡ state_at time (legs m)
state_among time legs [] m (inl i) = in_none m i
state_among time legs [] m (inr none) = sym none
state_among time legs (k ∷ ms) m h =
    elim (same_or_other k m) [
      | inl same ↦ (let here : state_at time (legs k) ≡ state_at time (legs m) = ap (λ (n : ℕ). state_at time (legs n)) same in
          hit m k (state_at time (legs k)) (filter_map (seen_vessel time legs) ms) same
          (λ none. state_among time legs ms m (inr (sym here ∙ none)) ∙ (sym here ∙ none))
          ∙ here)
      | inr other ↦ miss m k (state_at time (legs k)) (filter_map (seen_vessel time legs) ms) other
          ∙ state_among time legs ms m (elim h [
            | inl i ↦ elim (in_cons k ms m i) [ inl is ↦ absurd (other is) | inr later ↦ inl later ]
            | inr none ↦ inr none
          ])
    ]

-- A vessel that is not held has no legs.
unseen : (numbers : JudgingNumbers) (messages : List Sent) (time m : ℕ) → is_held numbers messages m ≡ false → state_at time (legs_of numbers messages m) ≡ None
unfolding legs_of state_at
unseen numbers messages time m e = rw (no_points numbers messages m e) refl

seen_by_legs : (numbers : JudgingNumbers) (messages : List Sent) (time m : ℕ) → state_in m (seen_of numbers messages time) ≡ state_at time (legs_of numbers messages m)
unfolding seen_of
seen_by_legs numbers messages time m =
    state_among time (legs_of numbers messages) (held_of numbers messages) m
    (by_test (is_held numbers messages m)
    (λ e. inl (Contains_from_among m (held_of numbers messages) (held_among numbers messages m e)))
    (λ e. inr (unseen numbers messages time m e)))

-- ---- her rank

ranked : (m : ℕ) (rank : ℕ → Rank) (vessels : SeenVessels)
    → lookup (λ k. k == m) (zip (map (λ (vessel : ℕ × TickState). vessel.0) vessels) (map (λ (vessel : ℕ × TickState). rank vessel.0) vessels))
    ≡ option_map (λ (s : TickState). rank m) (state_in m vessels)
ranked m rank [] = refl
ranked m rank (v ∷ vessels) =
    elim (same_or_other v.0 m) [
      | inl is ↦ (let e : (v.0 == m) ≡ true = grind (arith, nat_tests) in rw e (ap (λ (k : ℕ). Some (rank k)) is))
      | inr other ↦ (let e : (v.0 == m) ≡ false = grind (arith, nat_tests) in rw e (ranked m rank vessels))
    ]

unranked : (m : ℕ) (keys : List ℕ) → lookup {X = Rank} (λ k. k == m) (zip keys []) ≡ None
unranked m [] = refl
unranked m (k ∷ keys) = refl

-- the rank that a vessel has where she is seen so
unfoldable pub rank_where : Bool → Rank → Option TickState → Rank
rank_where true rank state = unwrap_or (option_map (λ (s : TickState). rank) state) Power
rank_where false rank state = Power

pub same_rank : (noted others : List Note) (m time : ℕ) (points : List Accepted) → rank_by_type noted m time ≡ rank_by_type others m time → rank_at noted m points time ≡ rank_at others m points time
unfolding rank_at
same_rank noted others m time points e = ap (rank_by_report (report_at points time)) e

-- The rank counts only where ranks do, and where she is seen.
pub same_where : (counts : Bool) (rank other : Rank) (state : Option TickState) → (counts ≡ true → (seen : TickState) → state ≡ Some seen → rank ≡ other)
    → rank_where counts rank state ≡ rank_where counts other state
unfolding rank_where
same_where true rank other None e = refl
same_where true rank other (Some seen) e = e refl seen refl
same_where false rank other state e = refl

-- ---- at a tick

ranked_by : (scenario : Scenario) (messages : List Sent) (time m : ℕ) (vessels : SeenVessels) (counts : Bool) → scenario.ranks ≡ counts
    → rank_in m (record { vessels = vessels; ranks = ranks_of scenario messages time vessels })
    ≡ rank_where counts (rank_at (noted messages) m (accepted_of (numbers_of scenario) messages m) time) (state_in m vessels)
unfolding vessel_rank rank_where
ranked_by scenario messages time m vessels true e =
    rw e (ap (λ (o : Option Rank). unwrap_or o Power)
    (ranked m (λ k. rank_at (noted messages) k (accepted_of (numbers_of scenario) messages k) time) vessels))
ranked_by scenario messages time m vessels false e =
    rw e (ap (λ (o : Option Rank). unwrap_or o Power) (unranked m (map (λ (vessel : ℕ × TickState). vessel.0) vessels)))

module _ (scenario : Scenario) (messages : List Sent) (k m : ℕ) where
  pub state_by : state_in m (sighting_by scenario messages k).vessels ≡ state_at (time_of_tick scenario.window k) (legs_of (numbers_of scenario) messages m)
  unfolding sighting_by
  state_by = seen_by_legs (numbers_of scenario) messages (time_of_tick scenario.window k) m

  pub rank_by : rank_in m (sighting_by scenario messages k)
      ≡ rank_where scenario.ranks (rank_at (noted messages) m (accepted_of (numbers_of scenario) messages m) (time_of_tick scenario.window k))
      (state_at (time_of_tick scenario.window k) (legs_of (numbers_of scenario) messages m))
  unfolding sighting_by
  rank_by =
      ranked_by scenario messages (time_of_tick scenario.window k) m (seen_of (numbers_of scenario) messages (time_of_tick scenario.window k)) scenario.ranks refl
      ∙ ap (rank_where scenario.ranks (rank_at (noted messages) m (accepted_of (numbers_of scenario) messages m) (time_of_tick scenario.window k)))
      (seen_by_legs (numbers_of scenario) messages (time_of_tick scenario.window k) m)

-- ---- of a log

mapped_at : {A : Type 0} (f : ℕ → A) (i count k : ℕ) (d : A) → k < count → get_or (map f (range_with_len i count)) k d ≡ f (i + k)
mapped_at f i zero k d lt = absurd (omega arith)
mapped_at f i (suc count) zero d lt = let same : i ≡ i + 0 = omega arith in ap f same
mapped_at f i (suc count) (suc k) d lt = let same : (i + 1) + k ≡ i + suc k = omega arith in mapped_at f (i + 1) count k d (omega arith) ∙ ap f same

mapped_length : {A : Type 0} (f : ℕ → A) (i count : ℕ) → length (map f (range_with_len i count)) ≡ count
mapped_length f i zero = refl
mapped_length f i (suc count) = ap suc (mapped_length f (i + 1) count)

module _ (scenario : Scenario) (log : List ℕ) where
  pub sightings_length : length (sightings_of scenario log) ≡ scenario.window.ticks + 1
  unfolding sightings_of
  sightings_length = mapped_length (sighting_by scenario (sent scenario (lines_of log))) 0 (scenario.window.ticks + 1)

  pub sighting_is : (k : ℕ) → k < scenario.window.ticks + 1 → sighting_at (sightings_of scenario log) k ≡ sighting_by scenario (sent scenario (lines_of log)) k
  unfolding sightings_of
  sighting_is k lt =
      let same : 0 + k ≡ k = omega arith in
      mapped_at (sighting_by scenario (sent scenario (lines_of log))) 0 (scenario.window.ticks + 1) k nothing_seen lt
      ∙ ap (sighting_by scenario (sent scenario (lines_of log))) same

  pub seen_state : (k m : ℕ) → k < scenario.window.ticks + 1
      → seen_state_at (sightings_of scenario log) m k ≡ state_at (time_of_tick scenario.window k) (legs_of (numbers_of scenario) (sent scenario (lines_of log)) m)
  seen_state k m lt = ap (λ (s : Sighting). state_in m s.vessels) (sighting_is k lt) ∙ state_by scenario (sent scenario (lines_of log)) k m

  pub seen_rank : (k m : ℕ) → k < scenario.window.ticks + 1 → rank_in m (sighting_at (sightings_of scenario log) k)
      ≡ rank_where scenario.ranks
      (rank_at (noted (sent scenario (lines_of log))) m (accepted_of (numbers_of scenario) (sent scenario (lines_of log)) m) (time_of_tick scenario.window k))
      (state_at (time_of_tick scenario.window k) (legs_of (numbers_of scenario) (sent scenario (lines_of log)) m))
  seen_rank k m lt = ap (rank_in m) (sighting_is k lt) ∙ rank_by scenario (sent scenario (lines_of log)) k m
