-- How far a vessel moves from one tick to the next.
use Rattle.std.proofs.Common.{◌≡◌, ℕ, ◌+◌, ◌-◌, ◌*◌, ◌^◌, ◌<◌, ◌≤◌, inl, inr, List, [], ℤ, ◌-ℤ◌, unsigned_abs, refl, ap, subst, sym, arith, Some, None}
use Rattle.std.specs.Prelude.{Option}
use Rattle.std.specs.Option.{option_copied}
use Rattle.std.proofs.lemmas.Bool.{cases_lt}
use Rattle.std.proofs.lemmas.Bool.Decides.{nat_tests}
use Rattle.std.proofs.lemmas.Int.{ints}
use Rattle.std.proofs.Math.Nat.{add-mul}
use Rattle.fixed_geometry.specs.Sizes.{IsBelow, IsWithin}
use Rattle.fixed_geometry.specs.declared.point.Point.{Point}
use Rattle.meetings.specs.Traces.{IsShortMove}
use Rattle.motion.specs.Displacement.{displacement}
use Rattle.motion.specs.TickStates.{state_at}
use Rattle.motion.specs.declared.leg.Leg.{Leg}
use Rattle.motion.specs.declared.leg.TickState.{TickState}
use Rattle.plan_situations.specs.Prediction.{point_after, predicted_state}
use Rattle.predictions.specs.declared.changes.Change.{Change}
use Rattle.scenario_values.specs.Ticks.{window_end, time_of_tick}
use Rattle.scenario_values.specs.declared.values.Window.{Window}
use Rattle.tracks.specs.declared.accepted.Accepted.{Accepted}
use Rattle.plan_situations.specs.KnownStates.{known_state}
use Rattle.plan_situations.specs.Inner.Facts.{IsFresh, IsTrack, known_at, legs_known, predicted_at}
use Rattle.plan_situations.specs.declared.track.KnownTrack.{KnownTrack}

-- ---- what is known, before and from the latest report on

pub known_before : (latest : Accepted) (legs : List Leg) (changes : List Change) (now time : ℕ) → time < latest.time
    → known_state latest legs changes now time ≡ state_at time legs
known_before latest legs changes now time lt = grind (arith, nat_tests)

pub known_from : (latest : Accepted) (legs : List Leg) (changes : List Change) (now time : ℕ) → latest.time ≤ time
    → known_state latest legs changes now time ≡ Some (predicted_state latest changes now time)
known_from latest legs changes now time le = grind (arith, nat_tests)

-- ---- two moves make one

both_ways : (a b c : ℤ) (m n bound : ℕ) → unsigned_abs (b -ℤ a) ≤ m → unsigned_abs (c -ℤ b) ≤ n → m + n < bound → unsigned_abs (c -ℤ a) < bound
both_ways a b c m n bound h k l = omega (arith, ints)

pub through : (a b c : Point) (m n : ℕ) → IsWithin m (displacement a b) → IsWithin n (displacement b c) → m + n < 2 ^ 25 → IsBelow (2 ^ 25) (displacement a c)
through a b c m n h k l = record { x = both_ways a.x b.x c.x m n (2 ^ 25) h.x k.x l; y = both_ways a.y b.y c.y m n (2 ^ 25) h.y k.y l }

pub at_once : (a c : Point) (m : ℕ) → IsWithin m (displacement a c) → m < 2 ^ 25 → IsBelow (2 ^ 25) (displacement a c)
at_once a c m h l = let x = h.x in let y = h.y in record { x = omega arith; y = omega arith }

-- ---- from one tick to the next

one_seen : (o : Option TickState) (after : TickState) → ((before : TickState) → o ≡ Some before → IsBelow (2 ^ 25) (displacement before.point after.point)) → IsShortMove o (Some after)
one_seen None after h = tt
one_seen (Some before) after h = h before refl

two_seen : (o p : Option TickState) → ((before after : TickState) → o ≡ Some before → p ≡ Some after → IsBelow (2 ^ 25) (displacement before.point after.point)) → IsShortMove o p
two_seen None p h = tt
two_seen (Some before) None h = tt
two_seen (Some before) (Some after) h = h before after refl refl

-- she starts from her latest report
pub starts : (latest : Accepted) (changes : List Change) (now : ℕ) → (predicted_state latest changes now latest.time).point ≡ latest.point
unfolding predicted_state point_after
starts latest changes now =
    let none : latest.time - latest.time ≡ 0 = omega arith in
    ap (point_after latest changes now) none

module _ (track : KnownTrack) (is : IsTrack track) (earlier tick : ℕ) (next : tick ≡ earlier + 1) where
  abbrev Was : ℕ
  Was = time_of_tick track.window earlier

  abbrev Is : ℕ
  Is = time_of_tick track.window tick

  a_tick_later : Is ≡ Was + track.window.tick
  a_tick_later = later track.window.start track.window.tick earlier tick next
    where
      later : (start length i j : ℕ) → j ≡ i + 1 → start + j * length ≡ (start + i * length) + length
      later start length i j e = let more : j * length ≡ i * length + length = subst (λ (n : ℕ). n * length ≡ i * length + length) (sym e) (omega arith) in omega arith

  -- to a predicted state
  pub to_predicted : (after : TickState) → track.latest.time ≤ Is
      → ((e : ℕ) → track.latest.time ≤ e → e ≤ Is → IsWithin ((Is - e) * 525763) (displacement (predicted_state track.latest track.changes.now (window_end track.window) e).point after.point))
      → IsShortMove (known_at track earlier) (Some after)
  to_predicted after from moves =
      let minute = is.window.tick_to in
      let later = a_tick_later in
      let legs = legs_known (option_copied track.legs) in
      elim (cases_lt Was track.latest.time) [
        | inl lt ↦ (let latest-here = subst (λ (p : Point). IsWithin ((Is - track.latest.time) * 525763) (displacement p after.point)) (starts track.latest track.changes.now (window_end track.window)) (moves track.latest.time (omega arith) from) in
            subst (λ (o : Option TickState). IsShortMove o (Some after)) (sym (known_before track.latest legs track.changes.now (window_end track.window) Was lt))
            (one_seen (state_at Was legs) after (λ before seen.
            through before.point track.latest.point after.point ((track.latest.time - Was) * 525763 + 2) ((Is - track.latest.time) * 525763)
            (is.comes Was before lt (omega arith) seen) latest-here (near Was track.latest.time Is track.window.tick lt from later minute))))
        | inr ge ↦ subst (λ (o : Option TickState). IsShortMove o (Some after)) (sym (known_from track.latest legs track.changes.now (window_end track.window) Was ge))
            (at_once (predicted_state track.latest track.changes.now (window_end track.window) Was).point after.point ((Is - Was) * 525763) (moves Was ge (omega arith)) (soon Was Is track.window.tick later minute))
      ]
    where
      near : (t l u length : ℕ) → t < l → l ≤ u → u ≡ t + length → length ≤ 60 → ((l - t) * 525763 + 2) + (u - l) * 525763 < 2 ^ 25
      near t l u length a b c d = omega arith

      soon : (t u length : ℕ) → u ≡ t + length → length ≤ 60 → (u - t) * 525763 < 2 ^ 25
      soon t u length a b = omega arith

  -- on her legs
  pub on_legs : Is < track.latest.time → IsShortMove (known_at track earlier) (state_at Is (legs_known (option_copied track.legs)))
  on_legs lt =
      let minute = is.window.tick_to in
      let later = a_tick_later in
      let legs = legs_known (option_copied track.legs) in
      subst (λ (o : Option TickState). IsShortMove o (state_at Is legs)) (sym (known_before track.latest legs track.changes.now (window_end track.window) Was (omega arith)))
      (two_seen (state_at Was legs) (state_at Is legs) (λ before after was now.
      at_once before.point after.point ((Is - Was) * 525763 + 2) (is.moves Was Is before after (omega arith) (omega arith) was now) (soon Was Is track.window.tick later minute)))
    where
      soon : (t u length : ℕ) → u ≡ t + length → length ≤ 60 → (u - t) * 525763 + 2 < 2 ^ 25
      soon t u length a b = omega arith

-- ---- where she is at now

within : (p q : ℤ) (a b : ℕ) → unsigned_abs p ≤ a → unsigned_abs (q -ℤ p) ≤ b → unsigned_abs q ≤ a + b
within p q a b h k = omega (arith, ints)

pub reached : (latest : Accepted) (now : ℕ) (p : Point) → IsWithin 2222400000 latest.point → IsFresh now latest
    → IsWithin ((now - latest.time) * 525763) (displacement (predicted_state latest [] now latest.time).point p) → IsWithin (2222400000 + 3600 * 525763) p
reached latest now p near fresh moved =
    let here = subst (λ (q : Point). IsWithin ((now - latest.time) * 525763) (displacement q p)) (starts latest [] now) moved in
    let hour = fresh.fresh in
    let x = within latest.point.x p.x 2222400000 ((now - latest.time) * 525763) near.x here.x in
    let y = within latest.point.y p.y 2222400000 ((now - latest.time) * 525763) near.y here.y in
    record { x = omega arith; y = omega arith }

-- ---- without legs, and after now

pub none_seen : (time : ℕ) → state_at time [] ≡ None
unfolding state_at
none_seen time = refl

pub later_tick : (window : Window) (k : ℕ) → window_end window ≤ time_of_tick window (window.ticks + k)
later_tick window k = let more : (window.ticks + k) * window.tick ≡ window.ticks * window.tick + k * window.tick = add-mul window.ticks k window.tick in omega (arith, more)

-- what is known of her after now is what is predicted
pub known_ahead : (track : KnownTrack) → IsTrack track → (k : ℕ) → known_at track (track.window.ticks + k) ≡ Some (predicted_at track k)
known_ahead track is k =
    let before = is.fresh.before in
    let later = later_tick track.window k in
    known_from track.latest (legs_known (option_copied track.legs)) track.changes.now (window_end track.window) (time_of_tick track.window (track.window.ticks + k)) (omega arith)
