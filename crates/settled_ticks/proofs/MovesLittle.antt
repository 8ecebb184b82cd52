-- The vessels that are seen at two ticks, one after the other, have moved little.
use Rattle.std.proofs.Common.{ℕ, zero, suc, ◌≡◌, ◌+◌, ◌-◌, ◌*◌, ◌≤◌, ◌^◌, true, false, cond, Bool, List, [], ◌∷◌, ◌++◌, length, get_or, refl, sym, ap, subst, ◌∙◌, arith}
use Rattle.std.proofs.Math.Nat.{suc-mul}
use Rattle.std.proofs.lemmas.Bool.Decides.{nat_tests}
use Rattle.std.proofs.lemmas.List.{length-append}
use Rattle.std.proofs.lemmas.List.FromFn.{map-range_with_len_more}
use Rattle.std.specs.Prelude.{Option, Some, None, ◌==◌}
use Rattle.std.specs.List.{Contains, find}
use Rattle.std.specs.Option.{option_map}
use Rattle.fixed_geometry.specs.Sizes.{IsBelow}
use Rattle.motion.specs.Displacement.{displacement}
use Rattle.motion.specs.declared.leg.TickState.{TickState}
use Rattle.meetings.specs.Traces.{IsShortMove}
use Rattle.traces.specs.Audited.{MoveLittle, SeenVessels, Sighting, last_sighting, nothing_seen, state_in}
use Rattle.log_lines.specs.JudgedLines.{numbers_of}
use Rattle.scenario_values.specs.ValueRanges.{IsInRange}
use Rattle.scenario_values.specs.Ticks.{time_of_tick}
use Rattle.scenario_values.specs.declared.values.Scenario.{Scenario}
use Rattle.settled_ticks.specs.Sightings.{seen_first, sighting_by}
use Rattle.settled_ticks.proofs.RankedVessels.{vessels_by}
use Rattle.tracks.specs.AcceptedReports.{JudgingNumbers}
use Rattle.tracks.specs.SeenVessels.{seen_in}
use Rattle.tracks.specs.Standing.{BookValue, Remembers, StandsFor as BookStandsFor}
use Rattle.tracks.specs.VesselsHeld.{Sent}
use Rattle.tracks.proofs.ForCallers.{seen_in-is}

-- ---- from one sighting to the next

here : (v : ℕ × TickState) (vs : SeenVessels) (mmsi : ℕ) (state : TickState) → v.0 ≡ mmsi → v.1 ≡ state → Contains (v ∷ vs) (mmsi, state)
here v vs mmsi state p q = subst (λ (w : ℕ × TickState). Contains (v ∷ vs) w) (λ i. (p i, q i)) (0, omega arith, refl)

later : (v : ℕ × TickState) (vs : SeenVessels) (w : ℕ × TickState) → Contains vs w → Contains (v ∷ vs) w
later v vs w h = (suc h.0, (let lt = h.1 in omega arith), h.2)

-- a vessel whose state there is is among those seen
among : (seen : SeenVessels) (mmsi : ℕ) (state : TickState) → state_in mmsi seen ≡ Some state → Contains seen (mmsi, state)
among [] mmsi state is = cc is
among (v ∷ vs) mmsi state is =
    elim (v.0 == mmsi) as (λ (b : Bool). (v.0 == mmsi) ≡ b → option_map (λ (w : ℕ × TickState). w.1) (cond b (Some v) (find (λ (w : ℕ × TickState). w.0 == mmsi) vs)) ≡ Some state
    → Contains (v ∷ vs) (mmsi, state)) [
      | true ↦ λ test found. here v vs mmsi state (grind (arith, nat_tests, test)) (cc found)
      | false ↦ λ test found. later v vs (mmsi, state) (among vs mmsi state found)
    ] refl is

little : (earlier now : SeenVessels)
    → ((mmsi : ℕ) (before after : TickState) → Contains earlier (mmsi, before) → Contains now (mmsi, after) → IsBelow (2 ^ 25) (displacement before.point after.point))
    → MoveLittle earlier now
little earlier now law mmsi = both (state_in mmsi earlier) (state_in mmsi now) refl refl
  where
    both : (a b : Option TickState) → state_in mmsi earlier ≡ a → state_in mmsi now ≡ b → IsShortMove a b
    both (Some before) (Some after) p q = law mmsi before after (among earlier mmsi before p) (among now mmsi after q)
    both (Some before) None p q = tt
    both None b p q = tt

-- None is seen before the first tick.
little_first : (now : SeenVessels) → MoveLittle [] now
little_first now mmsi = tt

-- ---- the last of the first ticks

pub first_push : (scenario : Scenario) (messages : List Sent) (k : ℕ)
    → seen_first scenario messages k ++ sighting_by scenario messages k ∷ [] ≡ seen_first scenario messages (k + 1)
first_push scenario messages k = sym (map-range_with_len_more (sighting_by scenario messages) 0 k k (omega arith))

at_end : (ticks : List Sighting) (seen : Sighting) → get_or (ticks ++ seen ∷ []) (length ticks) nothing_seen ≡ seen
at_end [] seen = refl
at_end (t ∷ ts) seen = at_end ts seen

last_is : (ticks : List Sighting) (seen : Sighting) → last_sighting (ticks ++ seen ∷ []) ≡ seen
last_is ticks seen =
    let e = length-append ticks (seen ∷ []) in
    let at : length (ticks ++ seen ∷ []) - 1 ≡ length ticks = omega arith in
    ap (λ (k : ℕ). get_or (ticks ++ seen ∷ []) k nothing_seen) at ∙ at_end ticks seen

last_seen : (scenario : Scenario) (messages : List Sent) (k : ℕ)
    → last_sighting (seen_first scenario messages (suc k)) ≡ sighting_by scenario messages k
last_seen scenario messages k =
    let next : k + 1 ≡ suc k = omega arith in
    ap last_sighting (sym (first_push scenario messages k ∙ ap (seen_first scenario messages) next)) ∙ last_is (seen_first scenario messages k) _

-- ---- from tick to tick

next_time : (start k tick : ℕ) → start + suc k * tick ≡ start + k * tick + tick
next_time start k tick = let more : suc k * tick ≡ k * tick + tick = suc-mul k tick in omega (arith, more)

-- what a book says of vessels that are seen at two times
abbrev pub MovesLittleIn : BookValue → Type 0
MovesLittleIn book = (t u mmsi : ℕ) (before after : TickState) → t ≤ u → u ≤ t + 60 → u ≤ t + book.numbers.gap
    → Contains (seen_in book t) (mmsi, before) → Contains (seen_in book u) (mmsi, after) → IsBelow (2 ^ 25) (displacement before.point after.point)

-- The vessels of the latest tick move little to the next.
pub moves_on : (book : BookValue) (scenario : Scenario) (messages : List Sent) (next : ℕ) (latest seen : SeenVessels) → MovesLittleIn book → IsInRange scenario
    → Remembers book.keeping (time_of_tick scenario.window (next - 1)) → BookStandsFor book (numbers_of scenario) messages → latest ≡ (last_sighting (seen_first scenario messages next)).vessels
    → seen ≡ seen_in book (time_of_tick scenario.window next) → MoveLittle latest seen
moves_on book scenario messages zero latest seen law range remembers stands was is = subst (λ (s : SeenVessels). MoveLittle s seen) (sym was) (little_first seen)
moves_on book scenario messages (suc k) latest seen law range remembers stands was is =
    let window = scenario.window in
    let gap : book.numbers.gap ≡ scenario.log.gap = ap (λ (n : JudgingNumbers). n.gap) stands.by in
    let tick = range.log.gap_from in
    let minute = range.window.tick_to in
    let next = next_time window.start k window.tick in
    let before : Remembers book.keeping (time_of_tick window k) = subst (λ (n : ℕ). Remembers book.keeping (time_of_tick window n)) (omega arith) remembers in
    let earlier : latest ≡ seen_in book (time_of_tick window k) =
    was ∙ ap (λ (s : Sighting). s.vessels) (last_seen scenario messages k) ∙ vessels_by scenario messages k
    ∙ sym (seen_in-is book (numbers_of scenario) messages (time_of_tick window k) before stands) in
    let step = little (seen_in book (time_of_tick window k)) (seen_in book (time_of_tick window (suc k)))
    (λ mmsi before after i j. law (time_of_tick window k) (time_of_tick window (suc k)) mmsi before after (omega (arith, next)) (omega (arith, next, minute)) (omega (arith, next, gap, tick)) i j) in
    subst (λ (s : SeenVessels). MoveLittle s seen) (sym earlier) (subst (MoveLittle (seen_in book (time_of_tick window k))) (sym is) step)
