-- The vessels seen at a time.
use Rattle.std.proofs.Common.{◌≡◌, ◌∙◌, ℕ, zero, suc, ◌+◌, ◌-◌, ◌*◌, ◌^◌, ◌<◌, ◌≤◌, true, false, nat_eq, List, [], ◌∷◌, ◌++◌, length, map, get_or, take, Some, None, refl, ap, arith}
use Rattle.std.specs.Prelude.{Option}
use Rattle.std.specs.List.{All, Contains, cons_option, filter_map}
use Rattle.std.specs.List.Sorted.{IsStrictlyIncreasing}
use Rattle.std.specs.Option.{option_map, option_to_list}
use Rattle.std.proofs.lemmas.Bool.Decides.{nat_tests}
use Rattle.std.proofs.lemmas.List.{take_all, take_more}
use Rattle.std.proofs.lemmas.List.Elements.{All-cons, All-contains, All-head, All-map, All-nil, All-tail, filter_map-append}
use Rattle.fixed_geometry.specs.Sizes.{IsBelow, IsWithin}
use Rattle.fixed_geometry.specs.declared.point.Point.{Point}
use Rattle.fixed_geometry.specs.Displacement.{displacement}
use Rattle.motion.specs.TickStates.{MovesLittle, state_at}
use Rattle.motion.specs.declared.leg.Leg.{Leg}
use Rattle.motion.specs.declared.leg.TickState.{TickState}
use Rattle.tracks.specs.AcceptedReports.{JudgingNumbers}
use Rattle.tracks.specs.SeenVessels.{seen_in, seen_of, seen_vessel}
use Rattle.tracks.specs.Standing.{BookValue, Remembers, StandsFor, VesselValue, legs_among, legs_in}
use Rattle.tracks.specs.VesselsHeld.{Sent, accepted_of, legs_of}
use Rattle.tracks.specs.Inner.AscendingNumbers.{Ascends}
use Rattle.tracks.proofs.Ascending.{ascends_lt}
use Rattle.tracks.proofs.KeptReports.{kept_legs-state}
use Rattle.tracks.proofs.Lasts.{cons_option-nil}
use Rattle.tracks.proofs.Rising.{accepted_in_order}
use Rattle.tracks.proofs.Settled.{legs_in-is}

-- ---- the vessel at an index

itself : (n : ℕ) → nat_eq n n ≡ true
itself n = grind (arith, nat_tests)

another : (n m : ℕ) → n < m → nat_eq n m ≡ false
another n m lt = grind (arith, nat_tests)

pub legs_among-at : (ms : List ℕ) (vessels : List VesselValue) (at : ℕ) (d : VesselValue) → Ascends ms → length vessels ≡ length ms → at < length ms
    → (get_or vessels at d).legs ≡ legs_among ms vessels (get_or ms at 0)
legs_among-at [] vessels at d h each lt = absurd (omega arith)
legs_among-at (n ∷ ms) [] at d h each lt = absurd (omega arith)
legs_among-at (n ∷ ms) (vessel ∷ vessels) zero d h each lt = rw (itself n) refl
legs_among-at (n ∷ ms) (vessel ∷ vessels) (suc at) d h each lt =
    let above : n < get_or ms at 0 = h.0 at 0 (omega arith) in
    rw (another n (get_or ms at 0) above) (legs_among-at ms vessels at d h.1 (omega arith) (omega arith))

-- what is seen of a vessel whose legs these are
pub sighted : (time m : ℕ) (legs : ℕ → List Leg) (here : List Leg) (o : Option TickState) → here ≡ legs m → o ≡ state_at time here
    → option_map (λ (state : TickState). (m, state)) o ≡ seen_vessel time legs m
sighted time m legs here o e is = ap (option_map (λ (state : TickState). (m, state))) (is ∙ ap (state_at time) e)

-- ---- one vessel more

pub seen_more : (f : ℕ → Option (ℕ × TickState)) (ms : List ℕ) (at : ℕ) → at < length ms
    → filter_map f (take (at + 1) ms) ≡ filter_map f (take at ms) ++ option_to_list (f (get_or ms at 0))
seen_more f ms at lt =
    ap (filter_map f) (take_more ms at 0 lt) ∙ filter_map-append f (take at ms) (get_or ms at 0 ∷ [])
    ∙ ap (λ (vessels : List (ℕ × TickState)). filter_map f (take at ms) ++ vessels) (cons_option-nil (f (get_or ms at 0)))

pub seen_all : (book : BookValue) (time at : ℕ) (seen : List (ℕ × TickState)) → length book.held ≤ at
    → seen ≡ filter_map (seen_vessel time (legs_in book)) (take at book.held) → seen ≡ seen_in book time
unfolding seen_in
seen_all book time at seen le h = h ∙ ap (filter_map (seen_vessel time (legs_in book))) (take_all at book.held le)

-- ---- by the messages

pub seen_in-is : (book : BookValue) (numbers : JudgingNumbers) (sent : List Sent) (time : ℕ) → Remembers book.keeping time → StandsFor book numbers sent
    → seen_in book time ≡ seen_of numbers sent time
unfolding seen_in seen_of legs_of
seen_in-is book numbers sent time remembers h =
    let states : (m : ℕ) → state_at time (legs_in book m) ≡ state_at time (legs_of numbers sent m) =
    λ m. ap (state_at time) (legs_in-is book numbers sent m h) ∙ kept_legs-state book.keeping numbers.gap time (accepted_of numbers sent m) (accepted_in_order numbers sent m) remembers in
    λ i. filter_map (λ m. option_map (λ (state : TickState). (m, state)) (states m i)) (h.holds i)

-- ---- what holds of each vessel seen

onto : (Q : (ℕ × TickState) → Type 0) (m : ℕ) (o : Option TickState) (vessels : List (ℕ × TickState)) → ((state : TickState) → o ≡ Some state → Q (m, state))
    → All Q vessels → All Q (cons_option (option_map (λ (state : TickState). (m, state)) o) vessels)
onto Q m None vessels one all = all
onto Q m (Some state) vessels one all = All-cons Q (m, state) vessels (one state refl) all

All-seen : (Q : (ℕ × TickState) → Type 0) (time : ℕ) (legs : ℕ → List Leg) (ms : List ℕ)
    → All (λ (m : ℕ). (state : TickState) → state_at time (legs m) ≡ Some state → Q (m, state)) ms → All Q (filter_map (seen_vessel time legs) ms)
All-seen Q time legs [] all = All-nil Q
All-seen Q time legs (m ∷ ms) all =
    let R : ℕ → Type 0 = λ m. (state : TickState) → state_at time (legs m) ≡ Some state → Q (m, state) in
    onto Q m (state_at time (legs m)) (filter_map (seen_vessel time legs) ms) (All-head R m ms all) (All-seen Q time legs ms (All-tail R m ms all))

-- ---- their order

ascends_onto : (m : ℕ) (o : Option TickState) (vessels : List (ℕ × TickState)) → All (λ k. m < k) (map (λ (vessel : ℕ × TickState). vessel.0) vessels)
    → Ascends (map (λ (vessel : ℕ × TickState). vessel.0) vessels)
    → Ascends (map (λ (vessel : ℕ × TickState). vessel.0) (cons_option (option_map (λ (state : TickState). (m, state)) o) vessels))
ascends_onto m None vessels above h = h
ascends_onto m (Some state) vessels above h = (above, h)

filtered_ascends : (time : ℕ) (legs : ℕ → List Leg) (ms : List ℕ) → Ascends ms
    → Ascends (map (λ (vessel : ℕ × TickState). vessel.0) (filter_map (seen_vessel time legs) ms))
filtered_ascends time legs [] h = tt
filtered_ascends time legs (m ∷ ms) h =
    ascends_onto m (state_at time (legs m)) (filter_map (seen_vessel time legs) ms)
    (All-map (λ (k : ℕ). m < k) (λ (vessel : ℕ × TickState). vessel.0) (filter_map (seen_vessel time legs) ms)
    (All-seen (λ (vessel : ℕ × TickState). m < vessel.0) time legs ms (λ k d lt state e. h.0 k d lt)))
    (filtered_ascends time legs ms h.1)

pub seen_ascends : (book : BookValue) (time : ℕ) → Ascends book.held → IsStrictlyIncreasing (map (λ (vessel : ℕ × TickState). vessel.0) (seen_in book time))
unfolding seen_in
seen_ascends book time h = λ k lt.
    ascends_lt (map (λ (vessel : ℕ × TickState). vessel.0) (filter_map (seen_vessel time (legs_in book)) book.held))
    (filtered_ascends time (legs_in book) book.held h) k (k + 1) 0 (omega arith) lt

-- ---- how far they move

seen_state : (book : BookValue) (time mmsi : ℕ) (state : TickState) → All (λ (m : ℕ). MovesLittle book.numbers.gap (legs_in book m)) book.held
    → Contains (seen_in book time) (mmsi, state) → MovesLittle book.numbers.gap (legs_in book mmsi) × (state_at time (legs_in book mmsi) ≡ Some state)
unfolding seen_in
seen_state book time mmsi state moves seen =
    let Q : (ℕ × TickState) → Type 0 = λ vessel. MovesLittle book.numbers.gap (legs_in book vessel.0) × (state_at time (legs_in book vessel.0) ≡ Some vessel.1) in
    All-contains Q (filter_map (seen_vessel time (legs_in book)) book.held) (mmsi, state)
    (All-seen Q time (legs_in book) book.held (λ k d lt state e. (moves k d lt, e))) seen

pub seen_moves : (book : BookValue) → All (λ (m : ℕ). MovesLittle book.numbers.gap (legs_in book m)) book.held
    → (t u mmsi : ℕ) (before after : TickState) → t ≤ u → u ≤ t + 60 → u ≤ t + book.numbers.gap
    → Contains (seen_in book t) (mmsi, before) → Contains (seen_in book u) (mmsi, after) → IsBelow (2 ^ 25) (displacement before.point after.point)
seen_moves book moves t u mmsi before after le minute within was is =
    let first = seen_state book t mmsi before moves was in
    let second = seen_state book u mmsi after moves is in
    little (u - t) (displacement before.point after.point) (omega arith) (first.0 t u before after le within first.1 second.1)
  where
    little : (seconds : ℕ) (by : Point) → seconds ≤ 60 → IsWithin (seconds * 525763 + 2) by → IsBelow (2 ^ 25) by
    little seconds by minute h = let x = h.x in let y = h.y in record { x = omega arith; y = omega arith }
