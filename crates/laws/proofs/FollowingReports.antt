-- The accepted reports of a vessel lie in the region, and each follows the one before it no faster than a vessel may be.
use Rattle.std.proofs.Common.{◌≡◌, ◌∙◌, ℕ, ◌+◌, ◌-◌, ◌*◌, ◌<◌, ◌≤◌, Bool, true, false, cond, nat_le, nat_lt, List, [], ◌∷◌, Option, None, Some, Ok, Err, ℤ, ◌-ℤ◌, ◌*ℤ◌, pos, unsigned_abs, mul-le-mul, refl, ap, sym, subst, arith}
use Rattle.std.specs.Prelude.{IfOk, IfSome, Result, ◌&&◌, ◌==◌, if◌then◌else◌}
use Rattle.std.specs.List.{All, filter_map}
use Rattle.std.proofs.lemmas.Bool.Decides.{nat_tests}
use Rattle.std.proofs.lemmas.Int.{ints}
use Rattle.std.proofs.lemmas.List.Elements.{All-cons, All-filter, All-head, All-nil, All-tail}
use Rattle.ais_messages.specs.declared.message.Message.{Message}
use Rattle.ais_messages.specs.declared.message.Message.TheVariants as message
use Rattle.fixed_geometry.specs.Projection.{east_of, north_of, projection_of}
use Rattle.fixed_geometry.specs.Sizes.{IsWithin}
use Rattle.fixed_geometry.specs.declared.point.Point.{Point}
use Rattle.tracks.specs.AcceptedReports.{JudgingNumbers, Reported, accepted_after, accepted_with, at_place, at_point, distance2, is_back, is_jump, is_repeat, judged, judged_after, judged_at, placed, square, unless}
use Rattle.tracks.specs.VesselsHeld.{Sent, accepted_of, messages_of, reported_in, sender_of}
use Rattle.tracks.specs.Inner.Keeping.{Follows}
use Rattle.tracks.specs.declared.accepted.Accepted.{Accepted}
use Rattle.tracks.specs.declared.entry.ReportCause.{ReportCause}
use Rattle.tracks.specs.declared.entry.ReportCause.TheVariants.{Back, Jump, Repeat}
use Rattle.tracks.proofs.OneList.{judged_placed}
use Rattle.laws.proofs.SentRanges.{IsSaid, IsSayableOne, all_kept}

-- an accepted report
pub record IsInRegion (accepted : Accepted) : Type 0 where
  pub said : IsSaid accepted.report
  pub point : IsWithin 2222400000 accepted.point

-- ---- points

north : (a b : ℤ) → unsigned_abs (a -ℤ b) ≤ 1200000 → unsigned_abs ((a -ℤ b) *ℤ pos 1852) ≤ 2222400000
north a b h = omega (arith, ints)

projected : (latitude0 longitude0 latitude longitude : ℤ) → IfSome (projection_of latitude0 longitude0 latitude longitude) (IsWithin 2222400000)
unfolding projection_of
projected latitude0 longitude0 latitude longitude =
    by (nat_le (unsigned_abs (latitude -ℤ latitude0)) 1200000) (nat_le (unsigned_abs (east_of latitude0 longitude0 longitude)) 2222400000) refl refl
  where
    by : (a b : Bool) → nat_le (unsigned_abs (latitude -ℤ latitude0)) 1200000 ≡ a → nat_le (unsigned_abs (east_of latitude0 longitude0 longitude)) 2222400000 ≡ b
        → IfSome (if a && b then Some (record { x = east_of latitude0 longitude0 longitude; y = north_of latitude0 latitude }) else None) (IsWithin 2222400000)
    by true true e f =
        let up : unsigned_abs (latitude -ℤ latitude0) ≤ 1200000 = grind (arith, nat_tests) in
        let along : unsigned_abs (east_of latitude0 longitude0 longitude) ≤ 2222400000 = grind (arith, nat_tests) in
        record { x = along; y = north latitude latitude0 up }
    by true false e f = tt
    by false b e f = tt

at_point_in : (now : Reported) (o : Option Point) → IsSaid now.report → IfSome o (IsWithin 2222400000) → IfOk (at_point now o) IsInRegion
at_point_in now None said h = tt
at_point_in now (Some point) said h = record { said = said; point = h }

at_place_in : (now : Reported) (latitude0 longitude0 : ℤ) (o : Option (ℤ × ℤ)) → IsSaid now.report
    → IfOk (at_place (record { latitude = latitude0; longitude = longitude0 }) now o) IsInRegion
at_place_in now latitude0 longitude0 None said = tt
at_place_in now latitude0 longitude0 (Some place) said =
    at_point_in now (projection_of latitude0 longitude0 place.0 place.1) said (projected latitude0 longitude0 place.0 place.1)

ok_there : (P : Accepted → Type 0) (r : Result Accepted ReportCause) (accepted : Accepted) → r ≡ Ok accepted → IfOk r P → P accepted
ok_there P r accepted e h = subst (λ (s : Result Accepted ReportCause). IfOk s P) e h

judged_in : (numbers : JudgingNumbers) (latest : Option Accepted) (now : Reported) (accepted : Accepted) → IsSaid now.report → judged numbers latest now ≡ Ok accepted
    → IsInRegion accepted
unfolding placed
judged_in numbers latest now accepted said e =
    ok_there IsInRegion (placed numbers.reference now) accepted (judged_placed numbers latest now accepted e)
    (at_place_in now numbers.reference.latitude numbers.reference.longitude now.report.place said)

-- ---- a report after another

-- It is neither back nor a jump.
free_of : (now accepted : Accepted) (back repeat jump : Bool) → unless now (cond back (Some Back) (cond repeat (Some Repeat) (cond jump (Some Jump) None))) ≡ Ok accepted
    → (back ≡ false) × (jump ≡ false)
free_of now accepted true repeat jump e = absurd (cc e)
free_of now accepted false true jump e = absurd (cc e)
free_of now accepted false false true e = absurd (cc e)
free_of now accepted false false false e = (refl, refl)

after : (latest now : Accepted) → is_back latest now ≡ false → latest.time < now.time
after latest now e = grind (arith, nat_tests)

no_jump : (time until most least : ℕ) → (nat_le time until && nat_lt most least) ≡ false → time ≤ until → least ≤ most
no_jump time until most least e le = grind (arith, nat_tests)

slow : (numbers : JudgingNumbers) (latest now : Accepted) → numbers.max_speed ≤ 1022 → is_jump numbers latest now ≡ false → now.time ≤ latest.time + numbers.gap
    → 81 * distance2 latest now ≤ square (4630 * 1022 * (now.time - latest.time))
slow numbers latest now most e le =
    let first = no_jump now.time (latest.time + numbers.gap) (square (4630 * numbers.max_speed * (now.time - latest.time))) (81 * distance2 latest now) e le in
    let sides : 4630 * numbers.max_speed * (now.time - latest.time) ≤ 4630 * 1022 * (now.time - latest.time) = mul-le-mul (omega arith) (omega arith) in
    let squares : square (4630 * numbers.max_speed * (now.time - latest.time)) ≤ square (4630 * 1022 * (now.time - latest.time)) = mul-le-mul sides sides in
    omega arith

follows_after : (numbers : JudgingNumbers) (latest : Accepted) (now accepted : Accepted) → numbers.max_speed ≤ 1022 → judged_after numbers (Some latest) now ≡ Ok accepted
    → Follows numbers.gap latest now
follows_after numbers latest now accepted most e =
    let free = free_of now accepted (is_back latest now) (is_repeat latest now) (is_jump numbers latest now) e in
    record { after = after latest now free.0; slow = slow numbers latest now most free.1 }

judged_follows : (numbers : JudgingNumbers) (latest : Option Accepted) (now : Reported) (accepted : Accepted) → numbers.max_speed ≤ 1022
    → judged numbers latest now ≡ Ok accepted → IfSome latest (λ a. Follows numbers.gap a accepted)
unfolding judged
judged_follows numbers None now accepted most e = tt
judged_follows numbers (Some latest) now accepted most e =
    let at : placed numbers.reference now ≡ Ok accepted = judged_placed numbers (Some latest) now accepted e in
    follows_after numbers latest accepted accepted most (ap (judged_at numbers (Some latest)) (sym at) ∙ e)

-- ---- the accepted list

-- Each is in the region, and follows the one before it.
abbrev pub AreFollowing : ℕ → Option Accepted → List Accepted → Type 0
AreFollowing gap o [] = Unit {0}
AreFollowing gap o (x ∷ xs) = IfSome o (λ a. Follows gap a x) × IsInRegion x × AreFollowing gap (Some x) xs

accepted_follow : (numbers : JudgingNumbers) (reports : List Reported) (latest : Option Accepted) → numbers.max_speed ≤ 1022 → All (λ (r : Reported). IsSaid r.report) reports
    → AreFollowing numbers.gap latest (accepted_after numbers reports latest)
unfolding accepted_after
accepted_follow numbers [] latest most said = tt
accepted_follow numbers (now ∷ reports) latest most said =
    elim (judged numbers latest now) as (λ r. judged numbers latest now ≡ r → AreFollowing numbers.gap latest (accepted_with (accepted_after numbers reports) latest r)) [
      | Ok accepted ↦ λ e. (
        judged_follows numbers latest now accepted most e,
        judged_in numbers latest now accepted (All-head (λ (r : Reported). IsSaid r.report) now reports said) e,
        accepted_follow numbers reports (Some accepted) most (All-tail (λ (r : Reported). IsSaid r.report) now reports said),
      )
      | Err cause ↦ λ e. accepted_follow numbers reports latest most (All-tail (λ (r : Reported). IsSaid r.report) now reports said)
    ] refl

said_in : (m : Message) (time : ℕ) → IsSayableOne (record { message = m; time = time }) → IfSome (reported_in (record { message = m; time = time })) (λ r. IsSaid r.report)
said_in (message.Position report) time h = h
said_in (message.Static report) time h = tt
said_in (message.Both report static) time h = h.0

-- The accepted reports of a vessel.
pub vessel_follows : (numbers : JudgingNumbers) (messages : List Sent) (mmsi : ℕ) → numbers.max_speed ≤ 1022 → All IsSayableOne messages
    → AreFollowing numbers.gap None (accepted_of numbers messages mmsi)
unfolding accepted_of
vessel_follows numbers messages mmsi most h =
    accepted_follow numbers (filter_map reported_in (messages_of messages mmsi)) None most
    (all_kept reported_in IsSayableOne (λ (r : Reported). IsSaid r.report) (λ one said. said_in one.message one.time said) (messages_of messages mmsi)
    (All-filter (λ (one : Sent). sender_of one.message == mmsi) IsSayableOne messages h))

-- each of them
pub all_in_region : (gap : ℕ) (o : Option Accepted) (xs : List Accepted) → AreFollowing gap o xs → All IsInRegion xs
all_in_region gap o [] h = All-nil IsInRegion
all_in_region gap o (x ∷ xs) h = All-cons IsInRegion x xs h.1 (all_in_region gap (Some x) xs h.2)
