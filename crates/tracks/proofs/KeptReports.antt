-- What is kept of a vessel's accepted reports and of the legs between them.
use Rattle.std.proofs.Common.{◌≡◌, ◌∙◌, ℕ, ◌+◌, ◌<◌, ◌≤◌, List, [], ◌∷◌, ◌++◌, length, length-append, set, Some, None, refl, ap, sym, arith}
use Rattle.std.specs.Prelude.{Option, is_some}
use Rattle.std.specs.List.{last_or}
use Rattle.std.specs.Option.{option_to_list}
use Rattle.motion.specs.TickStates.{state_at}
use Rattle.motion.specs.declared.leg.Leg.{Leg}
use Rattle.tracks.specs.JoinedReports.{legs_between, legs_from}
use Rattle.tracks.specs.Standing.{Remembers, VesselValue, counted, forgetting, kept_counts, kept_legs, kept_points}
use Rattle.tracks.specs.Inner.Keeping.{AreInOrder, counts_more, counts_with, joined_after, kept_with, points_with}
use Rattle.tracks.specs.declared.accepted.Accepted.{Accepted}
use Rattle.tracks.specs.declared.counts.Counts.{Counts}
use Rattle.tracks.specs.declared.keeping.Keeping.{Keeping}
use Rattle.tracks.specs.declared.keeping.Keeping.TheVariants.{Latest, Since, Tracks}
use Rattle.tracks.proofs.Forgetting.{seen_since, since-last, since-more}
use Rattle.tracks.proofs.Lasts.{last_or-push}
use Rattle.tracks.proofs.Legs.{legs_between-push}

last_alone : (o : Option Accepted) → last_or None (option_to_list o) ≡ o
last_alone None = refl
last_alone (Some x) = refl

-- The latest report is kept.
pub kept_points-last : (keeping : Keeping) (xs : List Accepted) → AreInOrder xs → last_or None (kept_points keeping xs) ≡ last_or None xs
kept_points-last Latest xs h = last_alone (last_or None xs)
kept_points-last Tracks xs h = refl
kept_points-last (Since time) xs h = since-last time xs h

pub kept_points-push : (xs : List Accepted) (now : Accepted) → kept_points Latest (xs ++ now ∷ []) ≡ now ∷ []
kept_points-push xs now = ap (option_to_list {X = Accepted}) (last_or-push None xs now)

-- one more report
pub kept_points-more : (keeping : Keeping) (xs : List Accepted) (o : Option Accepted)
    → kept_points keeping (points_with xs o) ≡ kept_with keeping (kept_points keeping xs) o
kept_points-more keeping xs None = refl
kept_points-more Latest xs (Some now) = kept_points-push xs now ∙ sym (kept_points-push (kept_points Latest xs) now)
kept_points-more Tracks xs (Some now) = refl
kept_points-more (Since time) xs (Some now) = sym (since-more time xs now)

-- One report has no legs.
no_legs : (gap : ℕ) (o : Option Accepted) → legs_between gap (option_to_list o) ≡ []
unfolding legs_from
no_legs gap None = refl
no_legs gap (Some now) = refl

pub latest_alone : (gap : ℕ) (xs : List Accepted) → xs ≡ kept_points Latest xs → legs_between gap xs ≡ []
latest_alone gap xs alone = ap (legs_between gap) alone ∙ no_legs gap (last_or None xs)

-- With the latest report alone no legs are kept.
pub kept_legs-latest : (gap : ℕ) (xs : List Accepted) → kept_legs Latest gap xs ≡ []
kept_legs-latest gap xs = no_legs gap (last_or None xs)

-- The kept legs determine where a vessel is seen at a time that is remembered.
pub kept_legs-state : (keeping : Keeping) (gap t : ℕ) (xs : List Accepted) → AreInOrder xs → Remembers keeping t → state_at t (kept_legs keeping gap xs) ≡ state_at t (legs_between gap xs)
kept_legs-state Latest gap t xs h remembers = absurd remembers
kept_legs-state Tracks gap t xs h remembers = refl
kept_legs-state (Since time) gap t xs h remembers = seen_since gap time t xs h remembers

pub kept_points-none : (keeping : Keeping) → kept_points keeping [] ≡ []
kept_points-none Latest = refl
kept_points-none Tracks = refl
kept_points-none (Since time) = refl

pub kept_legs-none : (keeping : Keeping) (gap : ℕ) → kept_legs keeping gap [] ≡ []
kept_legs-none keeping gap = ap (legs_between gap) (kept_points-none keeping)

pub kept_counts-none : (keeping : Keeping) (gap : ℕ) → kept_counts keeping gap [] ≡ record { reports = 0; legs = 0 }
kept_counts-none Latest gap = refl
kept_counts-none Tracks gap = refl
kept_counts-none (Since time) gap = refl

-- ---- what is remembered

-- A later time is remembered too ..
pub remembers_later : (keeping : Keeping) (t u : ℕ) → t ≤ u → Remembers keeping t → Remembers keeping u
remembers_later Latest t u le remembers = absurd remembers
remembers_later Tracks t u le remembers = tt
remembers_later (Since earliest) t u le remembers = omega arith

-- .. and also once what lies before is forgotten.
pub remembers_forgetting : (keeping : Keeping) (t u : ℕ) → t ≤ u → Remembers keeping u → Remembers (forgetting keeping t) u
remembers_forgetting Latest t u le remembers = absurd remembers
remembers_forgetting Tracks t u le remembers = le
remembers_forgetting (Since earliest) t u le remembers = omega arith

-- ---- the counts

counted-more : (n m : ℕ) → m ≡ n + 1 → counted m ≡ counted (counted n + 1)
counted-more n m more = omega arith

legs-more : (legs : List Leg) (o : Option Leg) → counted (length (legs ++ option_to_list o)) ≡ (counts_more (record { reports = 0; legs = counted (length legs) }) (is_some o)).legs
legs-more legs None = ap counted (omega (arith, length-append legs []))
legs-more legs (Some leg) = counted-more (length legs) (length (legs ++ leg ∷ [])) (omega (arith, length-append legs (leg ∷ [])))

all_counts : (gap : ℕ) (xs : List Accepted) (now : Accepted) (latest : Option Accepted) → latest ≡ last_or None xs
    → kept_counts Tracks gap (xs ++ now ∷ []) ≡ counts_more (kept_counts Tracks gap xs) (is_some (joined_after gap latest now))
all_counts gap xs now latest same =
    let reports : counted (length (xs ++ now ∷ [])) ≡ counted (counted (length xs) + 1) = counted-more (length xs) _ (omega (arith, length-append xs (now ∷ []))) in
    let legs : counted (length (legs_between gap (xs ++ now ∷ []))) ≡ (counts_more (kept_counts Tracks gap xs) (is_some (joined_after gap latest now))).legs =
    ap (λ (ls : List Leg). counted (length ls)) (legs_between-push gap xs now) ∙ legs-more (legs_between gap xs) (joined_after gap (last_or None xs) now)
    ∙ ap (λ (o : Option Accepted). (counts_more (kept_counts Tracks gap xs) (is_some (joined_after gap o now))).legs) (sym same) in
    λ i. record { reports = reports i; legs = legs i }

-- with one report more
pub kept_counts-more : (keeping : Keeping) (gap : ℕ) (vessel : VesselValue) (xs : List Accepted) (o : Option Accepted) → vessel.counts ≡ kept_counts keeping gap xs
    → last_or None vessel.points ≡ last_or None xs → kept_counts keeping gap (points_with xs o) ≡ counts_with keeping gap vessel o
kept_counts-more keeping gap vessel xs None counts same = sym counts
kept_counts-more Latest gap vessel xs (Some now) counts same = sym counts
kept_counts-more Tracks gap vessel xs (Some now) counts same =
    all_counts gap xs now (last_or None vessel.points) same
    ∙ ap (λ (c : Counts). counts_more c (is_some (joined_after gap (last_or None vessel.points) now))) (sym counts)
kept_counts-more (Since time) gap vessel xs (Some now) counts same =
    all_counts gap xs now (last_or None vessel.points) same
    ∙ ap (λ (c : Counts). counts_more c (is_some (joined_after gap (last_or None vessel.points) now))) (sym counts)

-- ---- in the place of the one before

at_most_one : (o : Option Accepted) → length (option_to_list o) ≤ 1
at_most_one None = omega arith
at_most_one (Some x) = omega arith

pub replaced : (xs : List Accepted) (now : Accepted) → xs ≡ kept_points Latest xs → 0 < length xs → set xs 0 now ≡ now ∷ []
replaced [] now alone some = absurd (omega arith)
replaced (x ∷ []) now alone some = refl
replaced (x ∷ y ∷ ys) now alone some =
    absurd (omega (arith, ap (length {A = Accepted}) alone, at_most_one (last_or (Some y) ys)))
