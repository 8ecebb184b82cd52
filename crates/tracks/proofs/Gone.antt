-- The first reports and legs, which are forgotten.
use Rattle.std.proofs.Common.{◌≡◌, ℕ, zero, suc, ◌+◌, ◌<◌, ◌≤◌, ◌∙◌, ◌⊎◌, inl, inr, Some, None, true, false, nat_le, nat_lt, drop, get_or, length, map, max, set, take, List, [], ◌∷◌, ◌++◌, refl, ap, sym, subst, arith}
use native.Mathlib.Numerals.{unary_clauses}
use Rattle.std.specs.Prelude.{Option, IfSome}
use Rattle.std.specs.List.{All, cons_option, last_or}
use Rattle.std.proofs.lemmas.Bool.{cases_Bool}
use Rattle.std.proofs.lemmas.Bool.Decides.{nat_tests}
use Rattle.std.proofs.lemmas.List.{length-map}
use Rattle.std.proofs.lemmas.List.Elements.{All-map, All-tail}
use Rattle.motion.specs.TickStates.{AreJoined, Meets}
use Rattle.motion.specs.declared.leg.Leg.{Leg}
use Rattle.tracks.specs.JoinedReports.{joined, leg_between, legs_between, legs_from}
use Rattle.tracks.specs.AcceptedReports.{JudgingNumbers}
use Rattle.tracks.specs.Standing.{BookValue, IsAccepted, StandsFor, VesselValue, forgetting, kept_counts, points_since, vessel_of}
use Rattle.tracks.specs.VesselsHeld.{Sent, accepted_of, held_of, statics_of}
use Rattle.tracks.specs.Inner.Keeping.{EndsAt, IsBook, IsKept, vessel_since}
use Rattle.tracks.specs.declared.accepted.Accepted.{Accepted}
use Rattle.tracks.specs.declared.keeping.Keeping.{Keeping}
use Rattle.tracks.specs.declared.keeping.Keeping.TheVariants.{Latest, Since, Tracks}
use Rattle.tracks.proofs.Forgetting.{dropped_to, order_since, since-later, since-same, since_is}
use Rattle.tracks.proofs.Rising.{accepted_in_order}

one_more : (n : ℕ) → suc n ≡ n + 1
one_more n = simp unary_clauses refl

from_next : (xs : List Accepted) (r : ℕ) (d : Accepted) → r < length xs → drop r xs ≡ get_or xs r d ∷ drop (suc r) xs
from_next [] r d lt = absurd (omega arith)
from_next (x ∷ xs) zero d lt = refl
from_next (x ∷ xs) (suc r) d lt = from_next xs r d (omega arith)

from_index : (xs : List Accepted) (r : ℕ) (d : Accepted) → r < length xs → drop r xs ≡ get_or xs r d ∷ drop (r + 1) xs
from_index xs r d lt = from_next xs r d lt ∙ ap (λ (n : ℕ). get_or xs r d ∷ drop n xs) (one_more r)

-- the reports from an index on, which begin with these two
two_from : (xs : List Accepted) (r : ℕ) (d e : Accepted) → r + 1 < length xs → drop r xs ≡ get_or xs r d ∷ get_or xs (r + 1) e ∷ drop (r + 1 + 1) xs
two_from xs r d e lt = from_index xs r d (omega arith) ∙ ap (λ (ys : List Accepted). get_or xs r d ∷ ys) (from_index xs (r + 1) e lt)

-- ---- the reports

lt_is : {a b : ℕ} → a < b → nat_lt a b ≡ true
lt_is h = grind (arith, nat_tests)

not_lt_is : {a b : ℕ} → b ≤ a → nat_lt a b ≡ false
not_lt_is h = grind (arith, nat_tests)

skipped_by : (t : ℕ) (x y : Accepted) (ys : List Accepted) → nat_lt y.time t ≡ true → dropped_to t (x ∷ y ∷ ys) ≡ dropped_to t (y ∷ ys)
skipped_by t x y ys before = rw before refl

stopped : (t : ℕ) (x y : Accepted) (ys : List Accepted) → nat_lt y.time t ≡ false → dropped_to t (x ∷ y ∷ ys) ≡ x ∷ y ∷ ys
stopped t x y ys not = rw not refl

-- One more is gone, where the next one is earlier than the time.
pub since_step : (t r : ℕ) (xs : List Accepted) (d : Accepted) → r + 1 < length xs → (get_or xs (r + 1) d).time < t
    → dropped_to t (drop r xs) ≡ dropped_to t (drop (r + 1) xs)
since_step t r xs d lt before =
    ap (dropped_to t) (two_from xs r d d lt) ∙ skipped_by t (get_or xs r d) (get_or xs (r + 1) d) (drop (r + 1 + 1) xs) (lt_is before)
    ∙ ap (dropped_to t) (sym (from_index xs (r + 1) d lt))

-- No more is, where it is not.
pub since_stop : (t r : ℕ) (xs : List Accepted) (d : Accepted) → r + 1 < length xs → t ≤ (get_or xs (r + 1) d).time
    → dropped_to t (drop r xs) ≡ drop r xs
since_stop t r xs d lt not =
    let two = two_from xs r d d lt in
    ap (dropped_to t) two ∙ stopped t (get_or xs r d) (get_or xs (r + 1) d) (drop (r + 1 + 1) xs) (not_lt_is not) ∙ sym two

-- No more is, where there is no next one.
pub since_end : (t r : ℕ) (xs : List Accepted) → length xs ≤ r + 1 → dropped_to t (drop r xs) ≡ drop r xs
since_end t zero [] le = refl
since_end t (suc r) [] le = refl
since_end t zero (x ∷ []) le = refl
since_end t zero (x ∷ y ∷ ys) le = absurd (omega arith)
since_end t (suc r) (x ∷ xs) le = since_end t r xs (omega arith)

-- ---- the legs

pub record IsTail {A : Type 0} (xs : List A) (n : ℕ) (ys : List A) : Type 0 where
  pub within : n ≤ length xs
  pub is : drop n xs ≡ ys

tail_of : {A : Type 0} {x y : A} {xs ys : List A} → x ∷ xs ≡ y ∷ ys → xs ≡ ys
tail_of e = cc

next_less : {A : Type 0} (xs : List A) (n : ℕ) (y : A) (ys : List A) → drop n xs ≡ y ∷ ys → IsTail xs (suc n) ys
next_less [] zero y ys e = absurd (cc)
next_less [] (suc n) y ys e = absurd (cc)
next_less (x ∷ xs) zero y ys e = record { within = omega arith; is = tail_of e }
next_less (x ∷ xs) (suc n) y ys e = let rest = next_less xs n y ys e in record { within = let within = rest.within in omega arith; is = rest.is }

one_less : {A : Type 0} (xs : List A) (n : ℕ) (y : A) (ys : List A) → drop n xs ≡ y ∷ ys → IsTail xs (n + 1) ys
one_less xs n y ys e = subst (λ (k : ℕ). IsTail xs k ys) (one_more n) (next_less xs n y ys e)

-- With the report goes the leg that begins there, if one does.
pub legs_step : (gap r n : ℕ) (xs : List Accepted) (d e : Accepted) → r + 1 < length xs → nat_le (get_or xs (r + 1) e).time ((get_or xs r d).time + gap) ≡ true
    → drop n (legs_between gap xs) ≡ legs_between gap (drop r xs) → IsTail (legs_between gap xs) (n + 1) (legs_between gap (drop (r + 1) xs))
unfolding legs_from
legs_step gap r n xs d e lt joined is =
    let rest : legs_between gap (drop (r + 1) xs) ≡ legs_from gap (get_or xs (r + 1) e) (drop (r + 1 + 1) xs) = ap (legs_between gap) (from_index xs (r + 1) e lt) in
    let first : legs_from gap (get_or xs r d) (get_or xs (r + 1) e ∷ drop (r + 1 + 1) xs)
    ≡ leg_between (get_or xs r d) (get_or xs (r + 1) e) ∷ legs_from gap (get_or xs (r + 1) e) (drop (r + 1 + 1) xs) = rw joined refl in
    one_less (legs_between gap xs) n (leg_between (get_or xs r d) (get_or xs (r + 1) e)) (legs_between gap (drop (r + 1) xs))
    (is ∙ ap (legs_between gap) (two_from xs r d e lt) ∙ first ∙ ap (λ (ls : List Leg). leg_between (get_or xs r d) (get_or xs (r + 1) e) ∷ ls) (sym rest))

pub no_leg_step : (gap r n : ℕ) (xs : List Accepted) (d e : Accepted) → r + 1 < length xs → nat_le (get_or xs (r + 1) e).time ((get_or xs r d).time + gap) ≡ false
    → drop n (legs_between gap xs) ≡ legs_between gap (drop r xs) → drop n (legs_between gap xs) ≡ legs_between gap (drop (r + 1) xs)
unfolding legs_from
no_leg_step gap r n xs d e lt apart is =
    let first : legs_from gap (get_or xs r d) (get_or xs (r + 1) e ∷ drop (r + 1 + 1) xs) ≡ legs_from gap (get_or xs (r + 1) e) (drop (r + 1 + 1) xs) = rw apart refl in
    is ∙ ap (legs_between gap) (two_from xs r d e lt) ∙ first ∙ sym (ap (legs_between gap) (from_index xs (r + 1) e lt))

-- ---- what is kept

pub record AreKept (gap : ℕ) (reports : List Accepted) : Type 0 where
  pub points : All IsAccepted reports
  pub ends : IfSome (last_or None reports) (λ latest. IfSome (last_or None (legs_between gap reports)) (EndsAt gap latest))
  pub are_joined : AreJoined gap (legs_between gap reports)

last_less : (P : Leg → Type 0) (o : Option Leg) (legs : List Leg) → IfSome (last_or None (cons_option o legs)) P → IfSome (last_or None legs) P
last_less P None legs h = h
last_less P (Some leg) [] h = tt
last_less P (Some leg) (next ∷ legs) h = h

ends_less : (gap : ℕ) (latest : Option Accepted) (o : Option Leg) (legs : List Leg) → IfSome latest (λ a. IfSome (last_or None (cons_option o legs)) (EndsAt gap a))
    → IfSome latest (λ a. IfSome (last_or None legs) (EndsAt gap a))
ends_less gap None o legs h = tt
ends_less gap (Some a) o legs h = last_less (EndsAt gap a) o legs h

joined_less : (gap : ℕ) (o : Option Leg) (legs : List Leg) → AreJoined gap (cons_option o legs) → AreJoined gap legs
joined_less gap None legs h = h
joined_less gap (Some leg) legs h = λ k d lt.
    let Joined : ℕ → Type 0 = λ n. Meets (get_or (leg ∷ legs) (suc k) d) (get_or (leg ∷ legs) n d) ⊎ ((get_or (leg ∷ legs) (suc k) d).t2 + gap < (get_or (leg ∷ legs) n d).t1) in
    let next : suc k + 1 ≡ suc (k + 1) = omega arith in
    subst Joined next (h (suc k) d (omega arith))

kept_less : (gap : ℕ) (x y : Accepted) (ys : List Accepted) → AreKept gap (x ∷ y ∷ ys) → AreKept gap (y ∷ ys)
unfolding legs_from
kept_less gap x y ys h = record {
  points = All-tail IsAccepted x (y ∷ ys) h.points;
  ends = ends_less gap (last_or (Some y) ys) (joined gap x y) (legs_from gap y ys) h.ends;
  are_joined = joined_less gap (joined gap x y) (legs_from gap y ys) h.are_joined;
}

are_kept : (gap t : ℕ) (xs : List Accepted) → AreKept gap xs → AreKept gap (dropped_to t xs)
are_kept gap t [] h = h
are_kept gap t (x ∷ []) h = h
are_kept gap t (x ∷ y ∷ ys) h =
    elim (cases_Bool (nat_lt y.time t)) [
      | inl before ↦ subst (AreKept gap) (sym (skipped_by t x y ys before)) (are_kept gap t (y ∷ ys) (kept_less gap x y ys h))
      | inr not ↦ subst (AreKept gap) (sym (stopped t x y ys not)) h
    ]

-- A vessel whose reports before a time are forgotten.
pub vessel_since_kept : (keeping : Keeping) (gap t : ℕ) (vessel : VesselValue) → IsKept keeping gap vessel → IsKept (Since t) gap (vessel_since gap t vessel)
vessel_since_kept keeping gap t vessel h =
    let legs : vessel.legs ≡ legs_between gap vessel.points = h.legs in
    let now : AreKept gap (points_since t vessel.points) = subst (AreKept gap) (sym (since_is t vessel.points h.in_order)) (are_kept gap t vessel.points (record {
      points = h.points;
      ends = subst (λ (ls : List Leg). IfSome (last_or None vessel.points) (λ latest. IfSome (last_or None ls) (EndsAt gap latest))) legs h.ends;
      are_joined = subst (AreJoined gap) legs h.are_joined;
    })) in
    record {
      points = now.points;
      in_order = order_since t vessel.points h.in_order;
      no_others = sym (since-same t vessel.points);
      legs = refl;
      ends = now.ends;
      are_joined = now.are_joined;
      ship = h.ship;
    }

-- ---- each vessel

one_changes : {A : Type 0} (f : A → A) (xs : List A) (i : ℕ) (d : A) → i < length xs
    → set (map f (take i xs) ++ drop i xs) i (f (get_or (map f (take i xs) ++ drop i xs) i d)) ≡ map f (take (suc i) xs) ++ drop (suc i) xs
one_changes f [] i d lt = absurd (omega arith)
one_changes f (x ∷ xs) zero d lt = refl
one_changes f (x ∷ xs) (suc i) d lt = ap (λ (ys : List _). f x ∷ ys) (one_changes f xs i d (omega arith))

-- The elements below the index are changed, and then that at the index.
pub one_on : {A : Type 0} (f : A → A) (xs items : List A) (i : ℕ) (d : A) → i < length xs → items ≡ map f (take i xs) ++ drop i xs
    → set items i (f (get_or items i d)) ≡ map f (take (i + 1) xs) ++ drop (i + 1) xs
one_on f xs items i d lt e =
    ap (λ (ys : List _). set ys i (f (get_or ys i d))) e ∙ one_changes f xs i d lt ∙ ap (λ (n : ℕ). map f (take n xs) ++ drop n xs) (one_more i)

-- ---- the book

vessel_forgets : (keeping : Keeping) (numbers : JudgingNumbers) (sent : List Sent) (time earliest mmsi : ℕ) → forgetting keeping time ≡ Since earliest
    → vessel_since numbers.gap earliest (vessel_of keeping numbers sent mmsi) ≡ vessel_of (Since earliest) numbers sent mmsi
vessel_forgets Latest numbers sent time earliest mmsi e = absurd (cc)
vessel_forgets Tracks numbers sent time earliest mmsi e = refl
vessel_forgets (Since before) numbers sent time earliest mmsi e =
    let greater : max before time ≡ earliest = cc in
    let points = since-later before earliest (accepted_of numbers sent mmsi) (accepted_in_order numbers sent mmsi) (omega arith) in
    λ i. record {
      points = points i;
      legs = legs_between numbers.gap (points i);
      counts = kept_counts (Since earliest) numbers.gap (accepted_of numbers sent mmsi);
      statics = statics_of sent mmsi;
    }

map_twice : (f : VesselValue → VesselValue) (g : ℕ → VesselValue) (ms : List ℕ) → map f (map g ms) ≡ map (λ m. f (g m)) ms
map_twice f g [] = refl
map_twice f g (m ∷ ms) = ap (λ (vs : List VesselValue). f (g m) ∷ vs) (map_twice f g ms)

pub stands_since : (old new : BookValue) (numbers : JudgingNumbers) (sent : List Sent) (time earliest : ℕ) → StandsFor old numbers sent → forgetting old.keeping time ≡ Since earliest
    → new.keeping ≡ Since earliest → new.numbers ≡ old.numbers → new.held ≡ old.held → new.vessels ≡ map (vessel_since old.numbers.gap earliest) old.vessels
    → StandsFor new numbers sent
stands_since old new numbers sent time earliest h e keeping same held vessels =
    let ms = held_of numbers sent in
    let gap : old.numbers.gap ≡ numbers.gap = ap (λ (n : JudgingNumbers). n.gap) h.by in
    let each : (m : ℕ) → vessel_since numbers.gap earliest (vessel_of old.keeping numbers sent m) ≡ vessel_of (Since earliest) numbers sent m =
    λ m. vessel_forgets old.keeping numbers sent time earliest m e in
    record {
      by = same ∙ h.by;
      holds = held ∙ h.holds;
      vessels = vessels ∙ (λ i. map (vessel_since (gap i) earliest) (h.vessels i))
          ∙ map_twice (vessel_since numbers.gap earliest) (vessel_of old.keeping numbers sent) ms
          ∙ (λ i. map (λ m. each m i) ms) ∙ (λ i. map (vessel_of (sym keeping i) numbers sent) ms);
    }

all_since : (keeping : Keeping) (gap earliest : ℕ) (vessels : List VesselValue) → All (IsKept keeping gap) vessels → All (IsKept (Since earliest) gap) (map (vessel_since gap earliest) vessels)
all_since keeping gap earliest vessels all =
    All-map (IsKept (Since earliest) gap) (vessel_since gap earliest) vessels (λ k d lt. vessel_since_kept keeping gap earliest (get_or vessels k d) (all k d lt))

pub is_book_since : (old new : BookValue) (earliest : ℕ) → IsBook old → new.keeping ≡ Since earliest → new.numbers ≡ old.numbers → new.held ≡ old.held
    → new.vessels ≡ map (vessel_since old.numbers.gap earliest) old.vessels → IsBook new
is_book_since old new earliest h keeping numbers held vessels = record {
  numbers = rw numbers h.numbers;
  ascends = rw held h.ascends;
  few = rw held h.few;
  each = ap (length {A = VesselValue}) vessels ∙ length-map old.vessels (vessel_since old.numbers.gap earliest) ∙ h.each ∙ ap (length {A = ℕ}) (sym held);
  kept = rw (keeping, numbers, vessels) (all_since old.keeping old.numbers.gap earliest old.vessels h.kept);
}
