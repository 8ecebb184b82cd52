-- How a vessel comes to her latest accepted report.
use Rattle.std.proofs.Common.{◌≡◌, ◌∙◌, ℕ, ◌+◌, ◌-◌, ◌*◌, ◌<◌, ◌≤◌, Bool, true, false, cond, nat_le, List, [], ◌∷◌, ◌++◌, get_or, Some, None, refl, ap, sym, subst, arith}
use Rattle.std.specs.Prelude.{Option, IfSome, if◌then◌else◌}
use Rattle.std.specs.List.{All, cons_option, filter, last_or}
use Rattle.std.specs.Option.{option_map, option_to_list}
use Rattle.std.proofs.lemmas.Bool.Decides.{nat_tests}
use Rattle.std.proofs.lemmas.List.{append-nil}
use Rattle.std.proofs.lemmas.List.Elements.{All-cons, All-nil, filter-append}
use Rattle.fixed_geometry.specs.Sizes.{IsWithin}
use Rattle.fixed_geometry.specs.declared.point.Point.{Point}
use Rattle.fixed_geometry.specs.Displacement.{displacement}
use Rattle.motion.specs.TickStates.{MovesLittle, holds, state_at, state_on}
use Rattle.motion.specs.declared.leg.Leg.{Leg}
use Rattle.motion.specs.declared.leg.TickState.{TickState}
use Rattle.motion.proofs.LastPassing.{filter_none, last_or-at}
use Rattle.motion.proofs.Parts.{between_whole}
use Rattle.tracks.specs.AcceptedReports.{JudgingNumbers}
use Rattle.tracks.specs.JoinedReports.{joined, leg_between, legs_between, legs_from}
use Rattle.tracks.specs.Standing.{BookValue, StandsFor, kept_legs}
use Rattle.tracks.specs.VesselsHeld.{Sent, accepted_of, is_held, legs_of}
use Rattle.tracks.specs.Inner.Keeping.{joined_after}
use Rattle.tracks.specs.declared.accepted.Accepted.{Accepted}
use Rattle.tracks.specs.declared.keeping.Keeping.TheVariants.{Tracks}
use Rattle.tracks.proofs.Holding.{no_points}
use Rattle.tracks.proofs.Joining.{joined-none, joined-some}
use Rattle.tracks.proofs.Lasts.{last_or-push}
use Rattle.tracks.proofs.Legs.{legs_between-push}
use Rattle.tracks.proofs.Rising.{Rises, accepted_rises}

-- ---- before the latest report

-- the reports before the latest one
before_last : (o : Option Accepted) (x : Accepted) (xs : List Accepted) (latest : Accepted) → last_or o (x ∷ xs) ≡ Some latest
    → (others : List Accepted) × (x ∷ xs ≡ others ++ latest ∷ [])
before_last o x [] latest e = let same : x ≡ latest = cc in ([], ap (λ (y : Accepted). y ∷ []) same)
before_last o x (y ∷ ys) latest e =
    let (others, is) = before_last (Some x) y ys latest e in
    (x ∷ others, ap (λ (zs : List Accepted). x ∷ zs) is)

rises_front : (o : Option Accepted) (xs : List Accepted) (latest : Accepted) → Rises o (xs ++ latest ∷ []) → Rises o xs × IfSome (last_or o xs) (λ a. a.time < latest.time)
rises_front o [] latest h = (tt, h.0)
rises_front o (x ∷ xs) latest h = let (front, last) = rises_front (Some x) xs latest h.1 in ((h.0, front), last)

-- ---- when legs end

rises_to : (x : Accepted) (xs : List Accepted) (n : ℕ) → Rises (Some x) xs → IfSome (last_or (Some x) xs) (λ a. a.time ≤ n) → x.time ≤ n
rises_to x [] n h end = end
rises_to x (y ∷ ys) n h end = let next = h.0 in let rest = rises_to y ys n h.1 end in omega arith

one_ends : (gap : ℕ) (from to : Accepted) (n : ℕ) (legs : List Leg) → to.time ≤ n → All (λ leg. leg.t2 ≤ n) legs → All (λ leg. leg.t2 ≤ n) (cons_option (joined gap from to) legs)
one_ends gap from to n legs le all =
    elim (nat_le to.time (from.time + gap)) as (λ b. All (λ leg. leg.t2 ≤ n) (cons_option (cond b (Some (leg_between from to)) None) legs)) [
      | true ↦ All-cons (λ leg. leg.t2 ≤ n) (leg_between from to) legs le all
      | false ↦ all
    ]

-- No leg ends after the last report.
legs_end : (gap : ℕ) (from : Accepted) (xs : List Accepted) (n : ℕ) → Rises (Some from) xs → IfSome (last_or (Some from) xs) (λ a. a.time ≤ n)
    → All (λ leg. leg.t2 ≤ n) (legs_from gap from xs)
unfolding legs_from
legs_end gap from [] n h end = All-nil (λ leg. leg.t2 ≤ n)
legs_end gap from (x ∷ xs) n h end = one_ends gap from x n (legs_from gap x xs) (rises_to x xs n h.1 end) (legs_end gap x xs n h.1 end)

all_end : (gap : ℕ) (xs : List Accepted) (n : ℕ) → Rises None xs → IfSome (last_or None xs) (λ a. a.time ≤ n) → All (λ leg. leg.t2 ≤ n) (legs_between gap xs)
all_end gap [] n h end = All-nil (λ leg. leg.t2 ≤ n)
all_end gap (x ∷ xs) n h end = legs_end gap x xs n h.1 end

over : (t : ℕ) (leg : Leg) → leg.t2 < t → holds t leg ≡ false
over t leg lt = grind (arith, nat_tests)

-- Where all legs are over, none holds the time.
not_seen : (t n : ℕ) (legs : List Leg) → n < t → All (λ leg. leg.t2 ≤ n) legs → state_at t legs ≡ None
unfolding state_at
not_seen t n legs lt all =
    rw (filter_none (holds t) legs (λ k d within. over t (get_or legs k d) (let le = all k d within in omega arith))) refl

nothing_seen : (t : ℕ) → state_at t [] ≡ None
unfolding state_at
nothing_seen t = refl

-- ---- the leg to the latest report

held_at_end : (leg : Leg) → leg.t1 < leg.t2 → holds leg.t2 leg ≡ true
held_at_end leg lasts = grind (arith, nat_tests)

filter_yes : (p : Leg → Bool) (leg : Leg) → p leg ≡ true → filter p (leg ∷ []) ≡ leg ∷ []
filter_yes p leg e = rw e refl

-- At its end a vessel is seen on the last leg.
seen_at_end : (legs : List Leg) (leg : Leg) → leg.t1 < leg.t2 → state_at leg.t2 (legs ++ leg ∷ []) ≡ Some (state_on leg.t2 leg)
unfolding state_at
seen_at_end legs leg lasts =
    ap (λ (xs : List Leg). option_map (state_on leg.t2) (last_or None xs))
    (filter-append (holds leg.t2) legs (leg ∷ []) ∙ ap (λ (xs : List Leg). filter (holds leg.t2) legs ++ xs) (filter_yes (holds leg.t2) leg (held_at_end leg lasts)))
    ∙ ap (option_map (state_on leg.t2)) (last_or-push None (filter (holds leg.t2) legs) leg)

-- She is at the report there.
at_end : (leg : Leg) → leg.t1 < leg.t2 → (state_on leg.t2 leg).point ≡ leg.p2
unfolding state_on
at_end leg lasts =
    let x = between_whole leg.p1.x leg.p2.x (leg.t2 - leg.t1) (omega arith) in
    let y = between_whole leg.p1.y leg.p2.y (leg.t2 - leg.t1) (omega arith) in
    λ i. record { x = x i; y = y i }

-- ---- how far she comes

abbrev Comes : ℕ → ℕ → TickState → Accepted → Type 0
Comes gap t before latest = IsWithin ((latest.time - t) * 525763 + 2) (displacement before.point latest.point)

-- by a leg
by_leg : (gap t : ℕ) (legs : List Leg) (previous latest : Accepted) (before : TickState) → previous.time < latest.time
    → MovesLittle gap (legs ++ leg_between previous latest ∷ []) → t < latest.time → latest.time ≤ t + gap
    → state_at t (legs ++ leg_between previous latest ∷ []) ≡ Some before → Comes gap t before latest
by_leg gap t legs previous latest before lasts moves lt close seen =
    let leg : Leg = leg_between previous latest in
    subst (λ (p : Point). IsWithin ((latest.time - t) * 525763 + 2) (displacement before.point p)) (at_end leg lasts)
    (moves t latest.time before (state_on latest.time leg) (omega arith) close seen (seen_at_end legs leg lasts))

no_others : (others : List Accepted) → last_or None others ≡ None → others ≡ []
no_others [] e = refl
no_others (x ∷ xs) e = let some = last_or-at None x xs x in cc

-- after the earlier reports; `o` is the last of these
after_others : (gap t : ℕ) (others : List Accepted) (latest : Accepted) (before : TickState) (o : Option Accepted) → last_or None others ≡ o → Rises None others
    → IfSome o (λ a. a.time < latest.time) → MovesLittle gap (legs_between gap others ++ option_to_list (joined_after gap o latest)) → t < latest.time → latest.time ≤ t + gap
    → state_at t (legs_between gap others ++ option_to_list (joined_after gap o latest)) ≡ Some before → Comes gap t before latest
after_others gap t others latest before None is rises later moves lt close seen =
    let empty : legs_between gap others ++ [] ≡ [] = ap (λ (xs : List Accepted). legs_between gap xs ++ []) (no_others others is) in
    let none : None ≡ Some before = sym (nothing_seen t) ∙ ap (state_at t) (sym empty) ∙ seen in
    cc
after_others gap t others latest before (Some previous) is rises later moves lt close seen =
    by (joined gap previous latest) refl moves seen
  where
    by : (o : Option Leg) → joined gap previous latest ≡ o → MovesLittle gap (legs_between gap others ++ option_to_list o)
        → state_at t (legs_between gap others ++ option_to_list o) ≡ Some before → Comes gap t before latest
    by (Some leg) e moves seen =
        let is = joined-some gap previous latest leg e in
        by_leg gap t (legs_between gap others) previous latest before later (subst (λ (l : Leg). MovesLittle gap (legs_between gap others ++ l ∷ [])) is moves) lt close
        (subst (λ (l : Leg). state_at t (legs_between gap others ++ l ∷ []) ≡ Some before) is seen)
    by None e moves seen =
        let apart : previous.time + gap < latest.time = joined-none gap previous latest e in
        let end : IfSome (last_or None others) (λ a. a.time ≤ previous.time) = subst (λ (o : Option Accepted). IfSome o (λ a. a.time ≤ previous.time)) (sym is) (omega arith) in
        let none : state_at t (legs_between gap others) ≡ None = not_seen t previous.time (legs_between gap others) (omega arith) (all_end gap others previous.time rises end) in
        let some : state_at t (legs_between gap others) ≡ Some before = ap (state_at t) (sym (append-nil (legs_between gap others))) ∙ seen in
        cc

comes : (gap t : ℕ) (xs : List Accepted) (latest : Accepted) (before : TickState) → Rises None xs → MovesLittle gap (legs_between gap xs) → last_or None xs ≡ Some latest
    → t < latest.time → latest.time ≤ t + gap → state_at t (legs_between gap xs) ≡ Some before → Comes gap t before latest
comes gap t [] latest before rises moves last lt close seen = cc
comes gap t (x ∷ xs) latest before rises moves last lt close seen =
    let (others, is) = before_last None x xs latest last in
    let (front, later) = rises_front None others latest (subst (Rises None) is rises) in
    let legs = ap (legs_between gap) is ∙ legs_between-push gap others latest in
    after_others gap t others latest before (last_or None others) refl front later (subst (MovesLittle gap) legs moves) lt close (ap (state_at t) (sym legs) ∙ seen)

comes_on_legs : (numbers : JudgingNumbers) (sent : List Sent) (mmsi : ℕ) (latest : Accepted) → MovesLittle numbers.gap (legs_of numbers sent mmsi)
    → last_or None (accepted_of numbers sent mmsi) ≡ Some latest → (t : ℕ) (before : TickState) → t < latest.time → latest.time ≤ t + numbers.gap
    → state_at t (legs_of numbers sent mmsi) ≡ Some before → Comes numbers.gap t before latest
unfolding accepted_of legs_of
comes_on_legs numbers sent mmsi latest moves last t before lt close seen =
    comes numbers.gap t (accepted_of numbers sent mmsi) latest before (accepted_rises numbers _ None) moves last lt close seen

-- ---- in the book

legs_move : (book : BookValue) (numbers : JudgingNumbers) (sent : List Sent) (mmsi : ℕ) (o : Option (List Leg)) → book.keeping ≡ Tracks → StandsFor book numbers sent
    → o ≡ (if is_held numbers sent mmsi then Some (kept_legs book.keeping numbers.gap (accepted_of numbers sent mmsi)) else None) → IfSome o (MovesLittle book.numbers.gap)
    → is_held numbers sent mmsi ≡ true → MovesLittle numbers.gap (legs_of numbers sent mmsi)
unfolding legs_of
legs_move book numbers sent mmsi o all h e moves held =
    let some : o ≡ Some (legs_of numbers sent mmsi) = e ∙ (λ i. if held i then Some (kept_legs (all i) numbers.gap (accepted_of numbers sent mmsi)) else None) in
    let gap : book.numbers.gap ≡ numbers.gap = ap (λ (n : JudgingNumbers). n.gap) h.by in
    subst (λ (g : ℕ). MovesLittle g (legs_of numbers sent mmsi)) gap (subst (λ (o : Option (List Leg)). IfSome o (MovesLittle book.numbers.gap)) some moves)

pub comes_to_latest : (book : BookValue) (numbers : JudgingNumbers) (sent : List Sent) (mmsi : ℕ) (o : Option (List Leg)) → book.keeping ≡ Tracks → StandsFor book numbers sent
    → o ≡ (if is_held numbers sent mmsi then Some (kept_legs book.keeping numbers.gap (accepted_of numbers sent mmsi)) else None) → IfSome o (MovesLittle book.numbers.gap)
    → (latest : Accepted) → last_or None (accepted_of numbers sent mmsi) ≡ Some latest
    → (t : ℕ) (before : TickState) → t < latest.time → latest.time ≤ t + numbers.gap
    → state_at t (legs_of numbers sent mmsi) ≡ Some before → IsWithin ((latest.time - t) * 525763 + 2) (displacement before.point latest.point)
comes_to_latest book numbers sent mmsi o all h e moves latest last t before lt close seen = decide (is_held numbers sent mmsi) refl
  where
    decide : (b : Bool) → is_held numbers sent mmsi ≡ b → Comes numbers.gap t before latest
    decide true held = comes_on_legs numbers sent mmsi latest (legs_move book numbers sent mmsi o all h e moves held) last t before lt close seen
    decide false not = let none : None ≡ Some latest = ap (last_or None) (sym (no_points numbers sent mmsi not)) ∙ last in cc
