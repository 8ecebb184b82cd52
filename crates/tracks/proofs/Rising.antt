-- Accepted reports come later and later.
use Rattle.std.proofs.Common.{◌≡◌, ◌∙◌, ℕ, zero, suc, ◌-◌, ◌<◌, ◌≤◌, inl, inr, Bool, true, false, cond, nat_le, List, [], ◌∷◌, ◌++◌, length, get_or, Some, None, Ok, Err, refl, ap, sym, subst, arith}
use native.Mathlib.Numerals.{unary_clauses}
use Rattle.std.specs.Prelude.{Option, IfSome}
use Rattle.std.specs.List.{find, last_or}
use Rattle.std.proofs.Math.Nat.{eq-or-lt_of_le}
use Rattle.std.proofs.lemmas.Bool.Decides.{nat_tests}
use Rattle.std.proofs.lemmas.List.Sorted.{IsNonDecreasingBy-push}
use Rattle.motion.proofs.LastPassing.{last_or-at}
use Rattle.tracks.specs.AcceptedReports.{JudgingNumbers, Reported, accepted_after, accepted_with, applies, judged, judged_after, judged_at, placed, unless}
use Rattle.tracks.specs.VesselsHeld.{Sent, accepted_of}
use Rattle.tracks.specs.Inner.Keeping.{AreInOrder}
use Rattle.tracks.specs.declared.accepted.Accepted.{Accepted}
use Rattle.tracks.specs.declared.entry.ReportCause.{ReportCause}
use Rattle.tracks.specs.declared.entry.ReportCause.TheVariants.{Back, Repeat, Jump}
use Rattle.tracks.proofs.OneList.{judged_placed}

-- each is later than the one before it
abbrev pub Rises : Option Accepted → List Accepted → Type 0
Rises o [] = Unit {0}
Rises o (x ∷ xs) = IfSome o (λ a. a.time < x.time) × Rises (Some x) xs

-- A report is not back where it is accepted.
not_back : (latest now accepted : Accepted) (b : Bool) (others : Option ReportCause) → nat_le now.time latest.time ≡ b
    → unless now (cond b (Some Back) others) ≡ Ok accepted → latest.time < now.time
not_back latest now accepted true others e ok = cc
not_back latest now accepted false others e ok = grind (arith, nat_tests)

after_later : (numbers : JudgingNumbers) (latest now accepted : Accepted) → judged_after numbers (Some latest) now ≡ Ok accepted → latest.time < now.time
after_later numbers latest now accepted e =
    not_back latest now accepted (nat_le now.time latest.time) (find (applies numbers latest now) (Repeat ∷ Jump ∷ [])) refl e

judged_later : (numbers : JudgingNumbers) (latest : Option Accepted) (now : Reported) (accepted : Accepted) → judged numbers latest now ≡ Ok accepted
    → IfSome latest (λ a. a.time < accepted.time)
unfolding judged
judged_later numbers None now accepted e = tt
judged_later numbers (Some latest) now accepted e =
    let at : placed numbers.reference now ≡ Ok accepted = judged_placed numbers (Some latest) now accepted e in
    after_later numbers latest accepted accepted (ap (judged_at numbers (Some latest)) (sym at) ∙ e)

pub accepted_rises : (numbers : JudgingNumbers) (reports : List Reported) (latest : Option Accepted) → Rises latest (accepted_after numbers reports latest)
unfolding accepted_after
accepted_rises numbers [] latest = tt
accepted_rises numbers (now ∷ reports) latest =
    elim (judged numbers latest now) as (λ r. judged numbers latest now ≡ r → Rises latest (accepted_with (accepted_after numbers reports) latest r)) [
      | Ok accepted ↦ λ e. (judged_later numbers latest now accepted e, accepted_rises numbers reports (Some accepted))
      | Err cause ↦ λ e. accepted_rises numbers reports latest
    ] refl

-- ---- by indices

all_later : (x : Accepted) (xs : List Accepted) → Rises (Some x) xs → (k : ℕ) (d : Accepted) → k < length xs → x.time < (get_or xs k d).time
all_later x [] h k d lt = absurd (omega arith)
all_later x (y ∷ ys) h zero d lt = h.0
all_later x (y ∷ ys) h (suc k) d lt =
    let next : x.time < y.time = h.0 in
    let rest : y.time < (get_or ys k d).time = all_later y ys h.1 k d (omega arith) in
    omega arith

rises_lt : (o : Option Accepted) (xs : List Accepted) → Rises o xs → (i j : ℕ) (d : Accepted) → i < j → j < length xs → (get_or xs i d).time < (get_or xs j d).time
rises_lt o [] h i j d lt within = absurd (omega arith)
rises_lt o (x ∷ xs) h i zero d lt within = absurd (omega arith)
rises_lt o (x ∷ xs) h zero (suc j) d lt within = all_later x xs h.1 j d (omega arith)
rises_lt o (x ∷ xs) h (suc i) (suc j) d lt within = rises_lt (Some x) xs h.1 i j d (omega arith) (omega arith)

in_order : (xs : List Accepted) → Rises None xs → AreInOrder xs
in_order xs h i j d le within =
    elim (eq-or-lt_of_le le) [
      | inl same ↦ (let e : (get_or xs i d).time ≡ (get_or xs j d).time = ap (λ (k : ℕ). (get_or xs k d).time) same in omega arith)
      | inr before ↦ (let lt : (get_or xs i d).time < (get_or xs j d).time = rises_lt None xs h i j d before within in omega arith)
    ]

pub accepted_in_order : (numbers : JudgingNumbers) (sent : List Sent) (mmsi : ℕ) → AreInOrder (accepted_of numbers sent mmsi)
unfolding accepted_of
accepted_in_order numbers sent mmsi = in_order _ (accepted_rises numbers _ None)

-- ---- one less, and one more

pub order_less : (x : Accepted) (xs : List Accepted) → AreInOrder (x ∷ xs) → AreInOrder xs
order_less x xs h i j d le within = h (suc i) (suc j) d (omega arith) (omega arith)

last_at : (xs : List Accepted) (now : Accepted) → IfSome (last_or None xs) (λ latest. latest.time < now.time) → (d : Accepted) → 0 < length xs
    → (get_or xs (length xs - 1) d).time ≤ now.time
last_at [] now later d some = absurd (omega arith)
last_at (x ∷ xs) now later d some =
    let before : (get_or (x ∷ xs) (length xs) d).time < now.time = subst (λ (o : Option Accepted). IfSome o (λ a. a.time < now.time)) (last_or-at None x xs d) later in
    simp unary_clauses (omega arith)

pub order_push : (xs : List Accepted) (now : Accepted) → AreInOrder xs → IfSome (last_or None xs) (λ latest. latest.time < now.time) → AreInOrder (xs ++ now ∷ [])
order_push xs now h later = IsNonDecreasingBy-push (λ (report : Accepted). report.time) xs now h (last_at xs now later)
