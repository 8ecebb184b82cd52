-- Where the last report that has come stands.
use Rattle.std.proofs.Common.{◌≡◌, ◌∙◌, inl, inr, ℕ, zero, suc, ◌+◌, ◌-◌, ◌<◌, ◌≤◌, List, [], ◌∷◌, length, get_or, take, drop, true, Some, None, refl, sym, ap, arith}
use Rattle.std.specs.Prelude.{IsSome, Option, nat_le, slice_get}
use Rattle.std.specs.List.Sorted.{IsNonDecreasingBy}
use Rattle.std.proofs.lemmas.Bool.Decides.{nat_tests}
use Rattle.std.proofs.lemmas.List.{get_or_default}
use Rattle.std.proofs.lemmas.Option.{slice_get-get_or, slice_get_cases}
use Rattle.ranks.proofs.Fronts.{IsBy}
use Rattle.motion.proofs.LastPassing.{found, last_passing}
use Rattle.ranks.proofs.Reports.{one_has_come, report_here}
use Rattle.ranks.specs.VesselRanks.{report_at}
use Rattle.tracks.specs.declared.accepted.Accepted.{Accepted}

module _ (points : List Accepted) (time at : ℕ) (d : Accepted) (within : at < length points) (come : (get_or points at d).time ≤ time) where
  -- It has come, and no later one.
  last_where : ((k : ℕ) (e : Accepted) → at < k → k < length points → time < (get_or points k e).time) → slice_get points at ≡ report_at points time
  last_where later =
      slice_get-get_or points at d within
      ∙ sym (last_passing (λ point. nat_le point.time time) points at d within (grind (arith, nat_tests))
      (λ k e after lt. let behind = later k e after lt in grind (arith, nat_tests)))

  -- It is the last of all.
  pub last_of_all : at + 1 ≡ length points → slice_get points at ≡ report_at points time
  last_of_all end = last_where (λ k e after lt. absurd (omega arith))

  -- The next has not come.
  pub last_before : IsNonDecreasingBy (λ point. point.time) points → time < (get_or points (at + 1) d).time → slice_get points at ≡ report_at points time
  last_before order next = last_where later
    where
      later : (k : ℕ) (e : Accepted) → at < k → k < length points → time < (get_or points k e).time
      later k e after lt =
          let ordered : (get_or points (at + 1) d).time ≤ (get_or points k d).time = order (at + 1) k d (omega arith) lt in
          let same : (get_or points k d).time ≡ (get_or points k e).time = ap (λ (point : Accepted). point.time) (get_or_default points k d e lt) in
          omega arith

-- Of those that have come it is the last.
pub last_of_come : (points : List Accepted) (time come : ℕ) → IsBy (λ point. point.time) points time come → come ≤ length points → IsSome (report_at points time)
    → slice_get points (come - 1) ≡ report_at points time
last_of_come points time come parts bound begun = told (report_at points time) begun
  where
    told : (report : Option Accepted) → IsSome report → slice_get points (come - 1) ≡ report_at points time
    told None none = absurd (cc)
    told (Some d) some =
        let one : 1 ≤ come = one_has_come points time come parts bound begun in
        slice_get-get_or points (come - 1) d (omega arith) ∙ report_here points time come d parts bound one

-- ---- one by itself

one_taken : {X : Type 0} (xs : List X) (at : ℕ) (x : X) → slice_get xs at ≡ Some x → take 1 (drop at xs) ≡ x ∷ []
one_taken [] at x here = absurd (cc)
one_taken (y ∷ ys) zero x here = cc
one_taken (y ∷ ys) (suc at) x here = one_taken ys at x here

-- Where it is the last that has come, it is so by itself, too.
pub last_alone : (points : List Accepted) (at time : ℕ) → at < length points → slice_get points at ≡ report_at points time
    → report_at (take (at + 1 - at) (drop at points)) time ≡ report_at points time
last_alone points at time within last =
    let one : at + 1 - at ≡ 1 = omega arith in
    ap (λ (n : ℕ). report_at (take n (drop at points)) time) one
    ∙ elim ((slice_get_cases points at).1) [
      | inl (x, _, here, _) ↦ (let passes : nat_le x.time time ≡ true = (found (λ point. nat_le point.time time) points x (sym last ∙ here)).passes in
          let itself : report_at (x ∷ []) time ≡ Some x = rw passes refl in
          ap (λ (some : List Accepted). report_at some time) (one_taken points at x here) ∙ itself ∙ sym here ∙ last)
      | inr (past, _) ↦ absurd (omega arith)
    ]
