-- The last report that has come.
use Rattle.std.proofs.Common.{◌≡◌, ℕ, zero, suc, ◌-◌, ◌≤◌, List, length, get_or, Some, None, ap, subst, sym, arith}
use Rattle.std.specs.Prelude.{IsSome, Option, nat_le}
use Rattle.std.specs.List.{last_or}
use Rattle.std.proofs.lemmas.Bool.Decides.{nat_tests}
use Rattle.motion.proofs.LastPassing.{last_passing}
use Rattle.tracks.specs.declared.accepted.Accepted.{Accepted}
use Rattle.ranks.specs.VesselRanks.{report_at}
use Rattle.ranks.proofs.Fronts.{IsBy, front_by}

pub one_has_come : (points : List Accepted) (time i : ℕ) → IsBy (λ point. point.time) points time i → i ≤ length points → IsSome (report_at points time) → 1 ≤ i
one_has_come points time zero parts le some = let none : report_at points time ≡ None = ap (λ (reports : List Accepted). last_or None reports) (sym (front_by (λ point. point.time) points time 0 parts le)) in
    absurd (nothing (subst (λ (report : Option Accepted). IsSome report) none some))
  where
    nothing : IsSome {T = Accepted} None → ⊥
    nothing h = cc
one_has_come points time (suc i) parts le some = omega arith

pub report_here : (points : List Accepted) (time i : ℕ) (d : Accepted) → IsBy (λ point. point.time) points time i → i ≤ length points → 1 ≤ i
    → Some (get_or points (i - 1) d) ≡ report_at points time
report_here points time i d parts le some =
    let here = parts.0 (i - 1) d (omega arith) (omega arith) in
    sym (last_passing (λ point. nat_le point.time time) points (i - 1) d (omega arith) (grind (arith, nat_tests))
    (λ k e lt within. let after = parts.1 k e (omega arith) within in grind (arith, nat_tests)))
