-- Calls that fail on purpose: their numbers, and the number of calls so far.
use Rattle.std.specs.Prelude.{ℕ, ◌+◌, ◌^◌, ◌==◌, ◌&&◌, if◌then◌else◌, nat_lt, Bool, true, IsTrue, List, [], ◌∷◌}
use Rattle.std.specs.List.{list_any, list_all}
use Rattle.outside.specs.Causes.{one_more}

-- Calls are numbered from 0, so the next one has the number `made`.
pub record Calls : Type 0 where
  pub fails : List ℕ
  pub made : ℕ

-- whether the next call is among those that fail
abbrev pub is_next_listed : Calls → Bool
is_next_listed calls = list_any (λ n. n == calls.made) calls.fails

-- One more call was made.
abbrev pub with_one_more : Calls → Calls
with_one_more calls = record { fails = calls.fails; made = one_more calls.made }

-- the number of failed calls, after a call that may have been listed
abbrev pub faults_after : Calls → ℕ → ℕ
faults_after calls faults = if is_next_listed calls then faults + 1 else faults

-- whether each number is below all that follow it
abbrev pub is_ascending : List ℕ → Bool
is_ascending [] = true
is_ascending (n ∷ ns) = list_all (λ m. nat_lt n m) ns && is_ascending ns

-- Numbers of calls, in ascending order and below 2^32.
abbrev pub AreCallNumbers : List ℕ → Type 0
AreCallNumbers numbers = IsTrue (is_ascending numbers && list_all (λ n. nat_lt n (2 ^ 32)) numbers)
