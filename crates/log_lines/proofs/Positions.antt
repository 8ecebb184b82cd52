-- What a search for a byte answers is std's `position`.
use Rattle.std.proofs.Common.{◌≡◌, ℕ, ◌<◌, ◌≤◌, Bool, false, List, length, Option, None, Some, position, get_or, arith, ⊎_elim}
use Rattle.std.specs.List.{position_or_len}
use Rattle.std.proofs.lemmas.List.Sums.{position_or_len_is}
use Rattle.std.proofs.lemmas.Bool.Decides.{nat_tests}
use Rattle.std.proofs.lemmas.Bool.{cases_Bool}
use Rattle.memchr.specs.Find.{IsFirstByte, Passes}

-- a byte that does not pass fails
fails : (test : ℕ → Bool) (bytes : List ℕ) (k : ℕ) → (Passes test bytes k → ⊥) → test (get_or bytes k 0) ≡ false
fails test bytes k missed = ⊎_elim (λ yes. absurd (missed yes)) (λ is. is) (cases_Bool (test (get_or bytes k 0)))

at_length : (test : ℕ → Bool) (bytes : List ℕ) (n : ℕ) → position_or_len test bytes ≡ n → length bytes ≤ n → None ≡ position test bytes
at_length test bytes n is past = rw is (grind (arith, nat_tests))

below_length : (test : ℕ → Bool) (bytes : List ℕ) (n : ℕ) → position_or_len test bytes ≡ n → n < length bytes → Some n ≡ position test bytes
below_length test bytes n is within = rw is (grind (arith, nat_tests))

pub position-IsFirstByte : (test : ℕ → Bool) (bytes : List ℕ) (found : Option ℕ) → IsFirstByte test bytes found → found ≡ position test bytes
position-IsFirstByte test bytes None first =
    at_length test bytes (length bytes)
    (position_or_len_is test bytes (length bytes) 0 (omega arith) (λ k below. fails test bytes k (first k (omega arith) below)) (λ past. absurd (omega arith)))
    (omega arith)
position-IsFirstByte test bytes (Some k) first =
    below_length test bytes k
    (position_or_len_is test bytes k 0 (omega (arith, first.0.high)) (λ j below. fails test bytes j (first.0.before j (omega arith) below)) (λ _. first.1))
    first.0.high
