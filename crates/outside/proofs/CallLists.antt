-- Lists of the calls that are to fail.
use Rattle.std.proofs.Common.{ℕ, ◌==◌, ◌<◌, ◌^◌, nat_lt, IsTrue, List, [], ◌∷◌, arith}
use Rattle.std.proofs.lemmas.Bool.Decides.{nat_tests}
use Rattle.std.specs.List.{list_any, list_all}
use Rattle.outside.specs.Calls.{AreCallNumbers}

below : (ns : List ℕ) (m bound : ℕ) → IsTrue (list_any (λ n. n == m) ns) → IsTrue (list_all (λ n. nat_lt n bound) ns) → m < bound
below [] m bound listed each = cc
below (n ∷ ns) m bound listed each = grind (arith, nat_tests, below ns m bound)

-- a call that is listed is among the first 2^32
pub listed-below : (ns : List ℕ) (m : ℕ) → IsTrue (list_any (λ n. n == m) ns) → AreCallNumbers ns → m < 2 ^ 32
listed-below ns m listed numbers = below ns m (2 ^ 32) listed (grind (arith, nat_tests))
