use Rattle.std.proofs.Common.{◌≡◌, ℕ, min, ap, sym, ◌∙◌, arith}
use Rattle.std.proofs.lemmas.Bool.Decides.{nat_tests}
use Rattle.std.specs.Int.{bit_at}
use Rattle.std.specs.Int.RustNames.{bit_and}
use Rattle.std.proofs.lemmas.Nat.Bits.{bit_at_and, bit_at-zero}
use Rattle.mtl_monitor.proofs.marks.are_unset.Goals as goal

unset : (m s : ℕ) → bit_and m s ≡ 0 → (k : ℕ) → bit_at s k ≡ 1 → bit_at m k ≡ 0
unset m s none k is =
    let both : min (bit_at m k) (bit_at s k) ≡ 0 = sym (bit_at_and m s k) ∙ (ap (λ n. bit_at n k) none ∙ bit_at-zero k) in
    omega (arith, both, is)

pub returns : goal.returns
returns c = λ h. unset c.args.marks c.args.some (grind (arith, nat_tests, h))
