use Rattle.std.proofs.Common.{◌≡◌, ℕ, ◌%◌, max, sym, ◌∙◌, arith}
use Rattle.std.specs.Int.{bit_at, w64}
use Rattle.std.specs.Int.RustNames.{bit_or}
use Rattle.std.proofs.lemmas.Nat.Bits.{bit_at_or, bit_at-lt, bit_at_set_same}
use Rattle.mtl_monitor.proofs.marks.marked.Goals as goal

more : (m s k : ℕ) → bit_at (bit_or m s) k ≡ 0 → bit_at m k ≡ 0
more m s k none = let both : max (bit_at m k) (bit_at s k) ≡ 0 = sym (bit_at_or m s k) ∙ none in omega (arith, both)

stays : (m s k : ℕ) → bit_at m k ≡ 1 → bit_at (bit_or m s) k ≡ 1
stays m s k is = bit_at_or m s k ∙ omega (arith, is, bit_at-lt s k)

pub returns-clause-here : goal.returns-clause-here
returns-clause-here c = bit_at_set_same w64 c.args.marks (c.args.index % 64) (omega arith)

pub returns-clause-others : goal.returns-clause-others
returns-clause-others c = λ k. more c.args.marks _ k

pub returns-clause-stay : goal.returns-clause-stay
returns-clause-stay c = λ k. stays c.args.marks _ k
