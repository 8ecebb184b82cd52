use Rattle.std.proofs.Common.{◌≡◌, ◌*◌, ◌%◌, ◌^◌, ◌≤◌, ◌+◌, subst, arith}
use Rattle.std.proofs.lemmas.Nat.{one_shl}
use Rattle.aivdm.proofs.BitLists.{unsigned_at-bits_in, length-take_bits_in}
use Rattle.aivdm.proofs.bit_slice.BitSlice.unsigned.Goals as goal

pub returns-clause-value : goal.returns-clause-value
returns-clause-value c =
    let sextets = c.self.inside.sextets.now in
    let len = c.self.inside.len in
    let power : 1 * 2 ^ c.args.width % 2 ^ 64 ≡ 2 ^ c.args.width = one_shl c.args.width 64 (omega arith) in
    let within : c.args.first + c.args.width ≤ len
    = subst (λ n. c.args.first + c.args.width ≤ n) (length-take_bits_in sextets len c.self.invariant.enough) (rw c.self.view_is c.requires.within) in
    rw (power, c.number-number.ensures, ← c.self.view_is) (unsigned_at-bits_in sextets len c.args.first c.args.width c.requires.some within c.self.invariant.enough)
