use Rattle.std.proofs.Common.{◌≡◌, not, length, sym, ap, ◌∙◌, arith}
use Rattle.aivdm.proofs.BitLists.{length-take_bits_in}
use Rattle.aivdm.proofs.bits.Bits.append.Goals as goal

pub returns-in_default-clause-inline : goal.returns-in_default-clause-inline
returns-in_default-clause-inline c = λ few.
    let inside = c.self.inside in
    let size : length c.args.self.now ≡ inside.len = sym (ap length c.self.view_is) ∙ length-take_bits_in inside.sextets.items inside.len c.self.invariant.sextets_are.enough in
    absurd (omega (arith, c.in_default.ensures.none))

pub returns-then-is_err-clause-inline : goal.returns-then-is_err-clause-inline
returns-then-is_err-clause-inline c = λ few.
    let inside = c.self.inside in
    let size : length c.args.self.now ≡ inside.len = sym (ap length c.self.view_is) ∙ length-take_bits_in inside.sextets.items inside.len c.self.invariant.sextets_are.enough in
    sym (c.is_err.ensures.negation ∙ ap not c.if-is_err.true)
    ∙ c.reserve.ensures.succeeds (omega (arith, c.in-Some.ensures.sum, c.len.ensures.value, c.len.ensures.fits, c.self.invariant.room))
