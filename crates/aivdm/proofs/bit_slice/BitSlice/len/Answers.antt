use Rattle.std.proofs.Common.{sym, ap, length, ◌∙◌}
use Rattle.aivdm.proofs.BitLists.{length-take_bits_in}
use Rattle.aivdm.proofs.bit_slice.BitSlice.len.Goals as goal

pub returns : goal.returns
returns c = sym (length-take_bits_in c.self.inside.sextets.now c.self.inside.len c.self.invariant.enough) ∙ ap length c.self.view_is
