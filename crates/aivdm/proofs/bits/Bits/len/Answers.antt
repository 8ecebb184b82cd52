use Rattle.std.proofs.Common.{sym, ap, length, ◌∙◌}
use Rattle.aivdm.proofs.BitLists.{length-take_bits_in}
use Rattle.aivdm.proofs.bits.Bits.len.Goals as goal

pub returns : goal.returns
returns c = sym (length-take_bits_in c.self.inside.sextets.items c.self.inside.len c.self.invariant.sextets_are.enough) ∙ ap length c.self.view_is
