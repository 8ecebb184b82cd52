use Rattle.std.proofs.Common.{◌≡◌, ◌+◌, ◌*◌, ◌++◌, Bool, List, ℕ, length, take, sym, ap, ◌∙◌}
use Rattle.aivdm.specs.PayloadBits.{bits_of}
use Rattle.aivdm.specs.Inner.Sextets.{bits_in}
use Rattle.aivdm.proofs.Appended.{filled}
use Rattle.aivdm.proofs.BitLists.{length-take_bits_in}
use Rattle.aivdm.proofs.bits.Bits.append_payload.Goals as goal

pub returns-clause-ok : goal.returns-clause-ok
returns-clause-ok c =
    let inside = c.self.inside in
    let front = c.args.self.now in
    let payload = c.args.payload.now in
    let size : length front ≡ inside.len = sym (ap length c.self.view_is) ∙ length-take_bits_in inside.sextets.items inside.len c.self.invariant.sextets_are.enough in
    let len_is : c.in-Some.len ≡ inside.len + 6 * length payload = c.in-Some.ensures.sum in
    let whole : take (inside.len + 6 * length payload) (bits_in c.append_sextets.new.sextets.items) ≡ front ++ bits_of payload 0
    = c.append_sextets.ensures.bits
    ∙ ap (λ (xs : List ℕ). take inside.len (bits_in xs) ++ bits_of payload 0) c.reserve.ensures.items
    ∙ ap (λ (bits : List Bool). bits ++ bits_of payload 0) c.self.view_is in
    rw (c.truncate.ensures.items, len_is)
    (filled c.append_sextets.new.sextets.items front payload inside.len c.args.fill size c.requires.fill c.requires.some c.append_sextets.ensures.sextets whole)
