use Rattle.aivdm.proofs.Payloads.{bits_of-sextets, AreSextets-payload}
use Rattle.aivdm.proofs.bit_slice.SentenceRoom.bits_of.Goals as goal

pub invariant_of-result : goal.invariant_of-result
invariant_of-result c =
    rw c.put_all_sextets.ensures (AreSextets-payload c.args.sentence.now.payload.now c.args.sentence.now.fill c.requires.some_payload c.requires.fill_bits c.requires.armoured)

pub returns : goal.returns
returns c = rw c.put_all_sextets.ensures (bits_of-sextets c.args.sentence.now.payload.now c.args.sentence.now.fill)
