use Rattle.std.proofs.Common.{IsTrue, get_or, subst, sym, arith}
use Rattle.std.proofs.lemmas.List.Edits.{map_over_more}
use Rattle.std.proofs.lemmas.List.{get_or_default}
use Rattle.aivdm.specs.PayloadBits.{is_armour, six_bits}
use Rattle.aivdm.proofs.Payloads.{get_or-mapped}
use Rattle.aivdm.proofs.bits.dearmour.Goals as goal

pub sextet-requires : goal.sextet-requires
sextet-requires c =
    let byte = get_or-mapped six_bits c.args.payload.now c.loop-byte.payload c.loop-byte.byte-index c.loop-byte-test.true c.loop-byte.invariant in
    subst (λ n. IsTrue (is_armour n)) (sym byte) (c.requires c.loop-byte.byte-index 0 c.loop-byte-test.true)

pub loop-byte-preserved : goal.loop-byte-preserved
loop-byte-preserved c =
    rw c.sextet.ensures.value (map_over_more six_bits c.args.payload.now c.loop-byte.payload c.loop-byte.byte-index (get_or c.loop-byte.payload c.loop-byte.byte-index 0) c.loop-byte-test.true c.loop-byte.invariant (get_or_default c.loop-byte.payload c.loop-byte.byte-index 0 (get_or c.loop-byte.payload c.loop-byte.byte-index 0) (omega arith)))
