use Rattle.std.proofs.Common.{◌≡◌, ◌*◌, ◌/◌, length, take, drop, replicate, bit_xor, refl, sym, ap, ap₂, ◌∙◌, arith, rules, take-append-drop}
use Rattle.std.specs.Simd.Lanes.{zip2}
use Rattle.aivdm.specs.Checksums.{sum_of}
use Rattle.aivdm.proofs.Sums.{of_fold_l, of_lanes, of_append, of_blocks, length-blocks}
use lib.Bits.{xor_zero_l}
use Rattle.aivdm.proofs.checksum.sum_of.Goals as goal

pub returns : goal.returns
returns c =
    let bytes = c.args.bytes.now in
    let blocks = c.sum_of_blocks.result in
    let behind = c.behind_blocks.result in
    let e = c.sum_of_blocks.ensures in
    let seams = length bytes / 16 * 16 in
    let long : length blocks ≡ 16 = ap length e ∙ length-blocks 16 (length bytes / 16) (replicate 16 0) bytes refl (omega arith) in
    let long-behind : length behind ≡ 16 = search rules in
    let front : sum_of blocks ≡ sum_of (take seams bytes) = ap sum_of e ∙ of_blocks 16 (length bytes / 16) (replicate 16 0) bytes refl (omega arith) ∙ xor_zero_l (sum_of (take seams bytes)) in
    of_fold_l 0 (zip2 bit_xor blocks behind) ∙ of_lanes blocks behind (omega arith) ∙ ap₂ bit_xor front c.behind_blocks.ensures
    ∙ sym (of_append (take seams bytes) (drop seams bytes)) ∙ ap sum_of (take-append-drop seams bytes)
