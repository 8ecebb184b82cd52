use Rattle.std.proofs.Common.{◌≡◌, ◌-◌, ◌%◌, ◌*◌, ◌/◌, ◌+◌, length, drop, ap, ◌∙◌, arith, length-drop}
use Rattle.std.proofs.lemmas.List.{take_all, drop-drop}
use Rattle.std.proofs.lemmas.Simd.{length-chunk}
use Rattle.aivdm.specs.Checksums.{sum_of}
use Rattle.aivdm.proofs.Sums.{of_lanes_from}
use lib.Lanes.{chunk}
use Rattle.aivdm.proofs.checksum.behind_blocks.Goals as goal

pub returns : goal.returns
returns c =
    let bytes = c.args.bytes.now in
    let start = length bytes - 16 in
    let from = 16 - length bytes % 16 in
    let whole : chunk start 16 bytes ≡ drop start bytes = take_all 16 (drop start bytes) (omega (arith, length-drop start bytes)) in
    let place : start + from ≡ length bytes / 16 * 16 = omega arith in
    of_lanes_from from 16 (chunk start 16 bytes) (length-chunk start 16 bytes (omega arith))
    ∙ ap (λ l. sum_of (drop from l)) whole ∙ ap sum_of (drop-drop from start bytes) ∙ ap (λ k. sum_of (drop k bytes)) place
