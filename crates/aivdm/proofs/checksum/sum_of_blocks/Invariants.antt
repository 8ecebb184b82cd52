use Rattle.std.proofs.Common.{◌≡◌, bit_xor, fold, replicate, take}
use Rattle.std.specs.Simd.Lanes.{zip2}
use Rattle.aivdm.proofs.checksum.sum_of_blocks.Given as goal

-- the blocks so far are summed up
abbrev pub invariant-loop-block : goal.invariant-loop-block
invariant-loop-block l = l.sum ≡ fold (zip2 bit_xor) (replicate 16 0) (take l.block-index l.blocks)
