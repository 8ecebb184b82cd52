use Rattle.std.proofs.Common.{◌∷◌, [], ℕ, List, ◌∙◌, ap, bit_xor, fold, get_or, replicate, sym, take}
use Rattle.std.proofs.lemmas.List.{take_all, take_more}
use Rattle.std.proofs.lemmas.List.Sums.{fold-append}
use Rattle.std.specs.Simd.Lanes.{zip2}
use Rattle.aivdm.proofs.checksum.sum_of_blocks.Goals as goal

pub loop-block-preserved : goal.loop-block-preserved
loop-block-preserved c =
    let blocks = c.as_chunks.result.0.now in
    let k = c.loop-block.block-index in
    let next = get_or blocks k [] in
    ap (λ (sum : List ℕ). zip2 bit_xor sum next) c.loop-block.invariant
    ∙ sym (ap (fold (zip2 bit_xor) (replicate 16 0)) (take_more blocks k [] c.loop-block-test.true) ∙ fold-append (zip2 bit_xor) (replicate 16 0) (take k blocks) (next ∷ []))

pub returns : goal.returns
returns c =
    let blocks = c.as_chunks.result.0.now in
    c.loop-block.invariant
    ∙ ap (fold (zip2 bit_xor) (replicate 16 0)) (take_all c.loop-block.block-index blocks c.loop-block-test.false)
    ∙ ap (fold (zip2 bit_xor) (replicate 16 0)) c.as_chunks.ensures.front
