use Rattle.std.proofs.Common.{ℕ, refl, arith, cond}
use Rattle.std.proofs.lemmas.Simd.{splat_is_map, length-chunk, chunk-fits}
use Rattle.std.specs.Char.{is_ascii_digit}
use lib.Lanes.{chunk}
use lib.Dec.{leb}
use mir.Syntax.{w8}
use Rattle.aivdm.proofs.Masks.{itself, joined, no_top_bit}
use Rattle.aivdm.proofs.tag_block.are_digits_at.Goals as goal

-- the lanes of b that are at least those of a
abbrev at_least : ℕ → ℕ → ℕ
at_least a b = cond (leb a b) 255 0

pub returns : goal.returns
returns c =
    let v = chunk c.args.at 8 c.args.bytes.now in
    let long = length-chunk c.args.at 8 c.args.bytes.now c.requires in
    no_top_bit is_ascii_digit v _ _ (omega arith) (chunk-fits w8 c.args.at 8 c.args.bytes.now c.type_inv.bytes)
    (joined at_least _ _ v (splat_is_map v 8 10 long) (joined _ _ _ v (itself v) (splat_is_map v 8 48 long)))
    refl
