use Rattle.std.proofs.Common.{ℕ, refl, arith, cond}
use Rattle.std.proofs.lemmas.Simd.{splat_is_map, length-chunk, chunk-fits}
use lib.Lanes.{chunk}
use lib.Dec.{leb}
use mir.Syntax.{w8}
use Rattle.aivdm.specs.PayloadBits.{is_armour}
use Rattle.aivdm.proofs.Masks.{itself, joined, no_top_bit}
use Rattle.aivdm.proofs.armour.is_armoured_at.Goals as goal

-- the lanes of b that are at least those of a
abbrev at_least : ℕ → ℕ → ℕ
at_least a b = cond (leb a b) 255 0

pub returns : goal.returns
returns c =
    let v = chunk c.args.at 16 c.args.payload.now in
    let long = length-chunk c.args.at 16 c.args.payload.now c.requires in
    no_top_bit is_armour v _ _ (omega arith) (chunk-fits w8 c.args.at 16 c.args.payload.now c.type_inv.payload)
    (joined _ _ _ v
    (joined at_least _ _ v (splat_is_map v 16 40 long) (joined _ _ _ v (itself v) (splat_is_map v 16 48 long)))
    (joined at_least _ _ v (splat_is_map v 16 24 long) (joined _ _ _ v (itself v) (splat_is_map v 16 96 long))))
    refl
