use Rattle.std.proofs.Common.{◌∙◌, ℕ, IsTrue, refl, cond}
use Rattle.std.proofs.lemmas.List.Elements.{All-drop, All-take}
use Rattle.std.proofs.lemmas.List.{length-map}
use Rattle.std.proofs.lemmas.Simd.{splat_is_map, length-chunk, chunk-fits}
use lib.Lanes.{chunk}
use lib.Dec.{leb}
use mir.Syntax.{w8}
use Rattle.aivdm.specs.PayloadBits.{is_armour, six_bits}
use Rattle.aivdm.proofs.Masks.{chosen, itself, joined, same_map, stored}
use Rattle.aivdm.proofs.bit_slice.put_sextets.Goals as goal

-- the lanes of b that are at least those of a
abbrev at_least : ℕ → ℕ → ℕ
at_least a b = cond (leb a b) 255 0

pub returns-clause-put : goal.returns-clause-put
returns-clause-put c =
    let payload = c.args.payload.now in
    let v = chunk c.args.at 16 payload in
    let long = length-chunk c.args.at 16 payload c.requires.payload in
    let is = λ (byte : ℕ). IsTrue (is_armour byte) in
    let armoured = All-take is 16 _ (All-drop is c.args.at payload c.requires.armoured) in
    stored c.args.room.now c.args.at
    (chosen _ _ _ v (joined at_least _ _ v (splat_is_map v 16 96 long) (itself v)) (joined _ _ _ v (itself v) (splat_is_map v 16 56 long))
    (joined _ _ _ v (itself v) (splat_is_map v 16 48 long))
    ∙ same_map is_armour _ six_bits v refl (chunk-fits w8 c.args.at 16 payload c.type_inv.payload) armoured)
    (length-map v six_bits ∙ long) c.requires.room
