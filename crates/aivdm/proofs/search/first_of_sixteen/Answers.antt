use Rattle.std.proofs.Common.{◌==◌, ℕ, ◌<◌, eqb, map, Some, sym, ap, ◌∙◌, arith}
use Rattle.std.proofs.lemmas.Simd.{bitmask_splat, length-chunk}
use Rattle.aivdm.proofs.Positions.{first_lane, no_lane}
use lib.Count.{count_trailing_zeros}
use lib.Lanes.{chunk, mask_l}
use mir.Syntax.{w8}
use Rattle.aivdm.proofs.search.first_of_sixteen.Goals as goal

pub returns-then-mask-eq0 : goal.returns-then-mask-eq0
returns-then-mask-eq0 c =
    let byte = c.args.byte in
    let v = chunk c.args.at 16 c.args.bytes.now in
    let long = length-chunk c.args.at 16 c.args.bytes.now c.requires in
    let mask = bitmask_splat w8 eqb v 16 byte long (omega arith) in
    no_lane (λ (other : ℕ). other == byte) v (sym mask ∙ c.if-mask-eq0.true)

pub returns : goal.returns
returns c =
    let byte = c.args.byte in
    let v = chunk c.args.at 16 c.args.bytes.now in
    let long = length-chunk c.args.at 16 c.args.bytes.now c.requires in
    let mask = bitmask_splat w8 eqb v 16 byte long (omega arith) in
    let some : 0 < mask_l (map (λ (other : ℕ). other == byte) v) = omega (arith, mask) in
    ap (λ m. Some (count_trailing_zeros 64 m)) mask ∙ first_lane (λ (other : ℕ). other == byte) v (omega arith) some
