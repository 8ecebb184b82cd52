use Rattle.std.proofs.Common.{refl, sym, get_or, take, arith}
use Rattle.std.proofs.lemmas.List.{take_more, length-take}
use Rattle.aivdm.specs.BitFields.{bits_value}
use Rattle.aivdm.proofs.BitLists.{number_of-bits_in_push, number_of-bits_in_below}
use Rattle.aivdm.proofs.bit_slice.number.Goals as goal

pub loop-sextet-init : goal.loop-sextet-init
unfolding bits_value
loop-sextet-init c = refl

pub overflow_mul-number : goal.overflow_mul-number
overflow_mul-number c =
    let below = number_of-bits_in_below (take c.loop-sextet.sextet-index c.args.sextets.now) 9 (omega (arith, length-take c.loop-sextet.sextet-index c.args.sextets.now)) in
    omega (arith, c.loop-sextet.invariant)

pub overflow_add-number : goal.overflow_add-number
overflow_add-number c =
    let below = number_of-bits_in_below (take c.loop-sextet.sextet-index c.args.sextets.now) 9 (omega (arith, length-take c.loop-sextet.sextet-index c.args.sextets.now)) in
    omega (arith, c.loop-sextet.invariant, c.requires.six c.loop-sextet.sextet-index 0 c.loop-sextet-test.true)

pub loop-sextet-preserved : goal.loop-sextet-preserved
loop-sextet-preserved c =
    let i = c.loop-sextet.sextet-index in
    let xs = c.args.sextets.now in
    let small = c.requires.six i 0 c.loop-sextet-test.true in
    rw (c.from.ensures, c.loop-sextet.invariant, take_more xs i 0 c.loop-sextet-test.true) (sym (number_of-bits_in_push (take i xs) (get_or xs i 0) small))
