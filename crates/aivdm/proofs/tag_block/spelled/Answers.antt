use Rattle.std.proofs.Common.{◌<◌, ◌^◌, take, get_or, arith, length-take}
use Rattle.std.proofs.lemmas.Int.Digits.{digits_value_more}
use Rattle.std.specs.Str.Parse.{digits_value}
use Rattle.aivdm.proofs.Digits.{digits-below, digits_before, digit_at, digit_is, digit_from}
use Rattle.aivdm.proofs.tag_block.spelled.Goals as goal

pub overflow_mul-number : goal.overflow_mul-number
overflow_mul-number c =
    let digits = c.args.digits.now in
    let so_far = take c.loop-digit.digit-index digits in
    let below : digits_value 10 so_far < 10 ^ 14 = digits-below so_far 14 (digits_before digits c.loop-digit.digit-index c.requires.decimal) (omega (arith, length-take c.loop-digit.digit-index digits)) in
    omega (arith, c.loop-digit.invariant)

pub overflow_add-number : goal.overflow_add-number
overflow_add-number c =
    let digits = c.args.digits.now in
    let so_far = take c.loop-digit.digit-index digits in
    let below : digits_value 10 so_far < 10 ^ 14 = digits-below so_far 14 (digits_before digits c.loop-digit.digit-index c.requires.decimal) (omega (arith, length-take c.loop-digit.digit-index digits)) in
    omega (arith, c.loop-digit.invariant, c.from.ensures, c.from-in-loop-digit.ensures)

pub overflow_sub-value : goal.overflow_sub-value
overflow_sub-value c =
    omega (arith, c.from.ensures, c.from-in-loop-digit.ensures, digit_from (get_or c.args.digits.now c.loop-digit.digit-index 0) (digit_at c.args.digits.now c.loop-digit.digit-index c.loop-digit-test.true c.requires.decimal))

pub loop-digit-preserved : goal.loop-digit-preserved
loop-digit-preserved c =
    let digits = c.args.digits.now in
    let i = c.loop-digit.digit-index in
    let here = digit_at digits i c.loop-digit-test.true c.requires.decimal in
    let value = digit_is (get_or digits i 0) here in
    let more = digits_value_more 10 digits i c.loop-digit-test.true in
    rw (more, value, ← c.loop-digit.invariant, c.from.ensures, c.from-in-loop-digit.ensures) (omega arith)
