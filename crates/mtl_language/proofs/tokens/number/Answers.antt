use Rattle.std.proofs.Common.{◌+◌, arith}
use Rattle.mtl_language.proofs.DigitRuns.{digits_step, digits_small, digit_least}
use Rattle.mtl_language.proofs.tokens.number.Goals as goal

pub overflow_mul-n : goal.overflow_mul-n
overflow_mul-n c =
    let item = digits_step c.args.run.now c.loop-b.b-index c.requires c.loop-b-test.true in
    let small = digits_small c.args.run.now (c.loop-b.b-index + 1) c.requires c.if-run-gt9.false in
    omega arith

pub overflow_sub-b : goal.overflow_sub-b
overflow_sub-b c = digit_least c.args.run.now c.loop-b.b-index c.requires c.loop-b-test.true

pub overflow_add-n : goal.overflow_add-n
overflow_add-n c =
    let item = digits_step c.args.run.now c.loop-b.b-index c.requires c.loop-b-test.true in
    let small = digits_small c.args.run.now (c.loop-b.b-index + 1) c.requires c.if-run-gt9.false in
    omega arith

pub loop-b-preserved : goal.loop-b-preserved
loop-b-preserved c =
    let item = digits_step c.args.run.now c.loop-b.b-index c.requires c.loop-b-test.true in
    omega arith
