use Rattle.std.proofs.Common.{◌≡◌, ◌-◌, ◌*◌, ◌^◌, ◌%◌, arith, mod-eq_of_lt}
use Rattle.aivdm.proofs.Written.{raised_below}
use Rattle.aivdm.proofs.writer.with_zeros.Goals as goal

pub overflow_cast-result : goal.overflow_cast-result
overflow_cast-result c =
    let small = raised_below c.args.number c.args.width c.requires.fits c.requires.few in
    let same : c.args.number * 2 ^ (6 - c.args.width) % 2 ^ 32 ≡ c.args.number * 2 ^ (6 - c.args.width) = mod-eq_of_lt (omega arith) in
    omega arith

pub returns-clause-value : goal.returns-clause-value
returns-clause-value c =
    let small = raised_below c.args.number c.args.width c.requires.fits c.requires.few in mod-eq_of_lt (omega arith)

pub returns-clause-bound : goal.returns-clause-bound
returns-clause-bound c =
    let small = raised_below c.args.number c.args.width c.requires.fits c.requires.few in
    let same : c.args.number * 2 ^ (6 - c.args.width) % 2 ^ 32 ≡ c.args.number * 2 ^ (6 - c.args.width) = mod-eq_of_lt (omega arith) in
    omega arith
