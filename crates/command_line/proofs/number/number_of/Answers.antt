use Rattle.std.proofs.Common.{◌<◌, ◌^◌, subst}
use Rattle.command_line.proofs.number.number_of.Goals as goal

pub returns-in-Ok : goal.returns-in-Ok
returns-in-Ok c =
    let read = c.in-Ok.ensures.value.0 in
    (read.0.0, read.1)

pub returns-in-Err : goal.returns-in-Err
returns-in-Err c n small is = c.in-Err.ensures.value.0 (is.0, subst (λ m. m < 2 ^ 64) is.1 small)
