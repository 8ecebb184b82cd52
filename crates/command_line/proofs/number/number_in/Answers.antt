use Rattle.std.proofs.Common.{◌≡◌, ◌∙◌, arith, sym}
use Rattle.command_line.proofs.number.number_in.Goals as goal

pub returns-then-number-least : goal.returns-then-number-least
returns-then-number-least c n is =
    let same : c.in-Some.number ≡ n = c.in-Some.ensures.1 ∙ sym is.2.1 in
    let below = c.if-number-least.true in
    omega (arith, is)

pub returns-then-most-number : goal.returns-then-most-number
returns-then-most-number c n is =
    let same : c.in-Some.number ≡ n = c.in-Some.ensures.1 ∙ sym is.2.1 in
    let above = c.if-most-number.true in
    omega (arith, is)
