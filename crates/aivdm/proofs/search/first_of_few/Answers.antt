use Rattle.std.proofs.Common.{◌==◌, ℕ, ◌-◌, length, arith}
use Rattle.aivdm.proofs.Positions.{in_block, none_more, not_in_last}
use Rattle.aivdm.proofs.search.first_of_few.Goals as goal

pub returns-in-None-Some : goal.returns-in-None-Some
returns-in-None-Some c =
    let test = λ (other : ℕ). other == c.args.byte in
    let bytes = c.args.bytes.now in
    in_block test bytes (length bytes - 8) 8 c.in-None-Some.before (omega arith) c.in-None-Some.ensures'
    (λ k below. none_more test bytes 0 8 (omega arith) c.in-None-Some.ensures (λ j early. absurd (omega arith)) k (omega arith))

pub returns-in-None-None : goal.returns-in-None-None
returns-in-None-None c =
    let test = λ (other : ℕ). other == c.args.byte in
    let bytes = c.args.bytes.now in
    not_in_last test bytes (length bytes - 8) 8 (omega arith) c.in-None-None.ensures'
    (λ k below. none_more test bytes 0 8 (omega arith) c.in-None-None.ensures (λ j early. absurd (omega arith)) k (omega arith))
