use Rattle.std.proofs.Common.{◌==◌, ℕ, ◌+◌, ◌-◌, ◌≤◌, length, arith}
use Rattle.aivdm.proofs.Positions.{in_block, none_more, not_in_last}
use Rattle.aivdm.proofs.search.first_of.Goals as goal

pub returns-in-Some : goal.returns-in-Some
returns-in-Some c =
    in_block (λ (other : ℕ). other == c.args.byte) c.args.bytes.now c.vectors.at 16 c.in-Some.before (omega arith) c.in-Some.ensures c.vectors.invariant.none

pub vectors-preserved : goal.vectors-preserved
vectors-preserved c =
    let room : c.vectors.at + 16 ≤ length c.args.bytes.now = omega arith in record {
      within = room;
      none = none_more (λ (other : ℕ). other == c.args.byte) c.args.bytes.now c.vectors.at 16 room c.in-None.ensures c.vectors.invariant.none;
    }

pub returns-in-Some-first_of_sixteen : goal.returns-in-Some-first_of_sixteen
returns-in-Some-first_of_sixteen c =
    in_block (λ (other : ℕ). other == c.args.byte) c.args.bytes.now (length c.args.bytes.now - 16) 16 c.in-Some-first_of_sixteen.before (omega arith)
    c.in-Some-first_of_sixteen.ensures (λ k below. c.vectors.invariant.none k (omega arith))

pub returns-in-None-first_of_sixteen : goal.returns-in-None-first_of_sixteen
returns-in-None-first_of_sixteen c =
    not_in_last (λ (other : ℕ). other == c.args.byte) c.args.bytes.now (length c.args.bytes.now - 16) 16 (omega arith)
    c.in-None-first_of_sixteen.ensures (λ k below. c.vectors.invariant.none k (omega arith))
