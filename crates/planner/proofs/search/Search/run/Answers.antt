use Rattle.std.proofs.Common.{◌≡◌, ℕ, ◌+◌, ◌*◌, ◌^◌, length, ap, subst, arith}
use Rattle.lattice.specs.Grids.{choices_of}
use Rattle.planner.specs.Inner.Walk.{IsFirst}
use Rattle.planner.proofs.Blocks.{first_is_least}
use Rattle.planner.proofs.search.Search.run.Goals as goal

pub returns-clause-answer : goal.returns-clause-answer
returns-clause-answer c =
    let s = c.args.self.now.situation in
    let some = c.requires.ground.is_situation.some_leg in
    let choice = c.requires.ground.is_situation.some_choice in
    let count = c.requires.places.count in
    let long : length c.deref_mut.result.now ≡ s.lattice.legs = omega (arith, ap length c.deref_mut.ensures.value) in
    let first = subst (λ (n : ℕ). IsFirst s (0 * choices_of s.lattice ^ n) ((0 + 1) * choices_of s.lattice ^ n) c.in_ok-number.number) long c.in_ok-number.ensures.answer in
    first_is_least s some c.in_ok-number.number c.plan.result choice c.plan.ensures.value first
