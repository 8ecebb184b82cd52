use Rattle.std.proofs.Common.{◌≡◌, ◌+◌, ◌*◌, ◌^◌, length}
use Rattle.lattice.specs.Grids.{choices_of}
use Rattle.planner.specs.Inner.Levels.{ArePlaces, HasPlaces}
use Rattle.planner.specs.Inner.Walk.{AllFailFrom}
use Rattle.planner.proofs.explore.+explore.Given as goal

abbrev pub decreases-explore : goal.decreases-explore
decreases-explore l = length l.below.now

abbrev pub invariant-loop-choice : goal.invariant-loop-choice
invariant-loop-choice l = record {
  place : HasPlaces l.situation l.basis l.leg l.to;
  places : ArePlaces l.situation l.basis (l.leg + 1) l.rest;
  left : length l.fn.below ≡ length l.rest + 1;
  fail : AllFailFrom l.situation (l.number * choices_of l.situation.lattice ^ length l.fn.below)
      ((l.number * choices_of l.situation.lattice + l.choice) * choices_of l.situation.lattice ^ length l.rest);
}
