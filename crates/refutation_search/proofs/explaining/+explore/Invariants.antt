use Rattle.std.proofs.Common.{◌≡◌, ◌+◌, ◌*◌, length}
use Rattle.lattice.specs.Grids.{choices_of}
use Rattle.planner.specs.Walks.{HasPlace, HavePlaces}
use Rattle.refutation_search.specs.Inner.Walks.{first_extension, IsWalkedTo}
use Rattle.refutation_search.proofs.explaining.+explore.Given as goal

abbrev pub decreases-explore : goal.decreases-explore
decreases-explore l = length l.below.now

abbrev pub invariant-loop-choice : goal.invariant-loop-choice
invariant-loop-choice l = record {
  place : HasPlace l.walked.situation.now l.walked.basis.now l.legs l.to;
  places : HavePlaces l.walked.situation.now l.walked.basis.now (l.legs + 1) l.rest;
  left : length l.fn.below ≡ length l.rest + 1;
  walked : IsWalkedTo l.walked.situation.now l.list.items (first_extension l.walked.situation.now (l.legs + 1) (l.number * choices_of l.walked.situation.now.lattice + l.choice));
}
