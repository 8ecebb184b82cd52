use Rattle.traces.specs.Inner.Pairing.{HasPairWith}
use Rattle.traces.proofs.AddedPairs.{ended}
use Rattle.traces.proofs.FoundPairs.{with_all, with_next}
use Rattle.traces.proofs.Reach.{none_in_reach}
use Rattle.traces.proofs.contact_pairs.add_pairs.Goals as goal

pub loop-other-preserved : goal.loop-other-preserved
loop-other-preserved c =
    with_next c.args.watch c.args.vessel.now c.args.others.now c.loop-other.other-index _ c.args.pairs.now.items c.loop-other.pairs.items c.add_pair.new.pairs.items
    c.loop-other-test.true c.loop-other.invariant c.in_ok-add_pair.ensures

pub returns : goal.returns
returns c =
    with_all c.args.watch c.args.vessel.now c.args.others.now c.loop-other.other-index c.args.pairs.now.items c.loop-other.pairs.items c.loop-other-test.false c.loop-other.invariant

pub returns-then-not-is_in_reach : goal.returns-then-not-is_in_reach
returns-then-not-is_in_reach c =
    ended c.args.pairs.now.items (HasPairWith c.args.watch c.args.vessel.now c.args.others.now) c.loop-other.pairs.items _ c.loop-other.invariant
    (none_in_reach c.args.watch c.args.vessel.now c.args.others.now c.loop-other.other-index _ c.requires.order c.loop-other-test.true c.if-not-is_in_reach.ensures.1)
