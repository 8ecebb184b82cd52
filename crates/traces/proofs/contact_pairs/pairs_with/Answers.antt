use Rattle.traces.proofs.SubjectPairs.{all_vessels, next_vessel}
use Rattle.traces.proofs.contact_pairs.pairs_with.Goals as goal

pub loop-vessel-preserved : goal.loop-vessel-preserved
loop-vessel-preserved c =
    next_vessel c.args.watch c.args.subjects.now c.args.vessels.now c.args.vessels.now c.loop-vessel.vessel-index _ c.loop-vessel.pairs.items c.add_pairs_of.new.pairs.items
    c.loop-vessel-test.true c.loop-vessel.invariant c.in_ok-add_pairs_of.ensures

pub returns : goal.returns
returns c =
    all_vessels c.args.watch c.args.subjects.now c.args.vessels.now c.args.vessels.now c.loop-vessel.vessel-index c.loop-vessel.pairs.items c.loop-vessel-test.false c.loop-vessel.invariant
