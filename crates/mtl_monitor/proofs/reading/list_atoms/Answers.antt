use Rattle.mtl_monitor.proofs.Listing.{both}
use Rattle.mtl_monitor.proofs.reading.list_atoms.Goals as goal

pub loop-index-preserved : goal.loop-index-preserved
loop-index-preserved c =
    let more = both c.args.glance c.args.nodes.now c.loop-index.index c.loop-index.atoms.items c.list_atom.new.atoms.items (c.requires c.loop-index.index c.loop-index-test.true) c.in_ok-list_atom.ensures
    c.loop-index.invariant.listed c.loop-index.invariant.readable in
    record { listed = more.listed_more; readable = more.readable_more }
