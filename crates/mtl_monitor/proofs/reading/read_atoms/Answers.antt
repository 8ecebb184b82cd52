use Rattle.mtl_monitor.proofs.Listing.{HaveRead-more}
use Rattle.mtl_monitor.proofs.reading.read_atoms.Goals as goal

pub loop-at-preserved : goal.loop-at-preserved
loop-at-preserved g c =
    let l = c.loop-at in
    let read = c.read_atom-marks in
    HaveRead-more c.args.atoms.now c.args.values.now l.values read.new.values (g.A.Atoms.answer c.args.row.now) l.marks read.result l.at-index c.loop-at-test.true c.requires
    l.invariant read.ensures.values read.ensures.here read.ensures.others
