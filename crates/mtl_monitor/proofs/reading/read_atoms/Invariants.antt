use Rattle.mtl_monitor.specs.Inner.Reading.{HaveRead}
use Rattle.mtl_monitor.proofs.reading.read_atoms.Given as goal

abbrev pub invariant-loop-at : goal.invariant-loop-at
invariant-loop-at g l = HaveRead l.atoms l.fn.values l.values (g.A.Atoms.answer l.row) l.marks l.at-index
