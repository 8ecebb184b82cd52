use Rattle.meetings.proofs.atoms.atoms_at.Goals as goal

pub returns : goal.returns
returns c = c.row_at.ensures c.args.detect.now c.has_risk.ensures
