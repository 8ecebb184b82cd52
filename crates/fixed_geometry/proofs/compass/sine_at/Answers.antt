use Rattle.fixed_geometry.proofs.Table.{sine_small}
use Rattle.fixed_geometry.proofs.compass.sine_at.Goals as goal

pub returns-clause-small : goal.returns-clause-small
returns-clause-small c = sine_small c.from.result
