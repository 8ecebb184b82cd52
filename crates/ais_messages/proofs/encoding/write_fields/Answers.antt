use Rattle.ais_messages.proofs.Writing.{fit_at}
use Rattle.ais_messages.proofs.encoding.write_fields.Goals as goal

pub append-requires-clause-some : goal.append-requires-clause-some
append-requires-clause-some c = (fit_at c.args.fields.now c.loop-width.width-index c.requires c.loop-width-test.true).some

pub append-requires-clause-most : goal.append-requires-clause-most
append-requires-clause-most c = (fit_at c.args.fields.now c.loop-width.width-index c.requires c.loop-width-test.true).most

pub append-requires-clause-fits : goal.append-requires-clause-fits
append-requires-clause-fits c = (fit_at c.args.fields.now c.loop-width.width-index c.requires c.loop-width-test.true).value
