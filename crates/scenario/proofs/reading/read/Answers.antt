use Rattle.scenario.proofs.Single.{meant, refused, told}
use Rattle.scenario.proofs.reading.read.Goals as goal

pub returns-clause-refused : goal.returns-clause-refused
returns-clause-refused c = refused c.args.need_own c.args.bytes.now c.reading.result c.reading.ensures.refused

pub returns-clause-meant : goal.returns-clause-meant
returns-clause-meant c = meant c.args.need_own c.args.bytes.now c.reading.result c.reading.ensures.values c.reading.ensures.refused

pub returns-clause-told : goal.returns-clause-told
returns-clause-told c = told c.args.need_own c.args.bytes.now c.reading.result c.reading.ensures.values c.reading.ensures.refused
