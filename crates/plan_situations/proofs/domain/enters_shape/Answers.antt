use Rattle.plan_situations.proofs.Entries.{inside_where_some, outside_where_none}
use Rattle.plan_situations.proofs.domain.enters_shape.Goals as goal

pub returns-clause-outside : goal.returns-clause-outside
returns-clause-outside c = λ not_found. outside_where_none c.args.step c.args.direction c.args.shape.now c.enters.result c.is_some.result c.is_some.ensures c.enters.ensures.none not_found

pub returns-clause-inside : goal.returns-clause-inside
returns-clause-inside c = λ told.
    inside_where_some c.args.step c.args.direction c.args.shape.now c.enters.result c.is_some.result c.is_some.ensures c.enters.ensures.instant c.enters.ensures.inside told
