use Rattle.laws.proofs.SomeCanonicalList.{some_canonical_list}
use Rattle.laws.proofs.existence.some_canonical_list.Goals as goal

pub returns : goal.returns
returns c = some_canonical_list c.there_are_rows.ensures.rows
