use Rattle.mtl_language.proofs.Meanings.{has_one_meaning}
use Rattle.mtl_language.proofs.laws.one_meaning.Goals as goal

pub returns : goal.returns
returns c = has_one_meaning
