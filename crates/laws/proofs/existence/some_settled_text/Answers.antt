use Rattle.laws.proofs.SomeSettledText.{some_settled_text}
use Rattle.laws.proofs.existence.some_settled_text.Goals as goal

pub returns : goal.returns
returns c = some_settled_text
