use Rattle.sessions.proofs.Refusing.{one_met}
use Rattle.sessions.proofs.laws.one_answer.Goals as goal

pub returns : goal.returns
returns c = one_met c.ended_lines_stay.ensures.ended c.many_settled_stay.ensures
