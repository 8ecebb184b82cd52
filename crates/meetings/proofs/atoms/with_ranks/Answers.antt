use Rattle.std.proofs.Common.{sym, subst}
use Rattle.meetings.specs.Answers.{Kept, answer_of}
use Rattle.meetings.specs.Atoms.{AreAnswers}
use Rattle.meetings.proofs.Values.{ranked}
use Rattle.meetings.proofs.atoms.with_ranks.Goals as goal

pub returns : goal.returns
returns c = λ terms before state seen are.
    ranked terms before (record { gives = c.args.gives; stands = c.args.stands; both_power = c.args.both_power }) state seen _
    (subst (λ (row : Kept). AreAnswers terms before state seen (answer_of row)) (sym c.row.view_is) are)
