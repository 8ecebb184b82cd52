use Rattle.std.proofs.Common.{◌∙◌, subst, sym}
use Rattle.std.specs.Prelude.{IfSome, None, Option}
use Rattle.tracks.specs.Standing.{IsAccepted}
use Rattle.tracks.specs.declared.accepted.Accepted.{Accepted}
use Rattle.tracks.proofs.Lasts.{All-last, slice_get-last}
use Rattle.tracks.proofs.vessel.latest.Goals as goal

pub returns-clause-value : goal.returns-clause-value
returns-clause-value c = c.last.ensures.value ∙ slice_get-last c.args.points.now

pub returns-clause-accepted : goal.returns-clause-accepted
returns-clause-accepted c =
    subst (λ (o : Option Accepted). IfSome o IsAccepted) (sym (c.last.ensures.value ∙ slice_get-last c.args.points.now))
    (All-last IsAccepted None c.args.points.now tt c.requires)
