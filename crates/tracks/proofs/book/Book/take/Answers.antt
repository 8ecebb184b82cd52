use Rattle.std.proofs.Common.{◌∙◌, ap, subst, sym}
use Rattle.std.proofs.lemmas.Result.{on_ok_weaker}
use Rattle.tracks.specs.Standing.{BookValue, StandsFor}
use Rattle.tracks.proofs.Settled.{past_stays_in}
use Rattle.tracks.proofs.book.Book.take.Goals as goal

pub returns-in_ok-take_further-in-Ok-clause-settled : goal.returns-in_ok-take_further-in-Ok-clause-settled
returns-in_ok-take_further-in-Ok-clause-settled c = λ numbers sent h mmsi t le lt.
    past_stays_in c.args.self.now _ numbers sent (record { message = c.args.message.now; time = c.args.time }) mmsi t (c.take_further.ensures.keeping ∙ ap (λ (b : BookValue). b.keeping) c.self.view_is) h
    (c.in_ok-take_further-in-Ok.ensures.stands numbers sent (subst (λ (b : BookValue). StandsFor b numbers sent) (sym c.self.view_is) h)) le lt

pub returns-in-Err-clause-settled : goal.returns-in-Err-clause-settled
returns-in-Err-clause-settled c =
    on_ok_weaker c.take_first.result
    (λ stands numbers sent h mmsi t le lt.
    past_stays_in c.args.self.now _ numbers sent (record { message = c.args.message.now; time = c.args.time }) mmsi t (c.take_first.ensures.keeping) h (stands numbers sent h) le lt)
    c.take_first.ensures.stands
