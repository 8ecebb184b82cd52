use Rattle.ais_messages.specs.declared.message.Message.TheVariants.{Position}
use Rattle.tracks.proofs.Settled.{past_stays_in}
use Rattle.tracks.proofs.book.Book.take_report.Goals as goal

pub returns-in_ok-report_further-in-Some-clause-settled : goal.returns-in_ok-report_further-in-Some-clause-settled
returns-in_ok-report_further-in-Some-clause-settled c = λ numbers sent h mmsi t le lt.
    past_stays_in c.args.self.now _ numbers sent (record { message = Position c.args.report.now; time = c.args.time }) mmsi t (c.in_ok-report_further-in-Some.ensures.keeping) h
    (c.in_ok-report_further-in-Some.ensures.stands numbers sent h) le lt
