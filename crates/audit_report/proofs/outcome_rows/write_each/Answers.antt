use Rattle.audit_report.proofs.OutcomeRows.{all_rows, one_row_on}
use Rattle.audit_report.proofs.outcome_rows.write_each.Goals as goal

pub loop-outcome-preserved : goal.loop-outcome-preserved
loop-outcome-preserved c = λ text has.
    one_row_on c.write.new.self text c.args.counts.now c.args.outcomes.now c.loop-outcome.outcome-index c.place.result
    c.loop-outcome-test.true c.place.ensures.place (c.in_ok-write.ensures _ (c.loop-outcome.invariant text has))

pub returns : goal.returns
returns c = λ text has.
    all_rows c.loop-outcome.text text c.args.counts.now c.args.outcomes.now c.loop-outcome.outcome-index c.loop-outcome-test.false
    (c.loop-outcome.invariant text has)
