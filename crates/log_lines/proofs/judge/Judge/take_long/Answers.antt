use Rattle.std.proofs.Common.{None, refl}
use Rattle.log_lines.proofs.GoingOn.{judged_is, judges_long, long_has_no_stamp, new_is, stands_on}
use Rattle.log_lines.specs.declared.judged.Judged.TheVariants as judged
use Rattle.log_lines.specs.declared.outcome.LineOutcome.TheVariants as outcome
use Rattle.log_lines.proofs.judge.Judge.take_long.Goals as goal

pub returns-clause-judged : goal.returns-clause-judged
returns-clause-judged c = λ scenario before line long stands.
    let old = c.args.self.now in
    judged_is old (record old { told = None }) (judged.Without outcome.Long) line scenario before stands (judges_long old line long)

pub returns-clause-stands : goal.returns-clause-stands
returns-clause-stands c = λ scenario before line long few stands.
    let old = c.args.self.now in
    let is = new_is old (record old { told = None }) c.count.new.self (judged.Without outcome.Long) line c.pass.new.self None outcome.Long
    refl c.pass.ensures (long_has_no_stamp line long) refl c.count.ensures in
    stands_on old (record old { told = None }) c.count.new.self (judged.Without outcome.Long) line scenario before few stands (judges_long old line long) is
