use Rattle.std.proofs.Common.{arith, length, ◌∙◌}
use Rattle.planner.proofs.TellingNow.{flag_before, flags_here, longer_by_one}
use Rattle.planner.proofs.already.Already.add_row.Goals as goal

pub loop-rule-preserved : goal.loop-rule-preserved
loop-rule-preserved c =
    let was = c.loop-rule.invariant in
    let longer = was.longer in
    let push = c.in_ok-push.ensures.items in
    record {
      rules = was.rules;
      longer = longer_by_one c.loop-rule.self.flags.items c.push.new.self.items _ (length c.args.self.now.flags.items) c.loop-rule.rule push longer;
      before = λ k lt. flag_before c.loop-rule.self.flags.items c.push.new.self.items _ k push (omega arith) ∙ was.before k lt;
      here = flags_here c.args.program.now c.args.values.now c.loop-rule.self.flags.items c.push.new.self.items c.is_no.result (length c.args.self.now.flags.items) c.loop-rule.rule push longer was.here c.is_no.ensures;
    }

pub returns-clause-row : goal.returns-clause-row
returns-clause-row c =
    let was = c.loop-rule.invariant in
    let longer = was.longer in
    let count = c.formula_count-rule-end.ensures.count in
    let over = c.loop-rule-test.false in
    let end = c.loop-rule.auto.rule-end in
    record {
      longer = omega arith;
      before = was.before;
      here = λ rule lt. was.here rule (omega arith);
    }
