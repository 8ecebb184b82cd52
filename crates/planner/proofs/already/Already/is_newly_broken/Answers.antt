use Rattle.std.proofs.Common.{arith, refl}
use Rattle.planner.proofs.TellingNow.{newly, none_newly, none_newly_so_far}
use Rattle.planner.proofs.already.Already.is_newly_broken.Goals as goal

pub returns-then-is_rule_newly_broken : goal.returns-then-is_rule_newly_broken
returns-then-is_rule_newly_broken c = λ formulas cut rows passed has tells e.
    let h = (c.is_rule_newly_broken.ensures formulas rows passed has).0 c.if-is_rule_newly_broken.true in
    let count = c.formula_count-rule-end.ensures.count in
    let lt = c.loop-rule-test.true in (
      λ t. newly c.args.program.now c.args.values.now formulas cut rows passed c.args.self.now c.args.index has tells e c.loop-rule.rule (omega arith) h.0 h.1,
      λ t. refl,
    )

pub loop-rule-preserved : goal.loop-rule-preserved
loop-rule-preserved c = λ formulas rows passed has.
    none_newly_so_far formulas rows passed c.args.self.now c.args.index c.loop-rule.rule (c.loop-rule.invariant formulas rows passed has)
    (λ b f. let t = (c.is_rule_newly_broken.ensures formulas rows passed has).1 (b, f) in let not_so = c.if-is_rule_newly_broken.false in cc)

pub returns : goal.returns
returns c = λ formulas cut rows passed has tells e.
    let count = c.formula_count-rule-end.ensures.count in
    let over = c.loop-rule-test.false in (
      λ t. cc,
      λ h. absurd (none_newly c.args.program.now c.args.values.now formulas cut rows passed c.args.self.now c.args.index has tells e c.loop-rule.rule (omega arith) (c.loop-rule.invariant formulas rows passed has) h),
    )
