use Rattle.std.proofs.Common.{◌≡◌, length, take, refl, arith}
use Rattle.rule_set.specs.NamedTrees.{rule_at}
use Rattle.early_monitor.proofs.Lists.{plain_all, plain_one_more}
use Rattle.early_monitor.proofs.rule_lists.plain_program.Goals as goal

pub loop-rule-init : goal.loop-rule-init
loop-rule-init c = record {
  count = c.new-program.ensures.count;
  plain = record { of = c.new-program.ensures.formulas; as_many = refl };
}

pub loop-rule-preserved : goal.loop-rule-preserved
loop-rule-preserved c =
    let early = c.args.early.now in
    let rules = c.args.rules.now in
    let k = c.loop-rule.rule in
    let now = c.in_ok-program.ensures in
    let before = c.loop-rule.invariant in
    let count = c.len-rule-end.ensures.count in
    let lt = c.loop-rule-test.true in
    record {
      count = omega (arith, now.count, before.count);
      plain = plain_one_more c.in_ok-program.program early rules k c.index-early-rule.result c.requires (omega (arith, count, lt)) c.index-early-rule.is
          (now.plain (take k rules) (take k early) (rule_at rules k) c.formula.ensures.tree before.plain);
    }

pub returns : goal.returns
returns c =
    let rules = c.args.rules.now in
    let k = c.loop-rule.rule in
    let all : length rules ≡ k = omega (arith, c.len-rule-end.ensures.count, c.loop-rule-test.false, c.loop-rule.auto.rule-end) in
    record {
      plain = plain_all c.loop-rule.program c.args.early.now rules k c.requires all c.loop-rule.invariant.plain;
      count = omega (arith, all, c.loop-rule.invariant.count);
      few = omega (arith, all, c.loop-rule.invariant.count, c.len-rule-end.ensures.rules.few);
    }
