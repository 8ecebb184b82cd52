use Rattle.std.proofs.Common.{ap, sym, ◌∙◌}
use Rattle.early_monitor.specs.Inner.RulesWatched.{plain_tree, plain_trees}
use Rattle.early_monitor.proofs.Lists.{plain_more}
use Rattle.early_monitor.proofs.rule_lists.with_rule.Goals as goal

pub returns-in-None-clause-plain : goal.returns-in-None-clause-plain
returns-in-None-clause-plain c = λ rules before rule tree plain.
    plain_more c.with.result before rules c.args.early.now rule _ (tree ∙ sym (ap (λ e. plain_tree e rule.tree) c.in-None.is)) plain.as_many
    (c.with.ensures.formulas (plain_trees before rules) plain.of)

pub returns-in-Some-clause-plain : goal.returns-in-Some-clause-plain
returns-in-Some-clause-plain c = λ rules before rule tree plain.
    plain_more c.with-in-Some.result before rules c.args.early.now rule _ (c.leaf.ensures ∙ sym (ap (λ e. plain_tree e rule.tree) c.in-Some.is)) plain.as_many
    (c.with-in-Some.ensures.formulas (plain_trees before rules) plain.of)
