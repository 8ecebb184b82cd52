use Rattle.std.proofs.Common.{sym, ◌∙◌, None}
use Rattle.std.proofs.lemmas.List.{get_or_default}
use Rattle.early_monitor.proofs.rule_lists.is_plain.Goals as goal

pub returns-in-None : goal.returns-in-None
returns-in-None c = λ _. get_or_default c.args.early.now c.args.rule None c.index-early-rule.result c.requires ∙ sym c.index-early-rule.is ∙ c.in-None.is
