use Rattle.rule_set.proofs.Drafts.{draft_is_valid, negation_draft}
use Rattle.rule_set.proofs.draft.not.Goals as goal

pub negated-requires : goal.negated-requires
negated-requires c = draft_is_valid _ (negation_draft _ c.args.a.small c.requires)
