use Rattle.rule_set.proofs.Drafts.{draft_is_valid, pair_draft}
use Rattle.rule_set.proofs.draft.join.Goals as goal

pub pair-requires : goal.pair-requires
pair-requires c = draft_is_valid _ (pair_draft c.args.kind _ _ c.args.a.small c.args.b.small c.requires)
