use Rattle.rule_set.proofs.Drafts.{draft_is_valid, since_draft}
use Rattle.rule_set.proofs.draft.since.Goals as goal

pub link-requires : goal.link-requires
link-requires c = draft_is_valid _ (since_draft c.args.upper _ _ c.args.a.small c.args.b.small c.requires.few c.requires.near)
