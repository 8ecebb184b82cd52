use Rattle.rule_set.proofs.Drafts.{draft_is_valid, span_draft}
use Rattle.rule_set.proofs.draft.over.Goals as goal

pub span-requires : goal.span-requires
span-requires c = draft_is_valid _ (span_draft c.args.kind c.args.upper _ c.args.a.small c.requires.few c.requires.near c.requires.alone)
