use Rattle.std.proofs.Common.{◌≡◌, List, [], sym, ap, ◌∙◌}
use Rattle.ranks.specs.declared.rank.Rank.{Rank}
use Rattle.traces.specs.Audited.{by_rank_in}
use Rattle.traces.proofs.SeenVessels.{unranked_pair}
use Rattle.traces.proofs.SubjectPairs.{no_items}
use Rattle.traces.proofs.followed_trace.by_rank_near.Goals as goal

pub returns-then-is_empty : goal.returns-then-is_empty
returns-then-is_empty c =
    let none : c.args.ranks.now ≡ [] = no_items c.args.ranks.now (sym c.is_empty.ensures ∙ c.if-is_empty.true) in
    sym (unranked_pair c.args.pair c.args.seen.now)
    ∙ ap (λ (ranks : List Rank). by_rank_in c.args.pair (record { vessels = c.args.seen.now; ranks = ranks })) (sym none)
