use Rattle.std.proofs.Common.{◌∙◌, ap, ap₂, sym, List, [], ◌∷◌, ◌++◌, map, take}
use Rattle.std.proofs.lemmas.List.{map-append, take_more}
use Rattle.ranks.specs.declared.rank.Rank.{Rank}
use Rattle.log_lines.specs.SentLines.{sent}
use Rattle.settled_ticks.specs.Sightings.{vessel_rank}
use Rattle.settled_ticks.proofs.RankedVessels.{each_has_reported}
use Rattle.settled_ticks.proofs.vessel_ranks.rank_all.Goals as goal

pub rank_of-requires-clause-reported : goal.rank_of-requires-clause-reported
rank_of-requires-clause-reported c =
    each_has_reported c.args.judge.now c.args.seen.now c.args.time c.loop-vessel.vessel-index _ c.requires.seen c.loop-vessel-test.true

pub loop-vessel-preserved : goal.loop-vessel-preserved
loop-vessel-preserved c = λ scenario lines judged stands.
    let rank = vessel_rank scenario (sent scenario lines) c.args.time in
    let front = take c.loop-vessel.vessel-index c.args.seen.now in
    let more = take_more c.args.seen.now c.loop-vessel.vessel-index _ c.loop-vessel-test.true in
    c.in_ok-push.ensures.items
    ∙ ap₂ (λ (ranks : List Rank) (one : Rank). ranks ++ one ∷ []) (c.loop-vessel.invariant scenario lines judged stands) (c.rank_of.ensures scenario lines judged stands)
    ∙ sym (ap (map rank) more ∙ map-append rank front _)
