use Rattle.std.proofs.Common.{◌∙◌, ap, subst, sym}
use Rattle.std.specs.Prelude.{IsSome, Option}
use Rattle.std.specs.List.Sorted.{IsNonDecreasingBy}
use Rattle.ranks.specs.VesselRanks.{rank_at, rank_by_report, rank_by_type}
use Rattle.log_lines.specs.JudgedLines.{numbers_of}
use Rattle.log_lines.specs.SentLines.{sent}
use Rattle.log_lines.specs.ShipTypes.{noted}
use Rattle.settled_ticks.specs.Sightings.{vessel_rank}
use Rattle.tracks.specs.declared.accepted.Accepted.{Accepted}
use Rattle.log_lines.specs.Standing.{keeping_of}
use Rattle.settled_ticks.proofs.RankedVessels.{kept_report}
use Rattle.tracks.proofs.ForCallers.{remembered_in_order}
use Rattle.settled_ticks.proofs.vessel_ranks.rank_of.Goals as goal

pub last_near-last-requires-clause-order : goal.last_near-last-requires-clause-order
last_near-last-requires-clause-order c =
    let by = c.requires.reported in
    subst (IsNonDecreasingBy (λ (report : Accepted). report.time)) (sym (c.points_near-points.ensures by.scenario by.lines by.judged))
    (remembered_in_order (keeping_of c.args.judge.now) (numbers_of by.scenario) (sent by.scenario by.lines) c.args.vessel.now.0 c.args.time c.requires.remembers)

pub last_near-last-requires-clause-begun : goal.last_near-last-requires-clause-begun
last_near-last-requires-clause-begun c =
    let by = c.requires.reported in
    subst (λ (report : Option Accepted). IsSome report)
    (sym (kept_report (keeping_of c.args.judge.now) (numbers_of by.scenario) (sent by.scenario by.lines) c.args.vessel.now.0 _ c.args.time c.requires.remembers (c.points_near-points.ensures by.scenario by.lines by.judged))) by.reported

pub rank-requires-clause-begun : goal.rank-requires-clause-begun
rank-requires-clause-begun c =
    let by = c.requires.reported in
    subst (λ (report : Option Accepted). IsSome report)
    (sym (c.alone.ensures.same ∙ kept_report (keeping_of c.args.judge.now) (numbers_of by.scenario) (sent by.scenario by.lines) c.args.vessel.now.0 _ c.args.time c.requires.remembers (c.points_near-points.ensures by.scenario by.lines by.judged))) by.reported

pub returns : goal.returns
unfolding vessel_rank rank_at
returns c = λ scenario lines judged stands.
    let messages = sent scenario lines in
    c.rank.ensures (noted messages) stands
    ∙ ap (λ (report : Option Accepted). rank_by_report report (rank_by_type (noted messages) c.args.vessel.now.0 c.args.time))
    (c.alone.ensures.same ∙ kept_report (keeping_of c.args.judge.now) (numbers_of scenario) messages c.args.vessel.now.0 _ c.args.time c.requires.remembers (c.points_near-points.ensures scenario lines judged))
