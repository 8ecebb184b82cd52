use Rattle.std.proofs.Common.{◌∙◌, ap}
use Rattle.std.specs.Prelude.{Option, unwrap_or}
use Rattle.tracks.specs.declared.accepted.Accepted.{Accepted}
use Rattle.ranks.specs.VesselRanks.{rank_at, rank_by_report, rank_by_type}
use Rattle.ranks.specs.declared.rank.Rank.{Rank}
use Rattle.ranks.proofs.ranks.Ranks.rank.Goals as goal

pub returns-in-Some : goal.returns-in-Some
unfolding rank_at
returns-in-Some c = λ noted stands.
    ap (λ (rank : Option Rank). unwrap_or rank (rank_by_type noted c.args.mmsi c.args.time)) c.in-Some.ensures
    ∙ ap (λ (report : Option Accepted). rank_by_report report (rank_by_type noted c.args.mmsi c.args.time)) c.last_report.ensures

pub returns-in-None : goal.returns-in-None
unfolding rank_at
returns-in-None c = λ noted stands.
    c.by_type.ensures noted stands
    ∙ ap (λ (rank : Option Rank). unwrap_or rank (rank_by_type noted c.args.mmsi c.args.time)) c.in-None.ensures
    ∙ ap (λ (report : Option Accepted). rank_by_report report (rank_by_type noted c.args.mmsi c.args.time)) c.last_report.ensures
