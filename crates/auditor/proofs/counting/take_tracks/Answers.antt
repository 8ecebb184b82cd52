use Rattle.std.proofs.Common.{◌≡◌, List, take, sym, ap, subst, ◌∙◌, arith}
use Rattle.std.proofs.lemmas.List.{take_all}
use Rattle.std.specs.Prelude.{Option}
use Rattle.audit_rows.specs.MarkCounts.{IsCountOf}
use Rattle.audit_rows.specs.Tracks.{Track}
use Rattle.auditor.specs.Tallies.{AreTallies, is_of_rule}
use Rattle.auditor.proofs.Totals.{counted_there, no_count, there_at}
use Rattle.auditor.proofs.counting.take_tracks.Goals as goal
use Rattle.auditor.proofs.counting.take_tracks.Goals.{in-Some, in_default}

pub loop-index-preserved : goal.loop-index-preserved
loop-index-preserved c = elim c.match-counts.branch [
  | in-Some w ↦ rw w.totals-is (record {
    as_many = w.take_track.ensures.as_many ∙ c.loop-index.invariant.as_many;
    tallies = λ rules bound tracks given h ends none.
        let index = c.loop-index.index in
        let many = c.track_count-index-end.ensures tracks bound given h in
        let there = there_at tracks index (omega (arith, c.loop-index-test.true)) in
        let is = subst (λ (o : Option Track). IsCountOf c.counts.result o) there.at (c.counts.ensures tracks bound given h ends) in
        let found = counted_there c.counts.result w.in-Some.topic w.in-Some.counts there.track w.in-Some.is is in
        let so_far = c.loop-index.invariant.tallies rules bound tracks given h ends none in
        subst (λ (ts : List Track). AreTallies w.take_track.new.totals rules ts) (sym there.more)
        (w.take_track.ensures.tallies rules (take index tracks) there.track (λ rule. ap (is_of_rule rule) (sym found.0)) found.1 so_far);
  })
  | in_default w ↦ rw w.totals-is (record {
    as_many = c.loop-index.invariant.as_many;
    tallies = λ rules bound tracks given h ends none.
        let many = c.track_count-index-end.ensures tracks bound given h in
        let there = there_at tracks c.loop-index.index (omega (arith, c.loop-index-test.true)) in
        let is = subst (λ (o : Option Track). IsCountOf c.counts.result o) there.at (c.counts.ensures tracks bound given h ends) in absurd (no_count c.counts.result there.track w.in_default.is is);
  })
]

pub returns-clause-tallies : goal.returns-clause-tallies
returns-clause-tallies c = λ rules bound tracks given h ends none.
    let many = c.track_count-index-end.ensures tracks bound given h in
    let all : take c.loop-index.index tracks ≡ tracks = take_all c.loop-index.index tracks (omega (arith, c.loop-index-test.false)) in
    subst (λ (ts : List Track). AreTallies c.loop-index.totals rules ts) all (c.loop-index.invariant.tallies rules bound tracks given h ends none)
