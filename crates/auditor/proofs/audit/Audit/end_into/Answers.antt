use Rattle.std.proofs.Common.{◌≡◌, ◌++◌, ◌-◌, ◌∙◌, [], ℕ, List, length, append-nil, sym, ap, subst, arith}
use Rattle.audit_rows.specs.Standing.{QueueStandsFor}
use Rattle.audit_rows.specs.Tracks.{Track}
use Rattle.audit_rows.specs.declared.row.Row.{Row}
use Rattle.traces.specs.Audited.{AuditNumbers, Sighting}
use Rattle.traces.proofs.ForCallers.{at_step}
use Rattle.auditor.specs.Inner.TracesMarked.{AreEnded}
use Rattle.auditor.specs.SettledRows.{settled_by}
use Rattle.auditor.specs.Standing.{StandsFor}
use Rattle.auditor.specs.Tallies.{AreTallies}
use Rattle.auditor.proofs.AtTheEnd.{all_end, last_step}
use Rattle.auditor.proofs.RowsOf.{audit_rows}
use Rattle.auditor.proofs.TotalsOf.{are_totals}
use Rattle.auditor.proofs.TracksOf.{have_rows}
use Rattle.auditor.proofs.UnderWay.{program_length}
use Rattle.auditor.proofs.audit.Audit.end_into.Goals as goal

pub returns : goal.returns
returns c = record {
  rest = rest;
  behind = c.in_ok-finish_into.ensures.1;
  are_rows = λ numbers ticks given s.
      let are = s.window.are_known in
      let e = ended numbers ticks given s in
      audit_rows numbers ticks s.knowns are (have_rows numbers ticks s.knowns are) e.tracks (given ++ rest) e.are_tracks e.are_rows;
  are_totals = λ numbers ticks given s.
      let are = s.window.are_known in
      are_totals numbers ticks s.knowns (given ++ rest) c.in_ok-totals.totals.items are (have_rows numbers ticks s.knowns are) (ended numbers ticks given s);
}
  where
    rest : List Row
    rest = c.in_ok-finish_into.ensures.0

    ended : (numbers : AuditNumbers) (ticks : List Sighting) (given : List Row) (s : StandsFor c.args.self numbers ticks given)
        → AreEnded numbers s.knowns (given ++ rest) c.in_ok-totals.totals.items
    ended numbers ticks given s =
        let are = s.window.are_known in
        let m = s.window.keeps in
        let count = s.window.stands.count in
        let all = c.requires.all in
        let last_is = c.last_tick-end.ensures in
        let last : c.last_tick-end.result ≡ length ticks - 1 = omega (arith, count, all, last_is) in
        let bound : ℕ = settled_by numbers (length ticks - 1) in
        let rows = have_rows numbers ticks s.knowns are in
        let e = (c.in_ok-keeper.ensures numbers ticks s.knowns (length ticks - 1) given s.window.stands (record {
          is = m.is;
          stand = m.stand;
          before = m.before;
          after = m.after;
          ended_tracks = m.done_tracks;
          rest_tracks = m.rest_tracks;
          keeps = m.keeps;
        })).1 in
        let queue = c.in_ok-keeper.keeper.queue in
        let keeps : QueueStandsFor queue e.before bound given =
        subst (λ (ts : List Track). QueueStandsFor queue ts bound given) (ap (λ (ts : List Track). e.before ++ ts) e.rest_tracks ∙ append-nil e.before) e.keeps in
        let ends = all_end numbers c.last_tick-end.result s.knowns e.before
        (λ known i. last_step c.last_tick-end.result known (at_step numbers ticks s.knowns c.last_tick-end.result are last known i) (rows known i).count) e.ended_tracks in
        record {
          tracks = e.before;
          are_tracks = e.ended_tracks;
          own_topics = keeps.holds.own_topics;
          are_rows = c.in_ok-finish_into.ensures.2 e.before bound given keeps ends;
          are_totals = subst (λ (n : ℕ). AreTallies c.in_ok-totals.totals.items n e.before) (c.formula_count.ensures.count ∙ program_length c.in_ok-keeper.keeper.program numbers e.is)
              (c.in_ok-totals.ensures e.before bound given keeps ends);
        }
