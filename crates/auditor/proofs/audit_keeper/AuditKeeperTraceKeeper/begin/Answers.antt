use Rattle.std.proofs.Common.{◌≡◌, ◌≤◌, ◌∙◌, ℕ, List, [], ◌∷◌, ◌++◌, length, append_assoc, refl, subst, arith}
use Rattle.std.specs.List.{AllZip}
use Rattle.audit_rows.specs.Standing.{QueueStandsFor}
use Rattle.audit_rows.specs.Tracks.{Track}
use Rattle.traces.specs.Known.{Known, opened}
use Rattle.traces.proofs.ForCallers.{zip_push}
use Rattle.auditor.specs.SettledRows.{settled_by}
use Rattle.auditor.specs.Tallies.{begun_tracks}
use Rattle.auditor.specs.TraceKeeping.{AreRuleMarksSoFar, StandsFor}
use Rattle.auditor.specs.declared.trace.AuditTrace.{AuditTrace}
use Rattle.auditor.proofs.Growing.{opened_tracks, tracks_append, tracks_push, unknown}
use Rattle.auditor.proofs.UnderWay.{program_length}
use Rattle.auditor.proofs.audit_keeper.AuditKeeperTraceKeeper.begin.Goals as goal

pub returns : goal.returns
returns c = record {
  goes_on = record { sound = c.requires.sound; ready = λ kept ready. ready; steps = λ kept. refl };
  ready = c.in_ok-trace.ensures.ready;
  none = c.in_ok-trace.ensures.steps;
  stands = λ numbers step kept done rest given m le fresh.
      let program = c.args.self.now.program in
      let pair = c.args.pair in
      let start = c.args.start in
      let trace : AuditTrace = c.in_ok-trace.trace in
      let new : List Known = opened pair start ∷ [] in
      let bound : ℕ = settled_by numbers step in
      let early : bound ≤ start = omega (arith, le) in
      let tracks : List Track = m.before ++ m.after in
      let begun : List Track = begun_tracks pair start (length numbers.rules) in
      let all = tracks_append AreRuleMarksSoFar numbers done rest m.before m.after m.done_tracks m.rest_tracks in
      record {
        is = m.is;
        stand = subst (λ (ks : List Known). AllZip (StandsFor program numbers) (kept ++ trace ∷ []) ks) (append_assoc done rest new)
            (zip_push (StandsFor program numbers) kept (done ++ rest) trace (opened pair start) m.stand (c.in_ok-trace.ensures.stands numbers pair m.is));
        before = m.before;
        after = m.after ++ begun;
        done_tracks = m.done_tracks;
        rest_tracks = tracks_push AreRuleMarksSoFar numbers rest (opened pair start) m.after begun m.rest_tracks (opened_tracks numbers pair start);
        keeps = subst (λ (ts : List Track). QueueStandsFor c.begin_tracks.new.queue ts bound given) (append_assoc m.before m.after begun)
            (subst (λ (n : ℕ). QueueStandsFor c.begin_tracks.new.queue (tracks ++ begun_tracks pair start n) bound given)
            (c.formula_count.ensures.count ∙ program_length program numbers m.is)
            (c.in_ok-begin_tracks.ensures start bound tracks given m.keeps (unknown numbers (done ++ rest) tracks pair all fresh) early));
      };
}
