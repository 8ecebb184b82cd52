use Rattle.std.proofs.Common.{◌≡◌, ℕ, ◌-◌, ◌≤◌, List, [], ◌∷◌, ◌++◌, length, Err, refl, sym, ap, ◌∙◌}
use Rattle.outside.proofs.ForCallers.{same_fault}
use Rattle.audit_rows.specs.Tracks.{Track}
use Rattle.audit_rows.specs.declared.row.Row.{Row}
use Rattle.traces.specs.Audited.{AuditNumbers, Sighting}
use Rattle.traces.specs.Known.{Known}
use Rattle.traces.specs.Standing.{given_of}
use Rattle.traces.specs.Window.{HasTakenTick}
use Rattle.traces.specs.declared.fault.TickFault.{TickFault}
use Rattle.traces.specs.declared.fault.TickFault.TheVariants.{TooManyPairs}
use Rattle.traces.proofs.ForCallers.{all_ready_after}
use Rattle.auditor.specs.Inner.TracesMarked.{audit_keeper}
use Rattle.auditor.specs.SettledRows.{formulas_of, settled_by}
use Rattle.auditor.specs.TraceKeeping.{AreRuleMarksSoFar}
use Rattle.auditor.specs.declared.audit_keeper.AuditKeeper.{AuditKeeper}
use Rattle.auditor.proofs.Growing.{tracks_append}
use Rattle.auditor.proofs.Stepping.{all_settled, bound_of, kept_on, later_bound, rows_given}
use Rattle.auditor.proofs.audit.Audit.step_ranked.Goals as goal

pub returns-in_err-tick-clause-many : goal.returns-in_err-tick-clause-many
returns-in_err-tick-clause-many c = λ fault numbers ticks given s.
    let same = same_fault c.from_residual.result c.in_err-tick.field-0.0 TooManyPairs c.from_residual.ensures.1 fault in
    let err : c.tick.result ≡ Err TooManyPairs = c.in_err-tick.was ∙ ap (λ (f : TickFault). Err f) (sym same) in
    c.tick.ensures.many err numbers ticks s.knowns given s.window

pub returns-clause-sound : goal.returns-clause-sound
returns-clause-sound c =
    let sound = c.in_ok-tick.ensures.sound in
    let old : AuditKeeper = c.tick.new.self.keeper in
    let new : AuditKeeper = record { alloc = old.alloc; program = old.program; queue = c.rows_below.new.self } in
    record {
      traces = sound.traces;
      goes_on = sound.goes_on;
      many = sound.many;
      ready = all_ready_after (audit_keeper old) (audit_keeper new) (given_of c.tick.new.self.traces) c.tick.new.self.kept.items
          (record { sound = sound.goes_on; ready = λ kept ready. ready; steps = λ kept. refl }) sound.ready;
    }

pub returns-clause-stands : goal.returns-clause-stands
returns-clause-stands c = λ numbers ticks given s.
    let seen : Sighting = record { vessels = c.args.seen.now; ranks = c.args.ranks.now } in
    let t = c.in_ok-tick.ensures.takes numbers ticks s.knowns given s.window in
    let m = t.keeps in
    let knowns : List Known = t.after ++ t.new in
    let tracks : List Track = m.before ++ m.after in
    let all = tracks_append AreRuleMarksSoFar numbers t.after t.new m.before m.after m.done_tracks m.rest_tracks in
    let is = bound_of numbers ticks seen c.given-given.result c.reach.result c.saturating_sub.result c.saturating_sub-bound.result (c.given-given.ensures ∙ s.window.stands.count)
    (c.reach.ensures.formulas (formulas_of numbers) m.is) c.saturating_sub.ensures c.saturating_sub-bound.ensures in
    let le = later_bound numbers ticks seen knowns t.are_known c.saturating_sub-bound.result is in
    let settled = all_settled numbers ticks seen knowns t.are_known c.saturating_sub-bound.result is tracks all in
    let rows : List Row = given ++ c.in_ok-rows_below.field-0.items in
    record {
      knowns = knowns;
      window = record {
        are_known = t.are_known;
        stands = t.stands;
        keeps = record {
          is = m.is;
          stand = m.stand;
          before = [];
          after = tracks;
          done_tracks = refl;
          rest_tracks = all;
          keeps = kept_on numbers ticks seen knowns t.are_known c.saturating_sub-bound.result is c.rows_below.new.self tracks rows
              (c.in_ok-rows_below.ensures.stands tracks (settled_by numbers (length ticks - 1)) given m.keeps le settled);
        };
      };
    }

pub returns-clause-rows : goal.returns-clause-rows
returns-clause-rows c = λ numbers ticks given s.
    let seen : Sighting = record { vessels = c.args.seen.now; ranks = c.args.ranks.now } in
    let t = c.in_ok-tick.ensures.takes numbers ticks s.knowns given s.window in
    let m = t.keeps in
    let knowns : List Known = t.after ++ t.new in
    let tracks : List Track = m.before ++ m.after in
    let all = tracks_append AreRuleMarksSoFar numbers t.after t.new m.before m.after m.done_tracks m.rest_tracks in
    let is = bound_of numbers ticks seen c.given-given.result c.reach.result c.saturating_sub.result c.saturating_sub-bound.result (c.given-given.ensures ∙ s.window.stands.count)
    (c.reach.ensures.formulas (formulas_of numbers) m.is) c.saturating_sub.ensures c.saturating_sub-bound.ensures in
    let le = later_bound numbers ticks seen knowns t.are_known c.saturating_sub-bound.result is in
    let settled = all_settled numbers ticks seen knowns t.are_known c.saturating_sub-bound.result is tracks all in
    rows_given numbers ticks seen knowns t.are_known c.saturating_sub-bound.result is tracks (given ++ c.in_ok-rows_below.field-0.items) all
    (c.in_ok-rows_below.ensures.rows tracks (settled_by numbers (length ticks - 1)) given m.keeps le settled)

pub returns-clause-few : goal.returns-clause-few
returns-clause-few c = λ numbers ticks given s more. c.in_ok-tick.ensures.few numbers ticks s.knowns given s.window more
