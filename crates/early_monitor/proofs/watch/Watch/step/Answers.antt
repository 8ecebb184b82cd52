use Rattle.std.proofs.Common.{rules, ◌≡◌, ◌↔◌, ℕ, ◌-◌, List, [], ◌++◌, length, Err, refl, sym, ap, subst, ◌∙◌}
use Rattle.std.specs.List.{Contains}
use Rattle.outside.proofs.ForCallers.{same_fault}
use Rattle.outside.proofs.Members.{in_none}
use Rattle.traces.specs.Audited.{Sighting}
use Rattle.traces.specs.Standing.{given_of}
use Rattle.traces.specs.declared.fault.TickFault.{TickFault}
use Rattle.traces.specs.declared.fault.TickFault.TheVariants.{TooManyPairs}
use Rattle.traces.proofs.ForCallers.{all_ready_after}
use Rattle.early_monitor.specs.Inner.TracesWatched.{IsBreachAmong, watch_keeper}
use Rattle.early_monitor.specs.declared.alarm.Alarm.{Alarm}
use Rattle.early_monitor.specs.declared.watch_keeper.WatchKeeper.{WatchKeeper}
use Rattle.early_monitor.proofs.AllAlarms.{all_alarms}
use Rattle.early_monitor.proofs.NextAlarms.{alarms_now, among_none}
use Rattle.early_monitor.proofs.watch.Watch.step.Goals as goal

pub returns-in_err-tick-clause-many : goal.returns-in_err-tick-clause-many
returns-in_err-tick-clause-many c = λ fault numbers ticks s.
    let same = same_fault c.from_residual.result c.in_err-tick.field-0.0 TooManyPairs c.from_residual.ensures.1 fault in
    let err : c.tick.result ≡ Err TooManyPairs = c.in_err-tick.was ∙ ap (λ (f : TickFault). Err f) (sym same) in
    c.tick.ensures.many err numbers ticks s.knowns tt s.window

pub returns-clause-sound : goal.returns-clause-sound
returns-clause-sound c =
    let sound = c.in_ok-tick.ensures.sound in
    let old : WatchKeeper = c.tick.new.self.keeper in
    let new : WatchKeeper = record { alloc = old.alloc; rules = old.rules; alarms = c.new.result } in
    record {
      traces = sound.traces;
      goes_on = sound.goes_on;
      many = sound.many;
      ready = all_ready_after (watch_keeper old) (watch_keeper new) (given_of c.tick.new.self.traces) c.tick.new.self.kept.items
          (record { sound = sound.goes_on; ready = λ kept ready. ready; steps = λ kept. refl }) sound.ready;
    }

pub returns-clause-stands : goal.returns-clause-stands
returns-clause-stands c = λ numbers ticks s.
    let t = c.in_ok-tick.ensures.takes numbers ticks s.knowns tt s.window in
    let none : c.new.result.keys ≡ [] = search rules in
    record {
      knowns = t.after ++ t.new;
      window = record {
        are_known = t.are_known;
        stands = t.stands;
        keeps = record {
          rules = t.keeps.rules;
          stand = t.keeps.stand;
          alarms_are = λ a. (
            λ i. in_none a (subst (λ (list : List Alarm). Contains list a) none i),
            λ h. absurd (among_none numbers _ a h),
          );
        };
      };
    }

pub returns-clause-alarms : goal.returns-clause-alarms
returns-clause-alarms c = λ numbers ticks s.
    let seen : Sighting = record { vessels = c.args.seen.now; ranks = c.args.ranks.now } in
    let t = c.in_ok-tick.ensures.takes numbers ticks s.knowns tt s.window in
    let step : ℕ = length ticks - 1 in
    alarms_now numbers ticks seen t.after t.new t.are_known t.opened step refl c.in_ok-alarms.alarms.items
    (subst (λ (list : List Alarm). (a : Alarm) → Contains list a ↔ IsBreachAmong numbers step t.after a) (sym c.in_ok-alarms.ensures.items) t.keeps.alarms_are)
    c.in_ok-alarms.ensures.ordered

pub returns-clause-few : goal.returns-clause-few
returns-clause-few c = λ numbers ticks s more. c.in_ok-tick.ensures.few numbers ticks s.knowns tt s.window more

pub returns-clause-all : goal.returns-clause-all
returns-clause-all c = λ numbers ticks given s are.
    let seen : Sighting = record { vessels = c.args.seen.now; ranks = c.args.ranks.now } in
    let t = c.in_ok-tick.ensures.takes numbers ticks s.knowns tt s.window in
    all_alarms numbers ticks seen s.knowns t.after t.new s.window.are_known t.followed t.are_known t.opened given c.in_ok-alarms.alarms.items are (returns-clause-alarms c numbers ticks s)
