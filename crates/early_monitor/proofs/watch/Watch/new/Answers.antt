use Rattle.std.proofs.Common.{◌≡◌, [], List, refl, sym, subst, arith, rules}
use Rattle.std.specs.List.{Contains}
use Rattle.traces.specs.Audited.{AuditNumbers, nothing_seen}
use Rattle.traces.specs.Standing.{StandsFor as TracesStandFor}
use Rattle.traces.specs.declared.all_traces.AllTraces.{AllTraces}
use Rattle.outside.proofs.Members.{in_none}
use Rattle.traces.proofs.ForCallers.{begun_within, different_none}
use Rattle.early_monitor.specs.Inner.TracesWatched.{AreFound}
use Rattle.early_monitor.specs.declared.alarm.Alarm.{Alarm}
use Rattle.early_monitor.specs.declared.watch_keeper.WatchKeeper.{WatchKeeper}
use Rattle.early_monitor.specs.declared.watched_trace.WatchedTrace.{WatchedTrace}
use Rattle.early_monitor.proofs.NextAlarms.{among_none}
use Rattle.early_monitor.proofs.watch.Watch.new.Goals as goal

pub returns-clause-stands : goal.returns-clause-stands
returns-clause-stands c =
    let numbers : AuditNumbers = record {
      detect = c.args.detect;
      act = c.args.act;
      tick = c.args.window.tick;
      last_tick = c.args.window.ticks;
      subjects = c.args.subjects.now;
      rules = c.args.rules.now;
    } in
    let keeper : WatchKeeper = record { alloc = c.args.alloc; rules = c.in_ok-rules.rules; alarms = c.new-2.result } in
    let made = c.new-4.ensures in
    let none : c.new-2.result.keys ≡ [] = search rules in
    let found : AreFound keeper.rules keeper.alarms.keys numbers 0 [] [] [] tt =
    record {
      rules = c.in_ok-rules.ensures.of;
      stand = tt;
      alarms_are = λ a. (
        λ i. in_none a (subst (λ (list : List Alarm). Contains list a) none i),
        λ h. absurd (among_none numbers 0 a h),
      );
    } in
    record {
      knowns = [];
      window = record {
        are_known = record {
          each = λ known i. in_none known i;
          all = λ pair start begins. (let within = begun_within [] nothing_seen numbers pair start begins in absurd (omega (arith, within)));
          once = different_none;
        };
        stands = subst (λ (traces : AllTraces). TracesStandFor traces numbers [] []) (sym made.traces) (c.in_ok-traces.ensures.stands numbers refl refl refl refl refl);
        keeps = subst (λ (values : List WatchedTrace). AreFound c.new-4.result.keeper.rules c.new-4.result.keeper.alarms.keys numbers 0 values [] [] tt) (sym made.none)
            (subst (λ (k : WatchKeeper). AreFound k.rules k.alarms.keys numbers 0 [] [] [] tt) (sym made.keeper) found);
      };
    }
