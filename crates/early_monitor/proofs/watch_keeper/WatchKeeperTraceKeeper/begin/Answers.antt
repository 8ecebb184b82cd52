use Rattle.std.proofs.Common.{List, [], ◌∷◌, ◌++◌, append_assoc, refl, subst}
use Rattle.std.specs.List.{AllZip}
use Rattle.traces.specs.Known.{Known, opened}
use Rattle.traces.proofs.ForCallers.{zip_push}
use Rattle.early_monitor.specs.Inner.TraceWatched.{StandsFor}
use Rattle.early_monitor.specs.declared.watched_trace.WatchedTrace.{WatchedTrace}
use Rattle.early_monitor.proofs.watch_keeper.WatchKeeperTraceKeeper.begin.Goals as goal

pub returns : goal.returns
returns c = record {
  goes_on = record { sound = c.requires.sound; ready = λ kept ready. ready; steps = λ kept. refl };
  ready = c.in_ok-trace.ensures.ready;
  none = c.in_ok-trace.ensures.steps;
  stands = λ numbers step kept done rest given f le fresh.
      let w = c.args.self.now.rules in
      let trace : WatchedTrace = c.in_ok-trace.trace in
      let new : List Known = opened c.args.pair c.args.start ∷ [] in
      record {
        rules = f.rules;
        stand = subst (λ (ks : List Known). AllZip (StandsFor w numbers) (kept ++ trace ∷ []) ks) (append_assoc done rest new)
            (zip_push (StandsFor w numbers) kept (done ++ rest) trace (opened c.args.pair c.args.start) f.stand (c.in_ok-trace.ensures.stands numbers f.rules));
        alarms_are = f.alarms_are;
      };
}
