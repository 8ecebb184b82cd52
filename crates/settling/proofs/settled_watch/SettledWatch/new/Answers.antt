use Rattle.std.proofs.Common.{ℕ, List, [], subst}
use Rattle.early_monitor.specs.Watching.{StandsFor as WatchStandsFor}
use Rattle.early_monitor.proofs.ForCallers.{no_alarms}
use Rattle.settling.specs.ScenarioAudit.{audit_numbers}
use Rattle.settling.proofs.settled_watch.SettledWatch.new.Goals as goal

pub returns : goal.returns
returns c =
    let scenario = c.args.scenario.now in
    let stands : WatchStandsFor c.in_ok-watch.watch (audit_numbers scenario) [] = subst (λ (subjects : List ℕ). WatchStandsFor c.in_ok-watch.watch (record {
      detect = scenario.detect;
      act = scenario.act;
      tick = scenario.window.tick;
      last_tick = scenario.window.ticks;
      subjects = subjects;
      rules = scenario.rules;
    }) []) c.as_slice.ensures c.in_ok-watch.ensures.stands in
    c.new-2.ensures scenario (record {
      sound = c.in_ok-watch.ensures.sound;
      count = stands.window.stands.count;
      last = stands.window.stands.last_tick;
      stands = record { stands = stands; alarms = no_alarms (audit_numbers scenario) };
    })
