-- A watch as a taker of ticks.
use Rattle.std.specs.Prelude.{List}
use Rattle.early_monitor.specs.Alarms.{AreAlarms}
use Rattle.early_monitor.specs.Watching.{IsSound, StandsFor as WatchStandsFor, given_of, last_tick_of, latest_vessels}
use Rattle.early_monitor.specs.declared.alarm.Alarm.{Alarm}
use Rattle.early_monitor.specs.declared.watch.Watch.{Watch}
use Rattle.traces.specs.Audited.{AuditNumbers, Sighting}
use Rattle.settling.specs.Inner.TakenTicks.{Taker}

-- The watch's model is these ticks, and these are their alarms.
pub record HasWatched (watch : Watch) (numbers : AuditNumbers) (ticks : List Sighting) (given : List Alarm) : Type 0 where
  pub stands : WatchStandsFor watch numbers ticks
  pub alarms : AreAlarms numbers ticks given

abbrev pub watch_taker : Watch → Taker Alarm
watch_taker watch = record {
  Sound = IsSound watch;
  count = given_of watch;
  last_tick = last_tick_of watch;
  latest = latest_vessels watch;
  Stands = HasWatched watch;
  within = λ sound. sound.traces.given;
  seen_last = λ numbers ticks given up. (λ i. (up.stands.window.stands.latest i).vessels);
}
