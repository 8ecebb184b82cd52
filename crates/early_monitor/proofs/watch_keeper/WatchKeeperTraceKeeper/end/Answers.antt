use Rattle.std.proofs.Common.{refl}
use Rattle.early_monitor.proofs.watch_keeper.WatchKeeperTraceKeeper.end.Goals as goal

pub returns : goal.returns
returns c = record {
  goes_on = record { sound = c.requires.sound; ready = λ kept ready. ready; steps = λ kept. refl };
  ends = λ numbers step kept other ended rest known given e at within here. tt;
}
