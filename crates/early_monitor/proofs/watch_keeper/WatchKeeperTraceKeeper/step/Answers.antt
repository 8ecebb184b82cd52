use Rattle.std.proofs.Common.{refl}
use Rattle.meetings.specs.Answers.{answer_of}
use Rattle.early_monitor.proofs.UnderWay.{found_more}
use Rattle.early_monitor.proofs.watch_keeper.WatchKeeperTraceKeeper.step.Goals as goal

pub returns : goal.returns
returns c = record {
  goes_on = record { sound = c.requires.sound; ready = λ kept ready. ready; steps = λ kept. refl };
  ready = c.in_ok-step.ensures.ready;
  one_more = c.in_ok-step.ensures.steps;
  stands = λ numbers ranks kept other done rest known seen given f at here is_at row.
      found_more c.args.self.now.rules numbers c.args.step c.args.self.now.alarms.keys c.step.new.alarms.keys kept c.args._index other c.args.trace.now c.step.new.self (answer_of c.args.next.row.now)
      done rest known seen at here (c.in_ok-step.ensures.stands numbers known seen) (c.in_ok-step.ensures.adds numbers known seen) f;
}
