use Rattle.early_monitor.proofs.UnderWay.{found_more}
use Rattle.early_monitor.proofs.watch_keeper.WatchKeeperTraceKeeper.rest.Goals as goal

pub returns-clause-rests : goal.returns-clause-rests
returns-clause-rests c = λ rested. record {
  ready = c.rest.ensures.ready;
  one_more = c.rest.ensures.steps rested;
  stands = λ numbers ranks kept other done rest known seen answers given f at here is_at row.
      let alarms = c.args.self.now.alarms.keys in
      found_more c.args.self.now.rules numbers c.args._step alarms alarms kept c.args._index other c.args.trace.now c.rest.new.self answers
      done rest known seen at here (c.rest.ensures.stands rested numbers known seen answers row.shows)
      (c.rest.ensures.adds rested numbers known seen answers c.args._step alarms row.shows) f;
}
