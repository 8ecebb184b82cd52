use Rattle.std.proofs.Common.{refl}
use Rattle.traces.specs.Keeping.{IsApartRow}
use Rattle.auditor.proofs.UnderWay.{marked_more}
use Rattle.auditor.proofs.audit_keeper.AuditKeeperTraceKeeper.rest.Goals as goal

pub returns-clause-rests : goal.returns-clause-rests
returns-clause-rests c = λ rested. record {
  ready = c.rest.ensures.ready;
  one_more = c.rest.ensures.steps rested;
  stands = λ numbers ranks kept other done rest known seen answers given m at here is_at row.
      marked_more c.args.self.now.program numbers m.is c.args._index _ refl c.args.step given c.args.self.now.queue c.args.self.now.queue answers
      (λ numbers ranks known seen. IsApartRow numbers ranks known seen c.args.glance answers) ranks kept other
      c.args.trace.now c.rest.new.self done rest known seen at here is_at row
      (λ numbers ranks known seen front mine back bound given stands at row tracks first keeps.
      c.rest.ensures.rests rested numbers ranks known seen answers c.args.self.now.queue front mine back bound given stands at row tracks keeps) m;
}
