use Rattle.std.proofs.Common.{refl}
use Rattle.auditor.proofs.UnderWay.{ending_more}
use Rattle.auditor.proofs.audit_keeper.AuditKeeperTraceKeeper.end.Goals as goal

pub returns : goal.returns
returns c = record {
  goes_on = record { sound = c.requires.sound; ready = λ kept ready. ready; steps = λ kept. refl };
  ends = λ numbers step kept other ended rest known given e at within here.
      ending_more c.args.self.now.program numbers e.is c.args.index c.first_track-first.result c.first_track-first.ensures.is step given c.args.self.now.queue c.end.new.queue kept other
      c.args.trace.now c.end.new.self ended rest known at within here c.in_ok-end.ensures e;
}
