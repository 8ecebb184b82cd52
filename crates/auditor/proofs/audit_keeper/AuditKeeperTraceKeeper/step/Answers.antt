use Rattle.std.proofs.Common.{refl}
use Rattle.meetings.specs.Answers.{answer_of}
use Rattle.traces.specs.Keeping.{IsNextRow}
use Rattle.auditor.proofs.UnderWay.{marked_more}
use Rattle.auditor.proofs.audit_keeper.AuditKeeperTraceKeeper.step.Goals as goal

pub returns : goal.returns
returns c = record {
  goes_on = record { sound = c.requires.sound; ready = λ kept ready. ready; steps = λ kept. refl };
  ready = c.step.ensures.ready;
  one_more = c.step.ensures.steps;
  stands = λ numbers ranks kept other done rest known seen given m at here is_at row.
      marked_more c.args.self.now.program numbers m.is c.args.index c.first_track-first.result c.first_track-first.ensures.is c.args.step given c.args.self.now.queue c.step.new.queue (answer_of c.args.next.row.now)
      (λ numbers ranks known seen. IsNextRow numbers ranks known seen c.args.next) ranks kept other
      c.args.trace.now c.step.new.self done rest known seen at here is_at row c.in_ok-step.ensures.stands m;
}
