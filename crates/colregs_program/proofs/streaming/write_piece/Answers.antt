use Rattle.std.proofs.Common.{[]}
use Rattle.std.proofs.lemmas.Result.{on_ok_weaker, IfErr-weaker}
use Rattle.colregs_program.proofs.StreamedReports.{refused_cause, taken_cause, taken_written, unless_at}
use Rattle.colregs_program.proofs.streaming.write_piece.Goals as goal

pub returns-in-Ok-clause-written : goal.returns-in-Ok-clause-written
returns-in-Ok-clause-written g c =
    on_ok_weaker c.put_text.result (λ put. taken_written c.args.session.now c.feed_into.new.self c.args.piece.now _ _ c.feed_into.new.text (c.in-Ok.ensures.taken [] c.new-text.ensures) put) c.put_text.ensures.put

pub returns-in-Ok-clause-cause : goal.returns-in-Ok-clause-cause
returns-in-Ok-clause-cause g c =
    IfErr-weaker c.put_text.result _ _ (λ because cause. taken_cause c.args.session.now c.feed_into.new.self c.args.piece.now _ _ c.feed_into.new.text because c.in-Ok.ensures.mode c.in-Ok.ensures.scenario
    (c.in-Ok.ensures.taken [] c.new-text.ensures) cause) c.put_text.ensures.cause

pub returns-in-Err-clause-cause : goal.returns-in-Err-clause-cause
returns-in-Err-clause-cause g c =
    refused_cause c.args.session.now c.requires c.args.piece.now _ _ c.feed_into.new.text c.in-Err.why c.put_refused.result
    (unless_at c.in-Err.why c.args.session.now c.args.piece.now c.new-text.result c.feed_into.new.text c.new-text.ensures c.in-Err.ensures.refused) c.put_refused.ensures.cause
