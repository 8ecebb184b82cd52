use Rattle.std.proofs.Common.{take, arith}
use Rattle.std.proofs.KnownBytes.{Keeps-refl}
use Rattle.std.proofs.lemmas.List.{length-take}
use Rattle.outside.proofs.ForCallers.{err_cause}
use Rattle.colregs_program.proofs.StreamedReports.{block_cause, settled_left}
use Rattle.colregs_program.proofs.streaming.write_block.Goals as goal

pub returns-in_err-write_piece-in-Got-clause-cause : goal.returns-in_err-write_piece-in-Got-clause-cause
returns-in_err-write_piece-in-Got-clause-cause g c =
    err_cause c.from_residual.result c.in_err-write_piece-in-Got.field-0.0 _ c.from_residual.ensures.1 (λ asked first contents has.
    block_cause c.args.session.now c.requires.in_use first _ _ contents _ _ (take c.in-Got.count c.read.new.room) c.in_err-write_piece-in-Got.field-0.0 has c.in-Got.ensures.bytes.2
    (λ fed given stands. (
    let limit = c.room_for-most.ensures.limited fed given stands in
    let count = c.in-Got.ensures.bytes.1 in
    let long = length-take c.in-Got.count c.read.new.room in
    let same = c.read.auto.room in
    let room = length-take c.room_for-most.result c.args.block.now in
    omega (arith, limit, count, long, same, room)
    ))
    c.in_err-write_piece-in-Got.ensures.cause asked)

pub returns-in_ok-write_piece-in-Got-clause-written : goal.returns-in_ok-write_piece-in-Got-clause-written
returns-in_ok-write_piece-in-Got-clause-written g c = λ first contents has.
    c.in_ok-write_piece-in-Got.ensures.written first _ _ contents has c.in-Got.ensures.bytes.2

pub returns-in-Failed-clause-cause : goal.returns-in-Failed-clause-cause
returns-in-Failed-clause-cause g c = λ asked first contents has.
    settled_left c.args.session.now first _ _ contents _ _ has c.in-Failed.ensures.bytes (Keeps-refl (g.K.Sink.contents c.args.out.now))
