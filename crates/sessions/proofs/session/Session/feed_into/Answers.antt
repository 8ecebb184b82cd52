use Rattle.std.proofs.Common.{ℕ, ◌≡◌, ◌++◌, List, length, drop, refl, subst, ap, ◌∙◌, arith}
use Rattle.std.proofs.lemmas.List.{length-take, take_all}
use Rattle.outside.proofs.ForCallers.{err_cause}
use Rattle.sessions.specs.Feeding.{TookPiece}
use Rattle.sessions.proofs.Feeding.{behind_first, fits, ready_for_first, refuses_at, refuses_bytes, took_first, unless_weaker}
use Rattle.sessions.proofs.session.Session.feed_into.Goals as goal

pub take_lines-requires-clause-ready : goal.take_lines-requires-clause-ready
take_lines-requires-clause-ready c = ready_for_first c.args.self.now c.room.result c.room.ensures c.fitting-first.result.now c.args.piece.now c.fitting-first.ensures c.requires.in_use

pub returns-in_err-take_lines-clause-refused : goal.returns-in_err-take_lines-clause-refused
returns-in_err-take_lines-clause-refused c =
    err_cause c.from_residual.result c.in_err-take_lines.field-0.0 _ c.from_residual.ensures.1
    (unless_weaker c.in_err-take_lines.field-0.0 _ _ (λ refuses front has.
    refuses_at c.ended_lines_stay.ensures.ended c.many_settled_stay.ensures c.a_part_goes_on.ensures.ended c.args.self.now c.fitting-first.result.now c.args.piece.now front c.take_lines.new.text
    c.in_err-take_lines.field-0.0 (drop c.room.result c.args.piece.now)
    (behind_first c.args.self.now c.room.result c.room.ensures c.fitting-first.result.now c.args.piece.now c.fitting-first.ensures)
    (fits c.args.self.now c.room.result c.room.ensures c.fitting-first.result.now c.args.piece.now c.fitting-first.ensures) (refuses front has)) c.in_err-take_lines.ensures.refused)

pub returns-then-first-piece-clause-refused : goal.returns-then-first-piece-clause-refused
returns-then-first-piece-clause-refused c = λ front has.
    refuses_bytes c.ended_lines_stay.ensures.ended c.many_settled_stay.ensures c.a_part_goes_on.ensures.ended c.args.self.now c.fitting-first.result.now c.args.piece.now front c.take_lines.new.text
    c.take_lines.new.self c.room.result c.take_lines.ensures.mode c.take_lines.ensures.scenario c.room.ensures c.fitting-first.ensures c.if-first-piece.true (c.in_ok-take_lines.ensures.taken front has)

pub forget-requires : goal.forget-requires
forget-requires c =
    let text = c.requires.text in
    let used = c.requires.in_use in
    let took = took_first c.args.self.now c.room.result c.room.ensures c.fitting-first.result.now c.args.piece.now c.fitting-first.ensures c.take_lines.new.self _ text.0 c.take_lines.new.text
    c.take_lines.ensures.scenario c.take_lines.ensures.count refl (c.in_ok-take_lines.ensures.taken text.0 text.1) in
    record { fed = used.fed ++ c.fitting-first.result.now; given = used.given ++ took.more; stands = took.stands used.fed used.given used.stands }

pub returns-clause-in_use : goal.returns-clause-in_use
returns-clause-in_use c =
    let text = c.requires.text in
    let used = c.requires.in_use in
    let took = took_first c.args.self.now c.room.result c.room.ensures c.fitting-first.result.now c.args.piece.now c.fitting-first.ensures c.take_lines.new.self _ text.0 c.take_lines.new.text
    c.take_lines.ensures.scenario c.take_lines.ensures.count refl (c.in_ok-take_lines.ensures.taken text.0 text.1) in
    record {
      fed = used.fed ++ c.fitting-first.result.now;
      given = used.given ++ took.more;
      stands = c.forget.ensures.stands _ _ (took.stands used.fed used.given used.stands);
    }

pub returns-clause-taken : goal.returns-clause-taken
returns-clause-taken c = λ front has.
    let took = took_first c.args.self.now c.room.result c.room.ensures c.fitting-first.result.now c.args.piece.now c.fitting-first.ensures c.take_lines.new.self _ front c.take_lines.new.text
    c.take_lines.ensures.scenario c.take_lines.ensures.count refl (c.in_ok-take_lines.ensures.taken front has) in
    let now : TookPiece c.args.self.now c.forget.new.self c.fitting-first.result.now front c.take_lines.new.text =
    record { more = took.more; has = took.has; stands = λ fed given stands. c.forget.ensures.stands _ _ (took.stands fed given stands) } in
    let size = ap length c.fitting-first.ensures ∙ length-take c.room.result c.args.piece.now in
    let enough = c.if-first-piece.false in
    let whole : c.fitting-first.result.now ≡ c.args.piece.now = c.fitting-first.ensures ∙ take_all c.room.result c.args.piece.now (omega (arith, size, enough)) in
    subst (λ (piece : List ℕ). TookPiece c.args.self.now c.forget.new.self piece front c.take_lines.new.text) whole now
