use Rattle.std.proofs.Common.{[]}
use Rattle.outside.proofs.ForCallers.{err_cause}
use Rattle.sessions.proofs.EndedSessions.{ended_before, ended_by_feed, ready_for_feed, refused_by_feed, room_for_feed}
use Rattle.sessions.proofs.Feeding.{follows_of, unless_weaker}
use Rattle.sessions.proofs.session.Session.end_line.Goals as goal

pub returns-then-not-is_open-clause-ended : goal.returns-then-not-is_open-clause-ended
returns-then-not-is_open-clause-ended c = record {
  more = [];
  has = c.new-text.ensures;
  ended = λ fed given stands. ended_before c.args.self.now fed given stands (rw c.if-not-is_open.true at (c.is_open.ensures c.args.self.now.scenario fed stands.lines));
}

pub take_lines-requires-clause-ready : goal.take_lines-requires-clause-ready
take_lines-requires-clause-ready c = let used = c.requires in ready_for_feed c.args.self.now used.fed used.given used.stands

pub returns-clause-ended : goal.returns-clause-ended
returns-clause-ended c =
    let took = c.in_ok-take_lines.ensures.taken [] c.new-text.ensures in
    record {
      more = took.more;
      has = took.has;
      ended = λ fed given stands.
          ended_by_feed c.args.self.now fed given stands c.take_lines.new.self took.more (rw c.if-not-is_open.false at (c.is_open.ensures c.args.self.now.scenario fed stands.lines))
          (took.follows fed given (follows_of c.args.self.now fed given stands) (room_for_feed c.args.self.now fed given stands));
    }

pub returns-in_err-take_lines-clause-refused : goal.returns-in_err-take_lines-clause-refused
returns-in_err-take_lines-clause-refused c =
    err_cause c.from_residual.result c.in_err-take_lines.field-0.0 _ c.from_residual.ensures.1
    (unless_weaker c.in_err-take_lines.field-0.0 _ _ (λ refuses fed given stands.
    refused_by_feed c.args.self.now fed given stands [] c.take_lines.new.text c.in_err-take_lines.field-0.0 (rw c.if-not-is_open.false at (c.is_open.ensures c.args.self.now.scenario fed stands.lines))
    (refuses [] c.new-text.ensures)) c.in_err-take_lines.ensures.refused)
