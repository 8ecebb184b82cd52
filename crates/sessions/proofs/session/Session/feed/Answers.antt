use Rattle.std.proofs.Common.{ℕ, List, [], ◌++◌, sym, subst}
use Rattle.outside.proofs.ForCallers.{err_cause}
use Rattle.sessions.specs.Standing.{StandsFor}
use Rattle.sessions.proofs.Feeding.{unless_weaker}
use Rattle.sessions.proofs.session.Session.feed.Goals as goal

pub returns-in_err-feed_into-clause-refused : goal.returns-in_err-feed_into-clause-refused
returns-in_err-feed_into-clause-refused c =
    err_cause c.from_residual.result c.in_err-feed_into.field-0.0 _ c.from_residual.ensures.1
    (unless_weaker c.in_err-feed_into.field-0.0 _ _ (λ refuses fed given stands. (let stop = refuses [] c.new-text.ensures in (stop.more, stop.stopped fed given stands)))
    c.in_err-feed_into.ensures.refused)

pub returns-clause-given : goal.returns-clause-given
returns-clause-given c = λ fed given stands.
    let taken = c.in_ok-feed_into.ensures.taken [] c.new-text.ensures in
    subst (λ (bytes : List ℕ). StandsFor c.feed_into.new.self (fed ++ c.args.piece.now) (given ++ bytes)) (sym (c.in_ok-into_bytes.ensures _ taken.has)) (taken.stands fed given stands)
