use Rattle.sessions.specs.Standing.{IsInUse}
use Rattle.run_rows.proofs.pieces.feed_all.Given as goal

-- the session goes on
abbrev pub invariant-loop-piece : goal.invariant-loop-piece
invariant-loop-piece l = IsInUse l.session
