use Rattle.std.proofs.Common.{ℕ, ◌<◌, get_or}
use Rattle.motion.specs.TickStates.{MovesLittle}
use Rattle.tracks.specs.Standing.{legs_in}
use Rattle.tracks.proofs.book.Book.moves_little.Given as goal

abbrev pub invariant-loop-at : goal.invariant-loop-at
invariant-loop-at l = (k : ℕ) → k < l.at → MovesLittle l.self.numbers.gap (legs_in l.self (get_or l.self.held k 0))
