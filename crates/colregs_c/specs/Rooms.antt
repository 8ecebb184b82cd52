-- What is in a caller's room.
use Rattle.std.specs.Prelude.{ℕ, ◌≡◌, List, ◌++◌, length, take, drop}

-- The room has the first bytes of the text, as many as fit, and is unchanged after them. The length is that of the whole text.
pub record Fills (room room' : List ℕ) (length' : ℕ) (text : List ℕ) : Type 0 where
  pub whole : length' ≡ length text
  pub filled : room' ≡ take (length room) text ++ drop (length text) room
