-- The pieces in which a log comes.
use Rattle.std.specs.Prelude.{ℕ, ◌≡◌, ◌-◌, false, length, take, List}
use Rattle.std.specs.List.{All}
use Rattle.log_lines.specs.LogLines.{is_line_feed}

-- A piece is cut behind a line feed at the latest: there is none in it but its last byte.
abbrev pub IsPiece : List ℕ → Type 0
IsPiece piece = All (λ byte. is_line_feed byte ≡ false) (take (length piece - 1) piece)
