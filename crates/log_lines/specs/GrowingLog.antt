-- The lines of a growing log: those that a line feed has ended, and the bytes after the last one.
use Rattle.std.specs.Prelude.{ℕ, ◌==◌, List, [], ◌∷◌, length, map, if◌then◌else◌}
use Rattle.std.specs.List.{slice_split}
use Rattle.log_lines.specs.LogLines.{is_line_feed, without_carriage_return}

-- all parts but the last
abbrev pub ended_among : List (List ℕ) → List (List ℕ)
ended_among [] = []
ended_among (part ∷ []) = []
ended_among (part ∷ next ∷ more) = part ∷ ended_among (next ∷ more)

-- the lines that a line feed has ended
unfoldable pub ended_lines : List ℕ → List (List ℕ)
ended_lines log = map without_carriage_return (ended_among (slice_split is_line_feed log))

-- the last part
abbrev pub last_part : List (List ℕ) → List ℕ
last_part [] = []
last_part (part ∷ []) = part
last_part (part ∷ next ∷ more) = last_part (next ∷ more)

-- the bytes after the last line feed
unfoldable pub open_part : List ℕ → List ℕ
open_part log = last_part (slice_split is_line_feed log)

-- the same as a line, if it has a byte
abbrev pub open_lines : List ℕ → List (List ℕ)
open_lines part = if length part == 0 then [] else without_carriage_return part ∷ []
