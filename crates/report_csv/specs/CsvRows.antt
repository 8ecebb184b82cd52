-- The rows of a report as text: fields between commas, quoted where they must be (RFC 4180), and a line feed.
use Rattle.std.specs.Prelude.{ℕ, List, [], Option, Some, None}
use Rattle.std.specs.Fmt.{decimal}
use Rattle.csv.specs.Writing.{default_writer, row_text}

abbrev pub Fields : Type 0
Fields = List (List ℕ)

-- the text of one row
unfoldable pub row_of : Fields → List ℕ
row_of fields = row_text default_writer fields

-- a number, or an empty field
abbrev pub optional_decimal : Option ℕ → List ℕ
optional_decimal None = []
optional_decimal (Some n) = decimal n
