-- What the text of a list of entries stands for: the text of the rows that it was given.
use Rattle.std.specs.Prelude.{ℕ, ◌≡◌, false, List, ◌++◌}
use Rattle.csv.specs.Writing.{default_writer, fields_written, has_written, writer_pending, writer_setup, writer_under}
use Rattle.refutations.specs.declared.entry_row.EntryRows.{EntryRows}

-- The text of the rows so far is this one, and the writer stands at the beginning of a row.
pub record HasRows (kept : EntryRows) (text : List ℕ) : Type 0 where
  pub written : (writer_under kept.writer).items ++ writer_pending kept.writer ≡ text
  pub setup : writer_setup kept.writer ≡ default_writer
  pub at_row : fields_written kept.writer ≡ 0
  pub clean : has_written kept.writer ≡ false
