use Rattle.std.proofs.Common.{arith}
use Rattle.std.proofs.lemmas.Str.{IsUtf8-string_bytes}
use Rattle.scenario.proofs.migration.text_of.Goals as goal

pub returns-in-Ok-clause-read_again : goal.returns-in-Ok-clause-read_again
returns-in-Ok-clause-read_again c =
    let shallow = c.requires in
    rw c.into_bytes.ensures.value (record { text = IsUtf8-string_bytes c.in-Ok.text; tree = c.in-Ok.ensures.reads_back (omega arith) })
