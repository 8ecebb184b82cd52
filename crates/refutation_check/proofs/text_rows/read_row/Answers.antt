use Rattle.csv.specs.Records.{fields_of}
use Rattle.refutation_check.proofs.RowsRead.{turned}
use Rattle.refutation_check.proofs.text_rows.read_row.Goals as goal

pub returns-in-Ok-clause-turned : goal.returns-in-Ok-clause-turned
returns-in-Ok-clause-turned c = λ turns rows gives.
    turned c.args.reader.now c.read_byte_record.new.self c.in-Ok.found (fields_of c.read_byte_record.new.row) turns rows c.requires
    (c.in-Ok.ensures.reads c.requires.trim c.requires.ready) gives
