use Rattle.std.proofs.Common.{◌∙◌, ◌+◌, ◌<◌, inr, length, arith}
use Rattle.csv.specs.Reading.{strip_bom}
use Rattle.refutation_check.proofs.RowsRead.{at_begin, not_longer}
use Rattle.refutation_check.proofs.entries_read.read_entries.Goals as goal

pub take_rows-requires-clause-plain : goal.take_rows-requires-clause-plain
take_rows-requires-clause-plain c =
    let from = c.from_reader-reader.ensures in
    let set = c.has_headers.ensures in
    let also = c.flexible.ensures in
    record {
      config = rw (also, set) at from.config ∙ c.new.ensures.config;
      trim = rw (also, set) at from.trim ∙ c.new.ensures.trim;
      flexible = rw also at from.flexible;
      ready = inr (inr (rw (also, set) at from.has_headers, from.headers));
    }

pub take_rows-requires-clause-so_far : goal.take_rows-requires-clause-so_far
take_rows-requires-clause-so_far c =
    let from = c.from_reader-reader.ensures in
    let short = not_longer c.args.text.now in
    let enough : length (strip_bom c.args.text.now) < length c.args.text.now + 1 = omega arith in
    rw c.new-2.ensures.items (at_begin c.args.situation.now c.args.text.now c.from_reader-reader.result (length c.args.text.now + 1) from.source from.state enough)
