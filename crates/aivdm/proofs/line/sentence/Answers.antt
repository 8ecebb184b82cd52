use Rattle.std.proofs.Common.{sym}
use Rattle.aivdm.proofs.SentenceCuts.{cut_room}
use Rattle.aivdm.proofs.line.sentence.Goals as goal

pub summed-requires : goal.summed-requires
summed-requires c = cut_room c.args.bytes.now c.in_ok-rest.rest.now _ (sym c.in_ok-rest.ensures) (sym c.in_ok-fields.ensures)
