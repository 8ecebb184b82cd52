use Rattle.std.proofs.Common.{rules}
use Rattle.outside.proofs.Reading.{stops-after}
use Rattle.outside.proofs.whole.read_whole.Goals as goal

pub returns-in_err-read_block-clause-stops : goal.returns-in_err-read_block-clause-stops
returns-in_err-read_block-clause-stops g c = search (rules, stops-after, c.loop-bytes.invariant.taken, c.in_err-read_block.ensures.stops)
