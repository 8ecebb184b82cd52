use Rattle.std.proofs.Common.{arith}
use Rattle.outside.proofs.Pieces.{drop-split}
use Rattle.outside.proofs.source.PlainSourceSource.read.Goals as goal

pub returns-clause-bytes : goal.returns-clause-bytes
returns-clause-bytes c =
    let s = c.self.inside in
    rw (← c.self.view_is) (
      c.copy_front-count.ensures.some,
      omega arith,
      drop-split s.bytes.items _ s.at _ (rw c.deref.ensures.value at c.copy_front-count.ensures.copied),
    )
