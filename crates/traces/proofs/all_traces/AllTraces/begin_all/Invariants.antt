use Rattle.std.proofs.Common.{List, take}
use Rattle.traces.specs.Audited.{AuditNumbers, Sighting}
use Rattle.traces.specs.Inner.TracesKept.{Holds, IsBeginning, MayBegin}
use Rattle.traces.specs.Known.{Known}
use Rattle.traces.specs.Standing.{IsSound}
use Rattle.traces.proofs.Beginning.{AreBegunSo}
use Rattle.traces.proofs.all_traces.AllTraces.begin_all.Given as goal

abbrev pub invariant-loop-pair : goal.invariant-loop-pair
invariant-loop-pair l = record {
  sound : IsSound l.self;
  same : IsBeginning l.fn.self l.self;
  begun : (numbers : AuditNumbers) (ticks : List Sighting) (knowns : List Known) → Holds l.fn.self numbers ticks knowns → MayBegin l.fn.self numbers knowns
      → AreBegunSo l.self numbers ticks l.seen l.fn.self.given knowns (take l.pair-index l.pair-items);
}
