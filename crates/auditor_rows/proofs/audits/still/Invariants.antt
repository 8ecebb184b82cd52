use Rattle.std.proofs.Common.{ℕ, ◌+◌, ◌<◌}
use Rattle.std.specs.List.{All}
use Rattle.motion.specs.declared.leg.TickState.{TickState}
use Rattle.traces.specs.Audited.{AreAscending, ArePlaced}
use Rattle.auditor_rows.proofs.audits.still.Given as goal

abbrev pub invariant-loop-k : goal.invariant-loop-k
invariant-loop-k l = record {
  less : All (λ (vessel : ℕ × TickState). vessel.0 < 200000000 + l.k) l.seen.items;
  ascending : AreAscending l.seen.items;
  placed : ArePlaced l.seen.items;
}
