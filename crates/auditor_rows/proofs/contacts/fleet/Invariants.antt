use Rattle.std.proofs.Common.{◌≡◌, ℕ, ◌*◌, ◌≤◌}
use Rattle.std.specs.List.{All}
use Rattle.motion.specs.declared.leg.TickState.{TickState}
use Rattle.traces.specs.Audited.{AreAscending, ArePlaced}
use Rattle.auditor_rows.proofs.contacts.fleet.Given as goal

abbrev pub invariant-loop-x : goal.invariant-loop-x
invariant-loop-x l = record {
  mmsi : l.mmsi ≡ 10 * l.x-index;
  none_greater : All (λ (vessel : ℕ × TickState). vessel.0 ≤ l.mmsi) l.seen.items;
  ascending : AreAscending l.seen.items;
  placed : ArePlaced l.seen.items;
}
