use Rattle.std.proofs.Common.{◌≡◌, ◌⊎◌, ℕ, take}
use Rattle.std.specs.List.{Contains}
use Rattle.traces.proofs.known_pairs.has_one.Given as goal

abbrev pub invariant-loop-mmsi : goal.invariant-loop-mmsi
invariant-loop-mmsi l = (mmsi : ℕ) → (mmsi ≡ l.pair.subject) ⊎ (mmsi ≡ l.pair.other) → Contains (take l.mmsi-index l.subjects) mmsi → ⊥
