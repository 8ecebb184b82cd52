-- The worked meetings: the two vessels at a tick.
use Rattle.std.specs.Prelude.{ℕ, Bool, cond, ◌*◌, [], ◌∷◌, Some, pos, neg_ℤ, ◌-ℤ◌}
use Rattle.motion.specs.declared.leg.TickState.{TickState}
use Rattle.traces.specs.Audited.{SeenVessels}

abbrev pub own_at : ℕ → TickState
own_at k = record { point = record { x = pos 0; y = pos (926000 * k) -ℤ pos 18520000 }; direction = Some 0; speed = Some 180 }

abbrev pub two_vessels : TickState → TickState → SeenVessels
two_vessels own other = (369190000, own) ∷ (477553000, other) ∷ []

-- The other comes from the opposite direction.
abbrev pub head_on_at : ℕ → SeenVessels
head_on_at k =
    two_vessels (own_at k) (record { point = record { x = neg_ℤ (pos 185200); y = pos 18520000 -ℤ pos (926000 * k) }; direction = Some 1800; speed = Some 180 })

-- The other is stopped and heads the same way.
abbrev pub overtaking_at : ℕ → SeenVessels
overtaking_at k = two_vessels (own_at k) (record { point = record { x = neg_ℤ (pos 185200); y = pos 0 }; direction = Some 0; speed = Some 0 })

-- One of the two.
abbrev pub seen_at : Bool → ℕ → SeenVessels
seen_at still k = cond still (overtaking_at k) (head_on_at k)
