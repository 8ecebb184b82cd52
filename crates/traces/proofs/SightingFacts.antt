-- What holds of each vessel that is seen holds of the state of any.
use Rattle.std.proofs.Common.{ℕ, ◌^◌, true, false, cond, [], ◌∷◌}
use Rattle.std.specs.Prelude.{All, IfSome, Some, ◌==◌}
use Rattle.std.specs.List.{find}
use Rattle.std.specs.Option.{option_map}
use Rattle.std.proofs.lemmas.List.Elements.{All-head, All-tail, All-weaker}
use Rattle.fixed_geometry.specs.Sizes.{IsBelow}
use Rattle.motion.specs.declared.leg.TickState.{TickState}
use Rattle.encounters.specs.Directions.{HasDirection}
use Rattle.meetings.specs.Traces.{IsPlaced}
use Rattle.traces.specs.Audited.{ArePlaced, SeenVessels, state_in}

state_has : (P : TickState → Type 0) (mmsi : ℕ) (seen : SeenVessels) → All (λ (v : ℕ × TickState). P v.1) seen → IfSome (state_in mmsi seen) P
state_has P mmsi [] all = tt
state_has P mmsi (v ∷ vs) all =
    elim (v.0 == mmsi) as (λ b. IfSome (option_map (λ (w : ℕ × TickState). w.1) (cond b (Some v) (find (λ (w : ℕ × TickState). w.0 == mmsi) vs))) P) [
      | true ↦ All-head (λ (w : ℕ × TickState). P w.1) v vs all
      | false ↦ state_has P mmsi vs (All-tail (λ (w : ℕ × TickState). P w.1) v vs all)
    ]

pub placed_state : (mmsi : ℕ) (seen : SeenVessels) → ArePlaced seen → IsPlaced (state_in mmsi seen)
placed_state mmsi seen all = state_has (λ s. IsBelow (2 ^ 33) s.point) mmsi seen
    (All-weaker (λ (v : ℕ × TickState). IsBelow (2 ^ 33) v.1.point × HasDirection v.1) (λ (v : ℕ × TickState). IsBelow (2 ^ 33) v.1.point) (λ v h. h.0) seen all)

pub directed_state : (mmsi : ℕ) (seen : SeenVessels) → ArePlaced seen → IfSome (state_in mmsi seen) HasDirection
directed_state mmsi seen all = state_has HasDirection mmsi seen
    (All-weaker (λ (v : ℕ × TickState). IsBelow (2 ^ 33) v.1.point × HasDirection v.1) (λ (v : ℕ × TickState). HasDirection v.1) (λ v h. h.1) seen all)
