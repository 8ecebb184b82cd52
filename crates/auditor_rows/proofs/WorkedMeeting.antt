-- The two vessels of the worked meeting move as a step may say.
use Rattle.std.proofs.Common.{ℕ, Bool, ◌+◌, ◌*◌, ◌^◌, true, false, cond, [], arith}
use Rattle.std.specs.Prelude.{Some, None, pos, neg_ℤ, ◌-ℤ◌, ◌==◌, Option}
use Rattle.std.specs.Option.{option_map}
use Rattle.std.proofs.lemmas.Int.{ints}
use Rattle.fixed_geometry.specs.Sizes.{IsBelow}
use Rattle.motion.specs.Displacement.{displacement}
use Rattle.motion.specs.declared.leg.TickState.{TickState}
use Rattle.meetings.specs.Traces.{IsShortMove}
use Rattle.traces.specs.Audited.{MoveLittle, SeenVessels}
use Rattle.auditor_rows.specs.WorkedMeeting.{head_on_at, overtaking_at, own_at, seen_at, two_vessels}

pub from_none : (seen : SeenVessels) → MoveLittle [] seen
from_none seen mmsi = tt

abbrev state : Option (ℕ × TickState) → Option TickState
state found = option_map (λ (v : ℕ × TickState). v.1) found

two_move : (a a' b b' : TickState) → IsBelow (2 ^ 25) (displacement a.point a'.point) → IsBelow (2 ^ 25) (displacement b.point b'.point) → MoveLittle (two_vessels a b) (two_vessels a' b')
two_move a a' b b' own other mmsi =
    elim (369190000 == mmsi) as (λ t. IsShortMove (state (cond t (Some (369190000, a)) (cond (477553000 == mmsi) (Some (477553000, b)) None))) (state (cond t (Some (369190000, a')) (cond (477553000 == mmsi) (Some (477553000, b')) None)))) [
      | true ↦ own
      | false ↦ elim (477553000 == mmsi) as (λ t. IsShortMove (state (cond t (Some (477553000, b)) None)) (state (cond t (Some (477553000, b')) None))) [
        | true ↦ other
        | false ↦ tt
      ]
    ]

own_moves : (k : ℕ) → IsBelow (2 ^ 25) (displacement (own_at k).point (own_at (k + 1)).point)
own_moves k = record { x = omega (arith, ints); y = omega (arith, ints) }

pub moves_at : (k : ℕ) → MoveLittle (head_on_at k) (head_on_at (k + 1))
moves_at k = two_move _ _ _ _ (own_moves k) (record { x = omega (arith, ints); y = omega (arith, ints) })

pub moves_past : (k : ℕ) → MoveLittle (overtaking_at k) (overtaking_at (k + 1))
moves_past k = two_move _ _ _ _ (own_moves k) (record { x = omega (arith, ints); y = omega (arith, ints) })

pub moves_on : (still : Bool) (k : ℕ) → MoveLittle (seen_at still k) (seen_at still (k + 1))
moves_on still k = elim still as (λ t. MoveLittle (seen_at t k) (seen_at t (k + 1))) [
  | true ↦ moves_past k
  | false ↦ moves_at k
]
