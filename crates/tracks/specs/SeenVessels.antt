-- The vessels seen at a time, each with her state there.
use Rattle.std.specs.Prelude.{ℕ, List, Option}
use Rattle.std.specs.List.{filter_map}
use Rattle.std.specs.Option.{option_map}
use Rattle.motion.specs.TickStates.{state_at}
use Rattle.motion.specs.declared.leg.Leg.{Leg}
use Rattle.motion.specs.declared.leg.TickState.{TickState}
use Rattle.tracks.specs.AcceptedReports.{JudgingNumbers}
use Rattle.tracks.specs.Standing.{BookValue, legs_in}
use Rattle.tracks.specs.VesselsHeld.{Sent, held_of, legs_of}

-- a vessel, by her MMSI, with her state at the time, if one of her legs contains it
abbrev pub seen_vessel : ℕ → (ℕ → List Leg) → ℕ → Option (ℕ × TickState)
seen_vessel time legs mmsi = option_map (λ (state : TickState). (mmsi, state)) (state_at time (legs mmsi))

-- the vessels seen at a time, by the messages: the vessels of the book, in order, with a leg that contains the time
unfoldable pub seen_of : JudgingNumbers → List Sent → ℕ → List (ℕ × TickState)
seen_of numbers sent time = filter_map (seen_vessel time (legs_of numbers sent)) (held_of numbers sent)

-- the same by the stored legs of a book
unfoldable pub seen_in : BookValue → ℕ → List (ℕ × TickState)
seen_in book time = filter_map (seen_vessel time (legs_in book)) book.held
