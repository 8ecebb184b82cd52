-- The model of a book of vessels.
use Rattle.std.specs.Prelude.{ℕ, ◌≡◌, ◌==◌, ◌-◌, ◌^◌, ◌≤◌, ⊤, max, min, nat_le, nat_lt, true, List, [], ◌∷◌, ◌++◌, length, map, Option, Some, None, if◌then◌else◌}
use Rattle.std.specs.List.{filter, last_or}
use Rattle.std.specs.Option.{option_to_list}
use Rattle.fixed_geometry.specs.Sizes.{IsWithin}
use Rattle.ais_messages.specs.MessageFields.{IsReport}
use Rattle.motion.specs.declared.leg.Leg.{Leg}
use Rattle.tracks.specs.AcceptedReports.{JudgingNumbers}
use Rattle.tracks.specs.JoinedReports.{legs_between}
use Rattle.tracks.specs.VesselsHeld.{Sent, accepted_of, held_of, is_held, statics_of}
use Rattle.tracks.specs.declared.accepted.Accepted.{Accepted}
use Rattle.tracks.specs.declared.counts.Counts.{Counts}
use Rattle.tracks.specs.declared.held_vessel.HeldVessel.{HeldVessel}
use Rattle.tracks.specs.declared.keeping.Keeping.{Keeping}
use Rattle.tracks.specs.declared.keeping.Keeping.TheVariants.{Latest, Since, Tracks}
use Rattle.tracks.specs.declared.statics.Statics.{Statics}

-- the reports since a time: the last one before it, if there is one, and those from it
abbrev pub points_since : ℕ → List Accepted → List Accepted
points_since time points =
    option_to_list (last_or None (filter (λ (report : Accepted). nat_lt report.time time) points)) ++ filter (λ (report : Accepted). nat_le time report.time) points

-- The stored part of a vessel's accepted reports: only the latest, or all, or those from a time with the one before.
abbrev pub kept_points : Keeping → List Accepted → List Accepted
kept_points Latest points = option_to_list (last_or None points)
kept_points Tracks points = points
kept_points (Since time) points = points_since time points

-- The legs between the stored reports are stored: all that contain the time or a later one.
abbrev pub kept_legs : Keeping → ℕ → List Accepted → List Leg
kept_legs keeping gap points = legs_between gap (kept_points keeping points)

-- data before this time may be forgotten
abbrev pub forgotten : Keeping → ℕ
forgotten Latest = 0
forgotten Tracks = 0
forgotten (Since time) = time

-- the part that a book stores after forgetting data before a time
abbrev pub forgetting : Keeping → ℕ → Keeping
forgetting Latest time = Latest
forgetting Tracks time = Since time
forgetting (Since earliest) time = Since (max earliest time)

-- The places of vessels at a time are stored; with only the latest reports they are stored for no time.
abbrev pub Remembers : Keeping → ℕ → Type 0
Remembers Latest time = ⊥
Remembers Tracks time = ⊤
Remembers (Since earliest) time = earliest ≤ time

-- The greatest count.
abbrev pub counted : ℕ → ℕ
counted n = min n (2 ^ 64 - 1)

-- The numbers of a vessel's reports and of the legs between them. If only the latest report is stored, nothing is
-- counted.
abbrev pub kept_counts : Keeping → ℕ → List Accepted → Counts
kept_counts Latest gap points = record { reports = 0; legs = 0 }
kept_counts _ gap points = record { reports = counted (length points); legs = counted (length (legs_between gap points)) }

-- the stored data of a vessel
pub record VesselValue : Type 0 where
  pub points : List Accepted
  pub legs : List Leg
  pub counts : Counts
  pub statics : Statics

-- the state of a book: the part that it stores of each vessel, its numbers, and its vessels in the order of their MMSIs
pub record BookValue : Type 0 where
  pub keeping : Keeping
  pub numbers : JudgingNumbers
  pub held : List ℕ
  pub vessels : List VesselValue

-- the stored legs of a vessel, or none if the book does not have her
abbrev pub legs_among : List ℕ → List VesselValue → ℕ → List Leg
legs_among [] vessels mmsi = []
legs_among (held ∷ others) [] mmsi = []
legs_among (held ∷ others) (vessel ∷ vessels) mmsi = if held == mmsi then vessel.legs else legs_among others vessels mmsi

abbrev pub legs_in : BookValue → ℕ → List Leg
legs_in book mmsi = legs_among book.held book.vessels mmsi

-- the stored part of a vessel's data in the messages
abbrev pub vessel_of : Keeping → JudgingNumbers → List Sent → ℕ → VesselValue
vessel_of keeping numbers sent mmsi = record {
  points = kept_points keeping (accepted_of numbers sent mmsi);
  legs = kept_legs keeping numbers.gap (accepted_of numbers sent mmsi);
  counts = kept_counts keeping numbers.gap (accepted_of numbers sent mmsi);
  statics = statics_of sent mmsi;
}

abbrev pub vessel_held : Keeping → JudgingNumbers → List Sent → ℕ → Option VesselValue
vessel_held keeping numbers sent mmsi = if is_held numbers sent mmsi then Some (vessel_of keeping numbers sent mmsi) else None

-- The model of a book is its numbers and the list of the messages so far.
pub record StandsFor (book : BookValue) (numbers : JudgingNumbers) (sent : List Sent) : Type 0 where
  pub by : book.numbers ≡ numbers
  pub holds : book.held ≡ held_of numbers sent
  pub vessels : book.vessels ≡ map (vessel_of book.keeping numbers sent) (held_of numbers sent)

-- The book has her, and her entry matches the stored part of her data in the messages.
pub record IsHeldVessel (keeping : Keeping) (numbers : JudgingNumbers) (sent : List Sent) (vessel : HeldVessel) : Type 0 where
  pub held : is_held numbers sent vessel.mmsi ≡ true
  pub points : vessel.points.now ≡ kept_points keeping (accepted_of numbers sent vessel.mmsi)
  pub legs : vessel.legs.now ≡ kept_legs keeping numbers.gap (accepted_of numbers sent vessel.mmsi)
  pub counts : vessel.counts ≡ kept_counts keeping numbers.gap (accepted_of numbers sent vessel.mmsi)
  pub statics : vessel.statics.now ≡ statics_of sent vessel.mmsi

-- the numbers that a scenario may have
pub record IsNumbers (numbers : JudgingNumbers) : Type 0 where
  pub gap : numbers.gap ≤ 3600
  pub some_speed : 1 ≤ numbers.max_speed
  pub max_speed : numbers.max_speed ≤ 1022

-- An accepted report is in its ranges and in the region.
pub record IsAccepted (accepted : Accepted) : Type 0 where
  pub report : IsReport accepted.report
  pub point : IsWithin 2222400000 accepted.point
