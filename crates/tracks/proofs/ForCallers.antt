-- Lemmas for the crates above: the vessels held, in their order; her reports in theirs, as far as they have come by a time, or are kept from a
-- time on; and how many there are.
pub use Rattle.tracks.proofs.Counting.{few_legs, few_reports, filter_map_fewer}
pub use Rattle.tracks.proofs.KeptReports.{remembers_forgetting, remembers_later}
pub use Rattle.tracks.proofs.Seen.{seen_in-is}
pub use Rattle.tracks.proofs.Rising.{accepted_in_order}
pub use Rattle.tracks.proofs.ReportsInOrder.{past_reports_stay, remembered_in_order, remembered_report, seen_has_reported}
use Rattle.std.proofs.Common.{◌≡◌, ℕ, ◌+◌, ◌<◌, List, get_or, Some, true, arith}
use Rattle.std.specs.Prelude.{slice_get}
use Rattle.std.specs.List.{All, AllPairs}
use Rattle.std.specs.List.Sorted.{IsStrictlyIncreasing}
use Rattle.std.proofs.lemmas.Option.{get_or_from_slice_get, slice_get_within}
use Rattle.std.proofs.lemmas.List.Elements.{Contains-get_or}
use Rattle.tracks.specs.AcceptedReports.{JudgingNumbers}
use Rattle.tracks.specs.VesselsHeld.{Sent, held_of, is_held}
use Rattle.tracks.proofs.Ascending.{among_from_Contains, ascends_lt}
use Rattle.tracks.proofs.Holding.{held_of-ascends, held_passes}
use Rattle.tracks.proofs.Stands.{among_at}

-- each is below the next
pub held_ascends : (numbers : JudgingNumbers) (sent : List Sent) → IsStrictlyIncreasing (held_of numbers sent)
held_ascends numbers sent = λ k lt. ascends_lt (held_of numbers sent) (held_of-ascends numbers sent) k (k + 1) 0 (omega arith) lt

-- each is below all later ones
pub held_in_order : (numbers : JudgingNumbers) (sent : List Sent) → AllPairs (λ (a b : ℕ). a < b) (held_of numbers sent)
held_in_order numbers sent i j d lt within = ascends_lt (held_of numbers sent) (held_of-ascends numbers sent) i j d lt within

-- each is held
pub each_is_held : (numbers : JudgingNumbers) (sent : List Sent) → All (λ (mmsi : ℕ). is_held numbers sent mmsi ≡ true) (held_of numbers sent)
each_is_held numbers sent k d lt =
    held_passes numbers sent _ (among_from_Contains _ (held_of numbers sent) (Contains-get_or (held_of numbers sent) k d lt))

-- the one at an index is held, as `Book::vessel` gives her
pub held_at : (numbers : JudgingNumbers) (sent : List Sent) (k mmsi : ℕ) → slice_get (held_of numbers sent) k ≡ Some mmsi → is_held numbers sent mmsi ≡ true
held_at numbers sent k mmsi here = held_passes numbers sent mmsi (among_at (held_of numbers sent) k mmsi here)

-- one at a later index has the greater identity
pub later_is_greater : (numbers : JudgingNumbers) (sent : List Sent) (i j a b : ℕ) → i < j → slice_get (held_of numbers sent) i ≡ Some a → slice_get (held_of numbers sent) j ≡ Some b → a < b
later_is_greater numbers sent i j a b lt first second =
    let ms = held_of numbers sent in
    let below : get_or ms i 0 < get_or ms j 0 = held_in_order numbers sent i j 0 lt (slice_get_within ms j b second) in
    let first-is = get_or_from_slice_get ms i a 0 first in
    let second-is = get_or_from_slice_get ms j b 0 second in
    omega arith
