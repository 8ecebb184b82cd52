-- The rows of the vessels that are held.
use Rattle.std.proofs.Common.{ℕ, ◌≡◌, ◌+◌, ◌<◌, ◌≤◌, List, ◌++◌, length, take, flat_map, append_assoc, refl, ap, ◌∙◌, arith}
use Rattle.std.specs.Prelude.{◌≢◌, ◌^◌, Option, Some, slice_get}
use Rattle.report_csv.specs.CsvRows.{row_of}
use Rattle.ais_messages.specs.declared.message.ShipData.{ShipData}
use Rattle.audit_report.specs.ReportRows.{vessel_fields}
use Rattle.tracks.specs.AcceptedReports.{JudgingNumbers}
use Rattle.tracks.specs.Standing.{counted, kept_counts}
use Rattle.tracks.specs.VesselsHeld.{Sent, accepted_of, held_of, legs_of}
use Rattle.tracks.specs.declared.accepted.Accepted.{Accepted}
use Rattle.tracks.specs.declared.counts.Counts.{Counts}
use Rattle.tracks.specs.declared.keeping.Keeping.{Keeping}
use Rattle.tracks.specs.declared.keeping.Keeping.TheVariants.{Latest, Since, Tracks}
use Rattle.tracks.specs.JoinedReports.{legs_between}
use Rattle.tracks.proofs.ForCallers.{few_legs, few_reports}
use Rattle.tracks.specs.Lengths.{length_of}
use Rattle.audit_report.specs.VesselRows.{held_fields, ship_type_of, told_fields}
use Rattle.audit_report.proofs.Pushing.{rows_get}

-- the rows of the first vessels, and of one more
pub one_vessel_on : (numbers : JudgingNumbers) (messages : List Sent) (front : List ℕ) (k mmsi : ℕ) → slice_get (held_of numbers messages) k ≡ Some mmsi
    → (front ++ flat_map (λ m. row_of (held_fields numbers messages m)) (take k (held_of numbers messages))) ++ row_of (held_fields numbers messages mmsi)
    ≡ front ++ flat_map (λ m. row_of (held_fields numbers messages m)) (take (k + 1) (held_of numbers messages))
one_vessel_on numbers messages front k mmsi at =
    let f : ℕ → List ℕ = λ m. row_of (held_fields numbers messages m) in
    let held = held_of numbers messages in
    append_assoc front (flat_map f (take k held)) (f mmsi)
    ∙ ap (λ (l : List ℕ). front ++ l) (rows_get f held k mmsi at)

-- the row of a vessel, from its parts
pub vessel_is : (mmsi : ℕ) (name name' : Option (List ℕ)) (kind length reports legs : ℕ) (ship ship' : Option ShipData) (reports' legs' : ℕ)
    → name ≡ name' → ship ≡ ship' → kind ≡ ship_type_of ship → length ≡ length_of ship → reports ≡ reports' → legs ≡ legs'
    → vessel_fields mmsi name kind length reports legs ≡ told_fields mmsi (record { name = name'; ship = ship' }) reports' legs'
vessel_is mmsi name name' kind length reports legs ship ship' reports' legs' n s k l r g =
    λ i. vessel_fields mmsi (n i) ((k ∙ ap ship_type_of s) i) ((l ∙ ap length_of s) i) (r i) (g i)

-- ---- the counts

counts_told : (keeping : Keeping) (gap : ℕ) (xs : List Accepted) → keeping ≢ Latest
    → kept_counts keeping gap xs ≡ record { reports = counted (length xs); legs = counted (length (legs_between gap xs)) }
counts_told Latest gap xs tracks = absurd (tracks refl)
counts_told Tracks gap xs tracks = refl
counts_told (Since time) gap xs tracks = refl

counted_all : (n most : ℕ) → n ≤ most → most < 2 ^ 64 → counted n ≡ n
counted_all n most le lt = omega (arith, le, lt)

-- There are as many reports as the count says ..
pub reports_counted : (keeping : Keeping) (numbers : JudgingNumbers) (messages : List Sent) (mmsi : ℕ) (counts : Counts) → keeping ≢ Latest → length messages < 2 ^ 64
    → counts ≡ kept_counts keeping numbers.gap (accepted_of numbers messages mmsi) → counts.reports ≡ length (accepted_of numbers messages mmsi)
reports_counted keeping numbers messages mmsi counts tracks few is =
    ap (λ (c : Counts). c.reports) (is ∙ counts_told keeping numbers.gap (accepted_of numbers messages mmsi) tracks)
    ∙ counted_all _ (length messages) (few_reports numbers messages mmsi) few

-- .. and as many legs.
pub legs_counted : (keeping : Keeping) (numbers : JudgingNumbers) (messages : List Sent) (mmsi : ℕ) (counts : Counts) → keeping ≢ Latest → length messages < 2 ^ 64
    → counts ≡ kept_counts keeping numbers.gap (accepted_of numbers messages mmsi) → counts.legs ≡ length (legs_of numbers messages mmsi)
unfolding legs_of
legs_counted keeping numbers messages mmsi counts tracks few is =
    ap (λ (c : Counts). c.legs) (is ∙ counts_told keeping numbers.gap (accepted_of numbers messages mmsi) tracks)
    ∙ counted_all _ (length messages) (few_legs numbers messages mmsi) few
