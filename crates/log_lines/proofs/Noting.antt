-- The ship types that are noted after one more message.
use Rattle.std.proofs.Common.{◌≡◌, ◌<◌, ℕ, Bool, List, [], ◌∷◌, ◌++◌, append-nil, Option, None, Some, refl, ap, sym, subst, ◌∙◌, arith}
use Rattle.std.specs.Prelude.{option_and_then}
use Rattle.std.specs.List.{filter_map}
use Rattle.std.specs.Option.{option_map, option_to_list}
use Rattle.std.proofs.lemmas.List.Elements.{filter_map-append}
use Rattle.ais_messages.specs.declared.message.StaticReport.{StaticReport}
use Rattle.ranks.specs.Standing.{StandsFor as RanksStandFor}
use Rattle.ranks.specs.VesselRanks.{Note, rank_by_type}
use Rattle.ranks.specs.declared.change.Change.{Change}
use Rattle.ranks.proofs.Noted.{past_stays}
use Rattle.tracks.specs.VesselsHeld.{Sent, static_in}
use Rattle.log_lines.specs.ShipTypes.{AreNoted, note_in, note_told, noted}
use Rattle.log_lines.specs.StaticReports.{report_told, type_told}
use Rattle.log_lines.specs.declared.told_static.ToldStatic.{ToldStatic}

-- what a message adds
noted_alone : (one : Sent) (note : Option Note) → note_in one ≡ note → filter_map note_in (one ∷ []) ≡ option_to_list note
noted_alone one None is = rw is refl
noted_alone one (Some note) is = rw is refl

pub noted-push : (messages : List Sent) (one : Sent) → noted (messages ++ one ∷ []) ≡ noted messages ++ option_to_list (note_in one)
unfolding noted
noted-push messages one =
    filter_map-append note_in messages (one ∷ []) ∙ ap (λ (l : List Note). noted messages ++ l) (noted_alone one (note_in one) refl)

noted_nothing : (messages : List Sent) (one : Sent) → note_in one ≡ None → noted (messages ++ one ∷ []) ≡ noted messages
noted_nothing messages one none =
    noted-push messages one ∙ ap (λ (note : Option Note). noted messages ++ option_to_list note) none ∙ append-nil (noted messages)

-- a message that reports no ship type
pub nothing_noted : (ranked : Bool) (kept : Option (List (ℕ × List Change))) (messages : List Sent) (one : Sent) → note_in one ≡ None
    → AreNoted ranked kept messages → AreNoted ranked kept (messages ++ one ∷ [])
nothing_noted ranked None messages one none are = are
nothing_noted ranked (Some kept) messages one none are = (are.0, subst (RanksStandFor kept) (sym (noted_nothing messages one none)) are.1)

-- a message that reports one
pub note_more : (ranked : Bool) (old new : List (ℕ × List Change)) (messages : List Sent) (one : Sent) (note : Note) → note_in one ≡ Some note
    → ((all : List Note) → RanksStandFor old all → RanksStandFor new (all ++ note ∷ []))
    → AreNoted ranked (Some old) messages → AreNoted ranked (Some new) (messages ++ one ∷ [])
note_more ranked old new messages one note is more are =
    (are.0, subst (RanksStandFor new) (sym (noted-push messages one ∙ ap (λ (n : Option Note). noted messages ++ option_to_list n) is)) (more (noted messages) are.1))

-- ---- a later message

static_time : (told : ToldStatic) (kind : Option ℕ) (note : Note)
    → option_map (λ (k : ℕ). record { mmsi = told.mmsi; time = told.time; kind = k }) kind ≡ Some note → note.time ≡ told.time
static_time told None note is = cc is
static_time told (Some kind) note is =
    let one : Note = record { mmsi = told.mmsi; time = told.time; kind = kind } in
    let same : one ≡ note = cc is in
    sym (ap (λ (n : Note). n.time) same)

report_time : (time : ℕ) (report : Option StaticReport) (note : Note) → option_and_then note_told (option_map (report_told time) report) ≡ Some note
    → note.time ≡ time
report_time time None note is = cc is
report_time time (Some report) note is = static_time (report_told time report) (type_told report.ship) note is

-- A ship type is noted with the time of its message.
note_time : (one : Sent) (note : Note) → note_in one ≡ Some note → note.time ≡ one.time
note_time one note is = report_time one.time (static_in one.message) note is

-- A later message changes no rank by ship type.
pub types_stay : (messages : List Sent) (one : Sent) (mmsi time : ℕ) → time < one.time
    → rank_by_type (noted (messages ++ one ∷ [])) mmsi time ≡ rank_by_type (noted messages) mmsi time
types_stay messages one mmsi time later = by_note (note_in one) refl
  where
    by_note : (o : Option Note) → note_in one ≡ o → rank_by_type (noted (messages ++ one ∷ [])) mmsi time ≡ rank_by_type (noted messages) mmsi time
    by_note None none = ap (λ (notes : List Note). rank_by_type notes mmsi time) (noted_nothing messages one none)
    by_note (Some note) is =
        let at = note_time one note is in
        ap (λ (notes : List Note). rank_by_type notes mmsi time) (noted-push messages one ∙ ap (λ (n : Option Note). noted messages ++ option_to_list n) is)
        ∙ past_stays (noted messages) note mmsi time (omega arith)

-- none was sent yet
pub none_noted : noted [] ≡ []
unfolding noted
none_noted = refl
