-- The bits of a report that is written are read as the report.
use Rattle.std.proofs.Common.{◌≡◌, ℕ, ◌≤◌, ◌<◌, ◌==◌, ◌||◌, Bool, true, false, nat_lt, List, length, Option, Some, None, IfSome, unwrap_or, unsigned_abs, ℤ, pos, negsuc, ◌^◌, Ok, refl, ap, sym, ◌∙◌, arith}
use Rattle.std.proofs.lemmas.Bool.Decides.{nat_tests}
use Rattle.aivdm.specs.BitFields.{complement, unsigned_at}
use Rattle.ais_messages.specs.ShipIdentities.{is_ship}
use Rattle.ais_messages.specs.MessageFields.{below, class_a_of, class_b_of, decoded_of, layout_of, least_bits, message_of, mmsi_of, place_of, type_of, IsReport}
use Rattle.ais_messages.specs.PositionWriting.{bits_written, class_a_fields, class_b_fields, code_of, latitude_code, longitude_code, IfPlace}
use Rattle.ais_messages.specs.declared.decoding.Layout.{Layout}
use Rattle.ais_messages.specs.declared.decoding.Layout.TheVariants as layout
use Rattle.ais_messages.specs.declared.message.Message.TheVariants.{Position}
use Rattle.ais_messages.specs.declared.message.Decoded.TheVariants as decoded
use Rattle.ais_messages.specs.declared.message.PositionReport.{PositionReport}
use Rattle.ais_messages.proofs.Writing.{below_is, first_of, length-written, place_is, widths_of, written_at}

-- a message of a layout, long enough, of a ship
read_as : (bits : List Bool) (of : Layout) → length bits ≡ 168 → layout_of bits ≡ Ok of → least_bits of ≤ 168 → is_ship (mmsi_of bits) ≡ true
    → decoded_of bits ≡ decoded.Message (message_of of bits)
unfolding decoded_of
read_as bits of long laid enough ship =
    let some : nat_lt (length bits) 38 ≡ false = grind (arith, nat_tests, long) in
    let all : nat_lt (length bits) (least_bits of) ≡ false = grind (arith, nat_tests, long, enough) in
    rw (some, laid, all, ship) refl

laid_a : (bits : List Bool) → 1 ≤ type_of bits → type_of bits ≤ 3 → layout_of bits ≡ Ok layout.ClassA
unfolding layout_of
laid_a bits from to =
    let test : ((type_of bits == 1 || type_of bits == 2) || type_of bits == 3) ≡ true = grind (arith, nat_tests) in
    rw test refl

laid_b : (bits : List Bool) → type_of bits ≡ 18 → layout_of bits ≡ Ok layout.ClassB
unfolding layout_of
laid_b bits is = rw is refl

is_ship_of : (mmsi : ℕ) → 200000000 ≤ mmsi → mmsi ≤ 799999999 → is_ship mmsi ≡ true
is_ship_of mmsi from to = grind (arith, nat_tests)

absent_fits : (value : Option ℕ) (absent bound : ℕ) → absent < bound → IfSome value (λ n. n < absent) → unwrap_or value absent < bound
absent_fits None absent bound fits within = fits
absent_fits (Some n) absent bound fits within = omega (arith, fits, within)

heading_fits : (value : Option ℕ) → IfSome value (λ n. n < 360) → unwrap_or value 511 < 512
heading_fits None within = omega arith
heading_fits (Some n) within = omega (arith, within)

code_fits : (width : ℕ) (z : ℤ) (bound : ℕ) → unsigned_abs z ≤ bound → bound < 2 ^ width → code_of width z < 2 ^ width
code_fits width (pos n) bound small fits = omega (arith, small, fits)
code_fits width (negsuc n) bound small fits = omega (arith, small, fits)

latitude_fits : (place : Option (ℤ × ℤ)) → IfPlace place → latitude_code place < 2 ^ 27
latitude_fits None there = omega arith
latitude_fits (Some place) there = code_fits 27 place.0 54000000 there.0 (omega arith)

longitude_fits : (place : Option (ℤ × ℤ)) → IfPlace place → longitude_code place < 2 ^ 28
longitude_fits None there = omega arith
longitude_fits (Some place) there = code_fits 28 place.1 108000000 there.1 (omega arith)

same_a : (r : PositionReport) → IsReport r → r.kind < 64 → class_a_of (bits_written (class_a_fields r)) ≡ r
unfolding class_a_of class_a_fields first_of
same_a r is small =
    let fields = class_a_fields r in
    let bits = bits_written fields in
    let kind : unsigned_at bits 0 6 ≡ r.kind = written_at fields 0 6 r.kind refl small in
    let mmsi : unsigned_at bits 8 30 ≡ r.mmsi = written_at fields 2 30 r.mmsi refl (omega (arith, is.ship_high)) in
    let status : unsigned_at bits 38 4 ≡ r.status = written_at fields 3 4 r.status refl is.status_range in
    let sog : unsigned_at bits 50 10 ≡ unwrap_or r.sog 1023 = written_at fields 5 10 (unwrap_or r.sog 1023) refl (absent_fits r.sog 1023 1024 (omega arith) is.sog_range) in
    let longitude : unsigned_at bits 61 28 ≡ longitude_code r.place = written_at fields 7 28 (longitude_code r.place) refl (longitude_fits r.place is.place_range) in
    let latitude : unsigned_at bits 89 27 ≡ latitude_code r.place = written_at fields 8 27 (latitude_code r.place) refl (latitude_fits r.place is.place_range) in
    let cog : unsigned_at bits 116 12 ≡ unwrap_or r.cog 3600 = written_at fields 9 12 (unwrap_or r.cog 3600) refl (absent_fits r.cog 3600 4096 (omega arith) is.cog_range) in
    let heading : unsigned_at bits 128 9 ≡ unwrap_or r.heading 511 = written_at fields 10 9 (unwrap_or r.heading 511) refl (heading_fits r.heading is.heading_range) in
    let second : unsigned_at bits 137 6 ≡ r.second = written_at fields 11 6 r.second refl is.second_range in
    let placed = (λ i. place_of (complement 27 (latitude i)) (complement 28 (longitude i))) ∙ place_is r.place is.place_range in
    let spoken = ap (below 1023) sog ∙ below_is 1023 1023 r.sog (omega arith) is.sog_range in
    let coursed = ap (below 3600) cog ∙ below_is 3600 3600 r.cog (omega arith) is.cog_range in
    let headed = ap (below 360) heading ∙ below_is 360 511 r.heading (omega arith) is.heading_range in
    (λ i. record {
      kind = kind i;
      mmsi = mmsi i;
      status = status i;
      place = placed i;
      sog = spoken i;
      cog = coursed i;
      heading = headed i;
      second = second i;
    })

same_b : (r : PositionReport) → IsReport r → r.kind ≡ 18 → r.status ≡ 15 → class_b_of (bits_written (class_b_fields r)) ≡ r
unfolding class_b_of class_b_fields first_of
same_b r is of none =
    let fields = class_b_fields r in
    let bits = bits_written fields in
    let kind : unsigned_at bits 0 6 ≡ r.kind = written_at fields 0 6 r.kind refl (omega (arith, of)) in
    let mmsi : unsigned_at bits 8 30 ≡ r.mmsi = written_at fields 2 30 r.mmsi refl (omega (arith, is.ship_high)) in
    let sog : unsigned_at bits 46 10 ≡ unwrap_or r.sog 1023 = written_at fields 4 10 (unwrap_or r.sog 1023) refl (absent_fits r.sog 1023 1024 (omega arith) is.sog_range) in
    let longitude : unsigned_at bits 57 28 ≡ longitude_code r.place = written_at fields 6 28 (longitude_code r.place) refl (longitude_fits r.place is.place_range) in
    let latitude : unsigned_at bits 85 27 ≡ latitude_code r.place = written_at fields 7 27 (latitude_code r.place) refl (latitude_fits r.place is.place_range) in
    let cog : unsigned_at bits 112 12 ≡ unwrap_or r.cog 3600 = written_at fields 8 12 (unwrap_or r.cog 3600) refl (absent_fits r.cog 3600 4096 (omega arith) is.cog_range) in
    let heading : unsigned_at bits 124 9 ≡ unwrap_or r.heading 511 = written_at fields 9 9 (unwrap_or r.heading 511) refl (heading_fits r.heading is.heading_range) in
    let second : unsigned_at bits 133 6 ≡ r.second = written_at fields 10 6 r.second refl is.second_range in
    let placed = (λ i. place_of (complement 27 (latitude i)) (complement 28 (longitude i))) ∙ place_is r.place is.place_range in
    let spoken = ap (below 1023) sog ∙ below_is 1023 1023 r.sog (omega arith) is.sog_range in
    let coursed = ap (below 3600) cog ∙ below_is 3600 3600 r.cog (omega arith) is.cog_range in
    let headed = ap (below 360) heading ∙ below_is 360 511 r.heading (omega arith) is.heading_range in
    let unset = sym none in
    (λ i. record {
      kind = kind i;
      mmsi = mmsi i;
      status = unset i;
      place = placed i;
      sog = spoken i;
      cog = coursed i;
      heading = headed i;
      second = second i;
    })

pub read_again_a : (r : PositionReport) → IsReport r → 1 ≤ r.kind → r.kind ≤ 3 → decoded_of (bits_written (class_a_fields r)) ≡ decoded.Message (Position r)
unfolding class_a_fields widths_of message_of first_of
read_again_a r is from to =
    let fields = class_a_fields r in
    let bits = bits_written fields in
    let kind : type_of bits ≡ r.kind = written_at fields 0 6 r.kind refl (omega (arith, to)) in
    let mmsi : mmsi_of bits ≡ r.mmsi = written_at fields 2 30 r.mmsi refl (omega (arith, is.ship_high)) in
    let ship : is_ship (mmsi_of bits) ≡ true = ap is_ship mmsi ∙ is_ship_of r.mmsi is.ship_low is.ship_high in
    read_as bits layout.ClassA (length-written fields) (laid_a bits (omega (arith, kind, from)) (omega (arith, kind, to))) (omega arith) ship
    ∙ ap (λ (p : PositionReport). decoded.Message (Position p)) (same_a r is (omega (arith, to)))

pub read_again_b : (r : PositionReport) → IsReport r → r.kind ≡ 18 → r.status ≡ 15 → decoded_of (bits_written (class_b_fields r)) ≡ decoded.Message (Position r)
unfolding class_b_fields widths_of message_of first_of
read_again_b r is of none =
    let fields = class_b_fields r in
    let bits = bits_written fields in
    let kind : type_of bits ≡ r.kind = written_at fields 0 6 r.kind refl (omega (arith, of)) in
    let mmsi : mmsi_of bits ≡ r.mmsi = written_at fields 2 30 r.mmsi refl (omega (arith, is.ship_high)) in
    let ship : is_ship (mmsi_of bits) ≡ true = ap is_ship mmsi ∙ is_ship_of r.mmsi is.ship_low is.ship_high in
    read_as bits layout.ClassB (length-written fields) (laid_b bits (kind ∙ of)) (omega arith) ship
    ∙ ap (λ (p : PositionReport). decoded.Message (Position p)) (same_b r is of none)
