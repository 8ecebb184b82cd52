-- The messages that are read, type by type: each field by its first bit and its width (ITU-R M.1371-5, annex 8, section 3).
use Rattle.std.specs.Prelude.{ℕ, ◌≤◌, ◌<◌, ◌*◌, Bool, not, ◌&&◌, ◌||◌, ◌==◌, List, length, Option, Some, None, IfSome, Result, Ok, Err, ℤ, pos, ◌*ℤ◌, unsigned_abs, nat_lt, nat_le, if◌then◌else◌}
use Rattle.aivdm.specs.BitFields.{unsigned_at, signed_at}
use Rattle.ais_messages.specs.ShipIdentities.{is_ship}
use Rattle.ais_messages.specs.SixBitText.{text_at}
use Rattle.ais_messages.specs.declared.decoding.Layout.{Layout}
use Rattle.ais_messages.specs.declared.decoding.Layout.TheVariants as layout
use Rattle.ais_messages.specs.declared.message.PositionReport.{PositionReport}
use Rattle.ais_messages.specs.declared.message.ShipData.{ShipData}
use Rattle.ais_messages.specs.declared.message.StaticReport.{StaticReport}
use Rattle.ais_messages.specs.declared.message.Message.{Message}
use Rattle.ais_messages.specs.declared.message.Message.TheVariants as message
use Rattle.ais_messages.specs.declared.message.MessageCause.{MessageCause}
use Rattle.ais_messages.specs.declared.message.MessageCause.TheVariants.{Short, Kind, NotShip}
use Rattle.ais_messages.specs.declared.message.Decoded.{Decoded}
use Rattle.ais_messages.specs.declared.message.Decoded.TheVariants as decoded

-- ---- values that may not be available

-- the value; from the limit on it means "not available"
abbrev pub below : ℕ → ℕ → Option ℕ
below limit value = if nat_lt value limit then Some value else None

-- the same for values in tens of the unit
abbrev pub tenfold_below : ℕ → ℕ → Option ℕ
tenfold_below limit value = if nat_lt value limit then Some (value * 10) else None

-- latitude and longitude, if both are on the Earth
abbrev pub place_of : ℤ → ℤ → Option (ℤ × ℤ)
place_of latitude longitude =
    if nat_le (unsigned_abs latitude) 54000000 && nat_le (unsigned_abs longitude) 108000000
    then Some (latitude, longitude) else None

-- the same, in tenths of a minute
abbrev pub coarse_place_of : ℤ → ℤ → Option (ℤ × ℤ)
coarse_place_of latitude longitude =
    if nat_le (unsigned_abs latitude) 54000 && nat_le (unsigned_abs longitude) 108000
    then Some (latitude *ℤ pos 1000, longitude *ℤ pos 1000) else None

-- ---- the start of all messages

abbrev pub type_of : List Bool → ℕ
type_of bits = unsigned_at bits 0 6

abbrev pub mmsi_of : List Bool → ℕ
mmsi_of bits = unsigned_at bits 8 30

-- of message 24
abbrev pub part_of : List Bool → ℕ
part_of bits = unsigned_at bits 38 2

-- ---- the tables

-- messages 1, 2 and 3 (table 48)
unfoldable pub class_a_of : List Bool → PositionReport
class_a_of bits = record {
  kind = type_of bits;
  mmsi = mmsi_of bits;
  status = unsigned_at bits 38 4;
  sog = below 1023 (unsigned_at bits 50 10);
  place = place_of (signed_at bits 89 27) (signed_at bits 61 28);
  cog = below 3600 (unsigned_at bits 116 12);
  heading = below 360 (unsigned_at bits 128 9);
  second = unsigned_at bits 137 6;
}

-- messages 18 and 19 (tables 70 and 71), which have no status
unfoldable pub class_b_of : List Bool → PositionReport
class_b_of bits = record {
  kind = type_of bits;
  mmsi = mmsi_of bits;
  status = 15;
  sog = below 1023 (unsigned_at bits 46 10);
  place = place_of (signed_at bits 85 27) (signed_at bits 57 28);
  cog = below 3600 (unsigned_at bits 112 12);
  heading = below 360 (unsigned_at bits 124 9);
  second = unsigned_at bits 133 6;
}

-- message 27 (table 84), in knots, degrees and tenths of a minute; it has no heading and no second
unfoldable pub long_range_of : List Bool → PositionReport
long_range_of bits = record {
  kind = type_of bits;
  mmsi = mmsi_of bits;
  status = unsigned_at bits 40 4;
  sog = tenfold_below 63 (unsigned_at bits 79 6);
  place = coarse_place_of (signed_at bits 62 17) (signed_at bits 44 18);
  cog = tenfold_below 360 (unsigned_at bits 85 9);
  heading = None;
  second = 60;
}

-- type and size, whose five fields begin at these bits
abbrev pub ship_at : List Bool → ℕ → ℕ → ℕ → ℕ → ℕ → ShipData
ship_at bits kind bow stern port starboard = record {
  kind = unsigned_at bits kind 8;
  bow = unsigned_at bits bow 9;
  stern = unsigned_at bits stern 9;
  port = unsigned_at bits port 6;
  starboard = unsigned_at bits starboard 6;
}

abbrev pub static_of : List Bool → Option (List ℕ) → Option ShipData → StaticReport
static_of bits name ship = record { mmsi = mmsi_of bits; name = name; ship = ship }

-- the fields of each layout: message 5 is table 52, message 24 tables 77 and 78
unfoldable pub message_of : Layout → List Bool → Message
message_of layout.ClassA bits = message.Position (class_a_of bits)
message_of layout.ClassB bits = message.Position (class_b_of bits)
message_of layout.LongRange bits = message.Position (long_range_of bits)
message_of layout.Voyage bits = message.Static (static_of bits (Some (text_at bits 112 20)) (Some (ship_at bits 232 240 249 258 264)))
message_of layout.ExtendedClassB bits =
    message.Both (class_b_of bits) (static_of bits (Some (text_at bits 143 20)) (Some (ship_at bits 263 271 280 289 295)))
message_of layout.NamePart bits = message.Static (static_of bits (Some (text_at bits 40 20)) None)
message_of layout.ShipPart bits = message.Static (static_of bits None (Some (ship_at bits 40 132 141 150 156)))

-- the number of bits that each layout needs
abbrev pub least_bits : Layout → ℕ
least_bits layout.ClassA = 168
least_bits layout.ClassB = 168
least_bits layout.LongRange = 96
least_bits layout.Voyage = 422
least_bits layout.ExtendedClassB = 312
least_bits layout.NamePart = 160
least_bits layout.ShipPart = 162

-- ---- the causes to drop a message, in their order

-- message 24 has two parts; a short one does not say which part it is
abbrev pub part_layout : List Bool → Result Layout MessageCause
part_layout bits =
    if nat_lt (length bits) 40 then Err Short
    else if part_of bits == 0 then Ok layout.NamePart
    else if part_of bits == 1 then Ok layout.ShipPart
    else Err Kind

unfoldable pub layout_of : List Bool → Result Layout MessageCause
layout_of bits =
    let type = type_of bits in
    if (type == 1 || type == 2) || type == 3 then Ok layout.ClassA
    else if type == 5 then Ok layout.Voyage
    else if type == 18 then Ok layout.ClassB
    else if type == 19 then Ok layout.ExtendedClassB
    else if type == 24 then part_layout bits
    else if type == 27 then Ok layout.LongRange
    else Err Kind

abbrev pub decoded_as : List Bool → Result Layout MessageCause → Decoded
decoded_as bits (Err cause) = decoded.Dropped cause
decoded_as bits (Ok layout) =
    if nat_lt (length bits) (least_bits layout) then decoded.Dropped Short
    else if not (is_ship (mmsi_of bits)) then decoded.Dropped NotShip
    else decoded.Message (message_of layout bits)

-- the reading of a message's bits, or the first cause that applies
unfoldable pub decoded_of : List Bool → Decoded
decoded_of bits = if nat_lt (length bits) 38 then decoded.Dropped Short else decoded_as bits (layout_of bits)

-- the position report of a message with no other content
abbrev pub position_in : Decoded → Option PositionReport
position_in (decoded.Message (message.Position report)) = Some report
position_in (decoded.Message (message.Static _)) = None
position_in (decoded.Message (message.Both _ _)) = None
position_in (decoded.Dropped _) = None

-- ---- the ranges

-- the fields are in their ranges
pub record IsReport (report : PositionReport) : Type 0 where
  pub ship_low : 200000000 ≤ report.mmsi
  pub ship_high : report.mmsi ≤ 799999999
  pub status_range : report.status < 16
  pub place_range : IfSome report.place (λ place. (unsigned_abs place.0 ≤ 54000000) × (unsigned_abs place.1 ≤ 108000000))
  pub sog_range : IfSome report.sog (λ speed. speed < 1023)
  pub cog_range : IfSome report.cog (λ course. course < 3600)
  pub heading_range : IfSome report.heading (λ degrees. degrees < 360)
  pub second_range : report.second < 64

pub record IsShipData (ship : ShipData) : Type 0 where
  pub bow : ship.bow < 512
  pub stern : ship.stern < 512
  pub port : ship.port < 64
  pub starboard : ship.starboard < 64

pub record IsStatic (report : StaticReport) : Type 0 where
  pub ship_low : 200000000 ≤ report.mmsi
  pub ship_high : report.mmsi ≤ 799999999
  pub name : IfSome report.name (λ name. length name ≤ 20)
  pub ship : IfSome report.ship IsShipData

abbrev pub IsMessage : Message → Type 0
IsMessage (message.Position report) = IsReport report
IsMessage (message.Static report) = IsStatic report
IsMessage (message.Both position static) = IsReport position × IsStatic static

-- P holds of the message, if there is one
abbrev pub IfMessage : Decoded → (Message → Type 0) → Type 0
IfMessage (decoded.Message message) P = P message
IfMessage (decoded.Dropped cause) P = Unit {0}
