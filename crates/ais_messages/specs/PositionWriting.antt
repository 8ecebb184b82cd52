-- The bits of a written position report: the fields in their order (ITU-R M.1371-5, annex 8, tables 48 and 70).
use Rattle.std.specs.Prelude.{ℕ, ◌+◌, ◌-◌, ◌^◌, ◌≤◌, ◌<◌, ◌≡◌, ◌⊎◌, ◌==◌, Bool, List, [], ◌∷◌, flat_map, Option, Some, None, IfSome, unwrap_or, unsigned_abs, ℤ, pos, negsuc, if◌then◌else◌}
use Rattle.aivdm.specs.BitFields.{binary}
use Rattle.ais_messages.specs.declared.message.PositionReport.{PositionReport}

-- a field's width and its value
abbrev pub Written : Type 0
Written = ℕ × ℕ

abbrev pub bits_written : List Written → List Bool
bits_written fields = flat_map (λ field. binary field.0 field.1) fields

-- a number in two's complement
abbrev pub code_of : ℕ → ℤ → ℕ
code_of width (pos n) = n
code_of width (negsuc n) = 2 ^ width - (n + 1)

-- 91 and 181 degrees mean that the place is not available
abbrev pub latitude_code : Option (ℤ × ℤ) → ℕ
latitude_code None = 54600000
latitude_code (Some place) = code_of 27 place.0

abbrev pub longitude_code : Option (ℤ × ℤ) → ℕ
longitude_code None = 108600000
longitude_code (Some place) = code_of 28 place.1

-- messages 1, 2 and 3: the rate of turn is 128, which is not available; accuracy, manoeuvre, spare, RAIM and radio state are 0
unfoldable pub class_a_fields : PositionReport → List Written
class_a_fields report =
    (6, report.kind) ∷ (2, 0) ∷ (30, report.mmsi) ∷ (4, report.status) ∷ (8, 128) ∷ (10, unwrap_or report.sog 1023) ∷ (1, 0)
    ∷ (28, longitude_code report.place) ∷ (27, latitude_code report.place) ∷ (12, unwrap_or report.cog 3600)
    ∷ (9, unwrap_or report.heading 511) ∷ (6, report.second) ∷ (2, 0) ∷ (3, 0) ∷ (1, 0) ∷ (19, 0) ∷ []

-- message 18: fields that are not in the report are 0
unfoldable pub class_b_fields : PositionReport → List Written
class_b_fields report =
    (6, report.kind) ∷ (2, 0) ∷ (30, report.mmsi) ∷ (8, 0) ∷ (10, unwrap_or report.sog 1023) ∷ (1, 0)
    ∷ (28, longitude_code report.place) ∷ (27, latitude_code report.place) ∷ (12, unwrap_or report.cog 3600)
    ∷ (9, unwrap_or report.heading 511) ∷ (6, report.second) ∷ (29, 0) ∷ []

-- the bits of a report
abbrev pub encoded_of : PositionReport → List Bool
encoded_of report = bits_written (if report.kind == 18 then class_b_fields report else class_a_fields report)

-- The kinds that are written are 1, 2 and 3, and 18, which has no status.
abbrev pub IsWritable : PositionReport → Type 0
IsWritable report = ((1 ≤ report.kind) × (report.kind ≤ 3)) ⊎ ((report.kind ≡ 18) × (report.status ≡ 15))

-- the place is on the Earth, if there is one
abbrev pub IfPlace : Option (ℤ × ℤ) → Type 0
IfPlace place = IfSome place (λ p. (unsigned_abs p.0 ≤ 54000000) × (unsigned_abs p.1 ≤ 108000000))

-- a field's value fits its width
pub record Fits (field : Written) : Type 0 where
  pub some : 1 ≤ field.0
  pub most : field.0 ≤ 32
  pub value : field.1 < 2 ^ field.0

abbrev pub AllFit : List Written → Type 0
AllFit [] = Unit {0}
AllFit (field ∷ fields) = Fits field × AllFit fields
