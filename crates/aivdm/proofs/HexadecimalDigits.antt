-- The table of hexadecimal digits: the checker computes all of its entries.
use Rattle.std.proofs.Common.{◌≡◌, ◌<◌, ℕ, nat_eq, refl, if◌then◌else◌, true}
use Rattle.std.specs.Char.{digit_value, is_digit}
use Rattle.std.specs.Prelude.{slice_index}
use Rattle.std.proofs.lemmas.Bool.{agree_below_at, eqb-true}
use Rattle.aivdm.specs.declared.checksum.TheConstants.{VALUES}

abbrev pub value_of : ℕ → ℕ
value_of byte = if is_digit byte 16 then digit_value byte else 16

pub values : (byte : ℕ) → byte < 256 → slice_index VALUES byte ≡ value_of byte
values byte small =
    eqb-true (slice_index VALUES byte) (value_of byte) (agree_below_at (λ b. nat_eq (slice_index VALUES b) (value_of b)) (λ b. true) 256 byte refl small)
