-- The length of a ship.
use Rattle.std.specs.Prelude.{ℕ, ◌+◌, Option, Some, None}
use Rattle.ais_messages.specs.declared.message.ShipData.{ShipData}

-- her length in metres, from bow to stern (ITU-R M.1371); 0 if she sent none
abbrev pub length_of : Option ShipData → ℕ
length_of None = 0
length_of (Some ship) = ship.bow + ship.stern
