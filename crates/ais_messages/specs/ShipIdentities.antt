-- The identities of ships (ITU-R M.585): nine digits that begin with a country's three, from 200 to 799.
use Rattle.std.specs.Prelude.{ℕ, ◌≤◌, nat_le, ◌&&◌, Bool}

abbrev pub IsShip : ℕ → Type 0
IsShip mmsi = (200000000 ≤ mmsi) × (mmsi ≤ 799999999)

-- the same as a test
abbrev pub is_ship : ℕ → Bool
is_ship mmsi = nat_le 200000000 mmsi && nat_le mmsi 799999999
