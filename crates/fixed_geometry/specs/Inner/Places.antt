-- The allowed places of a reference.
use Rattle.std.specs.Prelude.{ℕ, ◌≤◌, unsigned_abs}
use Rattle.fixed_geometry.specs.Place.{Place}

-- the latitude and the longitude are at most this large in size
pub record IsPlaceWithin (latitude_size longitude_size : ℕ) (place : Place) : Type 0 where
  pub latitude : unsigned_abs place.latitude ≤ latitude_size
  pub longitude : unsigned_abs place.longitude ≤ longitude_size
