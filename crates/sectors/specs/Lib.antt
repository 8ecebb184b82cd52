pub use Rattle.fixed_geometry.specs.Bearing
pub use Rattle.fixed_geometry.specs.Plane
pub use Rattle.motion.specs.Steps
pub mod Class
