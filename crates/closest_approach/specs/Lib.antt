pub use Rattle.fixed_geometry.specs.Plane
pub use Rattle.motion.specs.Steps
pub mod Separation
pub mod Inner
