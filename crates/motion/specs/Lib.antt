pub use Rattle.fixed_geometry.specs.Plane
pub use Rattle.fixed_geometry.specs.Displacement
pub use Rattle.fixed_geometry.specs.Sizes
pub mod Between
pub mod TickStates
pub mod Steps
pub mod Inner
