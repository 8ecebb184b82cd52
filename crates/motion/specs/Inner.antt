pub mod LegOrder
