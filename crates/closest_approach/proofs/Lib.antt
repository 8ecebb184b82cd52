pub mod Products
pub mod Identity
pub mod Order
pub mod LeastDistance
pub mod Choice
pub mod LeastMoment
pub mod Decision
pub mod Ends
