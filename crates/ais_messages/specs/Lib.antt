pub mod Inner
pub mod ShipIdentities
pub mod MessageFields
pub mod SixBitText
pub use Rattle.aivdm.specs.BitFields
pub mod PositionWriting
