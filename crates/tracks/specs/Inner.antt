pub mod Keeping
pub mod AscendingNumbers
