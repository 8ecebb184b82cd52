mod Turns
mod RowsRead
pub mod SoundRows
pub mod OneIndex
pub mod ForCallers
