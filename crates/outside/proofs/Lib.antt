pub mod CallLists
pub mod ForCallers
pub mod Members
pub mod Pieces
pub mod Reading
