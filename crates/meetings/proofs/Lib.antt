pub mod ForCallers
pub mod SeparatedByEnds
pub mod Values
pub mod Rows
pub mod SomeRows
pub mod Beginnings
