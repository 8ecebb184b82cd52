pub mod Fronts
pub mod Reports
pub mod KeptChanges
pub mod Noted
pub mod Giving
