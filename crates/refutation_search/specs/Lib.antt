pub mod CanonicalLists
pub mod Inner
