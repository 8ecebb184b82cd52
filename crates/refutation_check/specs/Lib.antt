pub mod CheckedRows
pub mod Inner
