pub mod ChangeOrder
