pub mod Postfix
pub mod Building
