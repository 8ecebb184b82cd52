pub mod Valid
pub mod Drafts
pub mod Codes
pub mod Rules
