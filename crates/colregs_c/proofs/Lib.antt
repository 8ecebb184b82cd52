pub mod Answering
mod Asking
pub mod Showing
