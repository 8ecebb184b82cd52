pub mod JudgeState
pub mod Times
pub mod OpenLines
