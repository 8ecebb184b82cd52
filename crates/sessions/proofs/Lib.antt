mod AtEnds
mod Auditing
mod AuditText
mod EndedSessions
mod EndedWork
mod Feeding
mod Meeting
mod OneManoeuvre
mod OneOwn
mod Rechecking
mod Refusing
mod Seeking
mod TakingLines
mod Watching
mod Working
pub mod ForCallers
