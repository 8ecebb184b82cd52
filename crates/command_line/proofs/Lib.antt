pub mod ForCallers
mod Alike
mod RuledArguments
pub mod Asked
mod Given
mod ByKind
mod Finished
mod HeldArguments
mod ModeTexts
mod Numbers
mod Parsed
mod Plain
mod Settings
mod InfoTexts
mod TakenRows
mod SomeRequest
mod Walking
