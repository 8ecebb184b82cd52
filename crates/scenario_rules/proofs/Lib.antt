pub mod ForCallers
mod Added
mod Existing
mod Places
mod Texts
