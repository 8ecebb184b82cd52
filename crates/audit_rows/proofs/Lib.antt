pub mod ForCallers
mod StrictOrder
mod Places
mod Stretches
mod Sorts
mod BrokenStretches
mod MarkCounting
mod Closing
mod Tracks
mod Pending
mod Popping
mod Queues
mod Ending
mod Fronts
mod Repeats
