mod EarlierTicks
mod Remembering
mod SeenStays
mod MovesLittle
mod RankedVessels
mod LastReports
pub mod ForCallers
