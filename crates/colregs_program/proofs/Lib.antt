pub mod DrillAnswers
pub mod AskedLogs
pub mod Due
pub mod Migrating
pub mod OneSetUp
pub mod Refusals
pub mod SettingUp
pub mod StreamedReports
