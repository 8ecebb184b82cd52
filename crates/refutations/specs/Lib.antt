pub use Rattle.report_csv.specs.CsvRows
pub mod GoodEntries
pub mod RightLists
pub mod EntryRows
pub mod EntryTexts
pub mod Inner
