pub mod CsvRows
