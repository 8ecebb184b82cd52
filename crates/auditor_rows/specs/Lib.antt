pub mod WorkedMeeting
pub mod CountedRows
