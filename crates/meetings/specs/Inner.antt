pub mod Tests
pub mod Beginning
