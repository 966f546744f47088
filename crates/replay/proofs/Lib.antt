pub mod Signs
pub mod LentRecords
