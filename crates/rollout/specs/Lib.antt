pub mod plain
pub mod records
