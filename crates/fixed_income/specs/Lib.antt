pub mod records
pub mod plain
