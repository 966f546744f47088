pub mod FourDecimals
pub mod Pieces
