pub mod Steps
pub mod Sizes
pub mod Laws
pub mod Numbered
pub mod Cut
pub mod Chain
