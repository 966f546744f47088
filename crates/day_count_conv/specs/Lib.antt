pub mod conventions
