pub mod NoFlow
pub mod Signs
pub mod OneOutcome
pub mod Examples
