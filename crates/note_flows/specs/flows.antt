pub mod NoteFlows
pub mod Turns
