pub mod Layouts
pub mod NoteLayout
