pub mod EditError
pub mod Edits
pub mod Picture
pub mod Views
