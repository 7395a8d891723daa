pub mod Answer
pub mod devices
pub mod script
pub mod text
