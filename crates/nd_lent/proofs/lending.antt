pub mod PartHeld
pub mod PartLends
