pub mod Chunks
pub mod OwnedViews
pub mod Picked
pub mod SlicesLeft
pub mod Times
