pub mod Equations
pub mod Intersecting
pub mod Multiples
pub mod Sequences
pub mod Signs
pub mod Steps
