pub mod Axes
pub mod Leaving
pub mod Misfits
pub mod Pixels
