pub mod Held
pub mod Lends
pub mod One
pub mod Passed
pub mod Places
pub mod Steps
pub mod Walk
pub mod Where
