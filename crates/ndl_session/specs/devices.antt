-- What a session leaves of its devices.
pub mod ReadWrite
pub mod Session
pub mod Watched
