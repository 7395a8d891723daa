pub mod Copied
pub mod IndexRow
pub mod Indexed
pub mod Laws
