pub mod Backwards
pub mod Laws
pub mod lending
