pub mod ByteStrides
pub mod Common
pub mod Laws
