pub mod Blocks
pub mod Fastest
pub mod NearestOrder
pub mod ReshapeProgress
