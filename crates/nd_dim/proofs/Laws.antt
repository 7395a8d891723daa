pub mod AxesInOrder
pub mod Contiguous
pub mod OneInterval
pub mod Rearranged
pub mod Strides
