pub mod ForcedStrides
pub mod Joints
pub mod SamePlaces
pub mod ReshapeFault
