pub mod PickedView
pub mod EvenRows
pub mod IndexRow
pub mod Left
pub mod MovedRows
pub mod OneOrMany
pub mod Written
