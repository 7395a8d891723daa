pub mod IndexedItems
pub mod IndexedLeft
pub mod ItemsLeft
pub mod private
