pub mod IndexedItems
