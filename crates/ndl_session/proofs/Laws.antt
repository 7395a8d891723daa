pub mod PrintedElements
pub mod PrintedLists
pub mod PrintedNumbers
pub mod PrintedScript
