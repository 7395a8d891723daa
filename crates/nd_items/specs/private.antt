pub mod IndexRow
