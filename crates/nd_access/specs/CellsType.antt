-- The type of cells in memory.
pub use Rattle.nd_access.specs.contracts.cells.Cells.{struct, the_row}
