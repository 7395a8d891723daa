-- The type of readers in memory.
pub use Rattle.nd_access.specs.contracts.cells.Reader.{struct, the_row}
