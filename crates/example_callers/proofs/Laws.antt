-- Laws that `using(..)` of this crate's functions names.
pub use Rattle.ndarray_layout.proofs.Laws.NonzeroSize.{size_le_nonzero_size}
