pub mod FoldedBack
pub mod ItemsBeside
pub mod PairsFolded
pub mod RowsBeside
pub mod SixAxes
pub mod Laws
