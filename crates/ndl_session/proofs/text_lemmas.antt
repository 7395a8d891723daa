pub mod Appended
pub mod Cuts
pub mod Decimal
pub mod Digits
pub mod FirstLine
pub mod NumberParts
pub mod Parts
