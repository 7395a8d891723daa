-- Where the picks of a slice lie.
use Rattle.std.proofs.Common.{◌≡◌, ℕ, ◌<◌, ℤ, pos, ◌+ℤ◌, ◌*ℤ◌, length, slice_index}
use Rattle.nd_slice.proofs.Definitions.{Fit, Slice, end_meaning, first_offset, magnitude, picked_stride, picks, start_meaning}
use Rattle.nd_slice.proofs.Slicing.{picked_steps}

-- pick j lies j new strides after the first
pub pick_offset : (fit : Fit) (len : ℕ) (slice : Slice) (j : ℕ) (stride : ℤ) → j < length (picks fit len slice)
    → pos (slice_index (picks fit len slice) j) *ℤ stride
    ≡ first_offset (picks fit len slice) stride +ℤ (pos j *ℤ picked_stride (length (picks fit len slice)) stride slice.step)
pick_offset fit len slice j stride below =
    picked_steps slice.step (magnitude (start_meaning fit len slice)) (magnitude (end_meaning fit len slice)) j stride below
