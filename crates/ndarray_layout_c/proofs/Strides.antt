-- The stride of an axis, read as signed.
use Rattle.std.proofs.Common.{◌≡◌, ℕ, ◌<◌, pos, List, length, get_or}
use Rattle.std.proofs.lemmas.List.{get_or-map}
use Rattle.ndarray_layout.specs.Signed.{signed, all_signed}

pub signed_at : (strides : List ℕ) (k : ℕ) → k < length strides → get_or (all_signed strides) k (pos 0) ≡ signed (get_or strides k 0)
signed_at strides k h = get_or-map signed strides k 0 (pos 0) h
