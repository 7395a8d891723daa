-- Laws of views that are read as views of a shape with more or longer axes.
use Rattle.std.proofs.Common.{◌≡◌, ◌≢◌, ℕ, ◌+◌, ◌-◌, ◌<◌, ◌≤◌, Bool, true, false, not, cond, ltb, Option, Some, None, List, length, get_or}
use Rattle.std.proofs.Common.{drop, inl, inr, refl, ap, sym, arith}
use Rattle.std.proofs.lemmas.Bool.{false_from_ne_true, ltb-false, le-ltb}
use Rattle.std.proofs.lemmas.Int.{ints}
use Rattle.std.specs.Bool.{Decides}
use Rattle.std.specs.Cmp.Lexicographic.{bytes_decides, pointwise}
use Rattle.std.specs.Option.{option_map_or}
use Rattle.std.specs.Prelude.{nat_eq}
use Rattle.nd_base.specs.declared.error.ErrorKind.TheVariants.{IncompatibleShape, Overflow}
use Rattle.nd_base.specs.Size.{nonzero_size, limit}
use Rattle.nd_base.proofs.Laws.IsIndex.{length_of_index}
use Rattle.nd_shape.specs.CommonShape.{common_shape}
use Rattle.nd_shape.proofs.Laws.Stretches.{StretchesTo, common_from_stretches, stretches_to_common}
use Rattle.ndarray_layout.specs.BroadcastView.{takes_in, broadcast_fault, broadcast_of, broadcast_source, coordinates_within}
use Rattle.ndarray_layout.specs.Descends.{IsViewOf}
use Rattle.ndarray_layout.specs.View.{View, IsView}
use Rattle.ndarray_layout.proofs.Broadcasts.{broadcast_sources}
use Rattle.ndarray_layout.proofs.Laws.KeepsPlaces.{IsViewOf-told}
use Rattle.ndarray_layout.proofs.Laws.Sources.{IsViewOf-sources}

-- the test says where a shape is the common one of itself and another
pub takes_in-Decides : (shape other : List ℕ) → Decides (takes_in shape other) (common_shape other shape ≡ Some shape)
takes_in-Decides shape other = by (common_shape other shape)
  where
    by : (common : Option (List ℕ)) → Decides (option_map_or (λ c. pointwise nat_eq c shape) common false) (common ≡ Some shape)
    by None = (λ h. absurd (cc), λ h. absurd (cc))
    by (Some c) =
        let same = bytes_decides c shape in (
          λ h. ap Some (same.0 h),
          λ h.
              let e : c ≡ shape = cc in
              same.1 e,
        )

-- it is no where the other has more axes
pub takes_in_no_fewer : (shape other : List ℕ) → length shape < length other → takes_in shape other ≡ false
takes_in_no_fewer shape other h = false_from_ne_true (takes_in shape other) (λ takes.
    let parts = stretches_to_common shape other ((takes_in-Decides shape other).0 takes) in
    omega (arith, parts.0))

-- and where an axis has neither the length beside it nor a length of 1
pub takes_in_no_other : (shape other : List ℕ) (k : ℕ) → k < length other
    → get_or other k 0 ≢ get_or shape (length shape - length other + k) 0 → get_or other k 0 ≢ 1 → takes_in shape other ≡ false
takes_in_no_other shape other k there differs long = false_from_ne_true (takes_in shape other) (λ takes.
    let parts = stretches_to_common shape other ((takes_in-Decides shape other).0 takes) in
    elim (parts.1 k there) [
      | inl e ↦ differs e
      | inr e ↦ long e
    ])

-- and yes where every axis has one of them
pub takes_in_by_axes : (shape other : List ℕ) → length other ≤ length shape → StretchesTo shape other → takes_in shape other ≡ true
takes_in_by_axes shape other fewer stretches = (takes_in-Decides shape other).1 (common_from_stretches shape other fewer stretches)

-- a shape without fault takes in the other one, and its size fits
pub record CanBroadcast (shape view_shape : List ℕ) : Type 0 where
  pub common : common_shape view_shape shape ≡ Some shape
  pub size_fits : nonzero_size shape ≤ limit

pub can_broadcast : {shape view_shape : List ℕ} → broadcast_fault shape view_shape ≡ None → CanBroadcast shape view_shape
can_broadcast {shape} {view_shape} none =
    let parts = by (takes_in shape view_shape) (ltb limit (nonzero_size shape)) none in
    record {
      common = (takes_in-Decides shape view_shape).0 parts.0;
      size_fits = ltb-false limit (nonzero_size shape) parts.1;
    }
  where
    by : (takes large : Bool) → cond (not takes) (Some IncompatibleShape) (cond large (Some Overflow) None) ≡ None
        → (takes ≡ true) × (large ≡ false)
    by true true none = absurd (cc)
    by true false none = (refl, refl)
    by false large none = absurd (cc)

pub no_fault_where_it_can : (shape view_shape : List ℕ) → CanBroadcast shape view_shape → broadcast_fault shape view_shape ≡ None
no_fault_where_it_can shape view_shape can =
    rw ((takes_in-Decides shape view_shape).1 can.common, le-ltb limit (nonzero_size shape) can.size_fits) refl

-- it has no fewer axes
pub no_fewer_axes : (shape view_shape : List ℕ) → broadcast_fault shape view_shape ≡ None → length view_shape ≤ length shape
no_fewer_axes shape view_shape none = (stretches_to_common shape view_shape (can_broadcast none).common).0

-- the view is one of the same data, whose indices lie where their sources do
pub IsViewOf-broadcast_of : (shape : List ℕ) {view : View} → IsView view → broadcast_fault shape view.shape ≡ None
    → IsViewOf (broadcast_source view.shape) view (broadcast_of shape view)
IsViewOf-broadcast_of shape {view} v none =
    let can = can_broadcast {shape = shape} none in
    let stretches = stretches_to_common shape view.shape can.common in
    IsViewOf-told (IsViewOf-sources v (broadcast_sources v.valid.same_count stretches.0 stretches.1) (omega (arith, ints)) can.size_fits)
    (λ coordinates here. ap (λ m. coordinates_within view.shape (drop (m - length view.shape) coordinates))
    (sym (length_of_index shape coordinates here)))
