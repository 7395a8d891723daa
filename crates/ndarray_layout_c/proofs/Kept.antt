-- What calls write, as views of the layout that they were given.
use Rattle.std.proofs.Common.{◌≡◌, ℕ, ℤ, pos, Bool, true, false, cond, None, List, length, get_or, set, nat_lt, FitsSigned, to_z, of_z, w32}
use Rattle.std.proofs.Common.{refl, subst, sym, ap, ap₂, ◌∙◌}
use Rattle.std.proofs.Math.ListN.{get_or-map}
use Rattle.std.proofs.lemmas.Int.{to_z-of_z}
use Rattle.std.proofs.lemmas.List.{map-set}
use Rattle.std.specs.Option.{option_or}
use Rattle.std.specs.Prelude.{◌&&◌, nat_le}
use Rattle.ndarray_layout.specs.declared.Fit.{Fit}
use Rattle.ndarray_layout.specs.declared.Order.{Order}
use Rattle.ndarray_layout.specs.declared.SliceInfoElem.{SliceInfoElem}
use Rattle.ndarray_layout.specs.BroadcastView.{broadcast_fault, broadcast_source, broadcast_strides}
use Rattle.ndarray_layout.specs.ChunksView.{chunk_source, chunks_fault, chunks_of}
use Rattle.ndarray_layout.specs.Descends.{Descends, IsViewOf}
use Rattle.ndarray_layout.specs.Merge.{MergeFits, merged_shape, merged_strides}
use Rattle.ndarray_layout.specs.MergedView.{HasMergedStride, axes_fault, merge_of, merge_source}
use Rattle.ndarray_layout.specs.PermutedView.{permute_fault, permute_source, permuted_of}
use Rattle.ndarray_layout.specs.ReshapedView.{reshape_source, reshaped_strides, view_reshape_fault}
use Rattle.ndarray_layout.specs.Selected.{selected}
use Rattle.ndarray_layout.specs.Signed.{signed, all_signed}
use Rattle.ndarray_layout.specs.View.{View, view_of}
use Rattle.ndarray_layout.specs.WindowsView.{window_source, windows_fault, windows_of}
use Rattle.ndarray_layout.proofs.Laws.BroadcastView.{IsViewOf-broadcast_of}
use Rattle.ndarray_layout.proofs.Laws.ChunksView.{Descends-chunks_of}
use Rattle.ndarray_layout.proofs.Laws.MergedView.{Descends-merge_of, merge_fault_of_answer}
use Rattle.ndarray_layout.proofs.Laws.Options.{option_or_none}
use Rattle.ndarray_layout.proofs.Laws.PermutedView.{Descends-permuted_of}
use Rattle.ndarray_layout.proofs.Laws.ReshapedView.{Descends-reshape_of}
use Rattle.ndarray_layout.proofs.Laws.WindowsView.{IsViewOf-windows_of}
use Rattle.ndarray_layout_c.specs.Kept.{DescendsInPlace, IsLayoutOf}
use Rattle.ndarray_layout_c.specs.LayoutFault.{layout_fault, lowest_view}
use Rattle.ndarray_layout_c.specs.Statuses.{ok}

-- a status that is returned is what it was made of
pub returned_ok : {status : ℤ} → FitsSigned w32 status → to_z w32 (of_z w32 status) ≡ ok → status ≡ ok
returned_ok {status} fits returned = sym (to_z-of_z w32 status fits) ∙ returned

-- the lists that a view was written to, from its start, are that view
as_written : (view : View) (shape strides : List ℕ) → shape ≡ view.shape → all_signed strides ≡ view.strides
    → view ≡ view_of view.start shape strides
as_written view shape strides same along =
    ap₂ (λ shape strides. record { start = view.start; shape = shape; strides = strides }) (sym same) (sym along)

-- a slice of a view descends from any that is the same
pub of_same_view : (elems : List SliceInfoElem) {fit same_fit : Fit} {view same new : View} → view ≡ same → fit ≡ same_fit
    → Descends (selected fit elems view.shape) view new → Descends (selected same_fit elems same.shape) same new
of_same_view elems {fit} {same_fit} {view} {same} {new} is fits kept =
    subst (λ view. Descends (selected same_fit elems view.shape) view new) is
    (subst (λ fit. Descends (selected fit elems view.shape) view new) fits kept)

-- strides where axes are merged: into the one, that of the axis that lasts
merged_along : (shape strides : List ℕ) (take into : ℕ) {new_strides : List ℕ} → new_strides ≡ merged_strides take into shape strides
    → all_signed new_strides ≡ (merge_of take into (lowest_view shape strides)).strides
merged_along shape strides take into along =
    ap all_signed along ∙ map-set signed strides into _
    ∙ ap (set (all_signed strides) into) (lasting (nat_lt 1 (get_or shape take 0) && nat_le (get_or shape into 0) 1))
  where
    lasting : (taken : Bool)
        → signed (cond taken (get_or strides take 0) (get_or strides into 0)) ≡ get_or (all_signed strides) (cond taken take into) (pos 0)
    lasting true = sym (get_or-map signed strides take 0)
    lasting false = sym (get_or-map signed strides into 0)

-- ---- layouts whose start stays
module _ {shape : List ℕ} (strides new_strides : List ℕ) where
  pub windows_kept : {new_shape : List ℕ} (window : List ℕ)
      → option_or (layout_fault shape (all_signed strides)) (windows_fault None shape window) ≡ None
      → new_shape ≡ (windows_of window (lowest_view shape strides)).shape
      → all_signed new_strides ≡ (windows_of window (lowest_view shape strides)).strides
      → IsLayoutOf (window_source (length shape)) shape strides new_shape new_strides
  windows_kept {new_shape} window none same along start v =
      let view = view_of start shape strides in
      subst (IsViewOf (window_source (length shape)) view) (as_written (windows_of window view) new_shape new_strides same along)
      (IsViewOf-windows_of None window v (option_or_none _ none).1)

  pub chunks_kept : {new_shape : List ℕ} (chunk : List ℕ)
      → option_or (layout_fault shape (all_signed strides)) (chunks_fault None shape chunk) ≡ None
      → new_shape ≡ (chunks_of chunk (lowest_view shape strides)).shape
      → all_signed new_strides ≡ (chunks_of chunk (lowest_view shape strides)).strides
      → DescendsInPlace (chunk_source chunk) shape strides new_shape new_strides
  chunks_kept {new_shape} chunk none same along start v =
      let view = view_of start shape strides in
      subst (Descends (chunk_source chunk) view) (as_written (chunks_of chunk view) new_shape new_strides same along)
      (Descends-chunks_of None chunk v (option_or_none _ none).1)

  pub permuted_kept : {new_shape : List ℕ} (axes : List ℕ)
      → option_or (layout_fault shape (all_signed strides)) (permute_fault shape axes) ≡ None
      → new_shape ≡ (permuted_of axes (lowest_view shape strides)).shape
      → all_signed new_strides ≡ (permuted_of axes (lowest_view shape strides)).strides
      → DescendsInPlace (permute_source axes) shape strides new_shape new_strides
  permuted_kept {new_shape} axes none same along start v =
      let view = view_of start shape strides in
      subst (Descends (permute_source axes) view) (as_written (permuted_of axes view) new_shape new_strides same along)
      (Descends-permuted_of axes view v (option_or_none _ none).1)

  pub broadcast_kept : (target : List ℕ) → option_or (layout_fault shape (all_signed strides)) (broadcast_fault target shape) ≡ None
      → all_signed new_strides ≡ broadcast_strides target shape (all_signed strides)
      → IsLayoutOf (broadcast_source shape) shape strides target new_strides
  broadcast_kept target none along start v =
      let view = view_of start shape strides in
      subst (λ strides. IsViewOf (broadcast_source shape) view (record { start = start; shape = target; strides = strides })) (sym along)
      (IsViewOf-broadcast_of target v (option_or_none _ none).1)

  pub reshape_kept : (order : Order) (target : List ℕ) → view_reshape_fault order target (lowest_view shape strides) ≡ None
      → all_signed new_strides ≡ reshaped_strides order target (lowest_view shape strides)
      → DescendsInPlace (reshape_source order shape target) shape strides target new_strides
  reshape_kept order target none along start v =
      let view = view_of start shape strides in
      subst (λ strides. Descends (reshape_source order shape target) view (record { start = start; shape = target; strides = strides }))
      (sym along)
      (Descends-reshape_of order target v none)

  pub merge_kept : {new_shape : List ℕ} (take into : ℕ) → axes_fault shape take into ≡ None
      → MergeFits (get_or shape take 0) (signed (get_or strides take 0)) (get_or shape into 0) (signed (get_or strides into 0))
      → new_shape ≡ merged_shape take into shape → new_strides ≡ merged_strides take into shape strides
      → DescendsInPlace (merge_source take into shape) shape strides new_shape new_strides
  merge_kept {new_shape} take into axes fits same along start v =
      let view = view_of start shape strides in
      let has : HasMergedStride take into view = rw (get_or-map signed strides take 0, get_or-map signed strides into 0) fits in
      let none = merge_fault_of_answer take into view {merged = true} axes ((λ yes. has), (λ has. refl)) in
      subst (Descends (merge_source take into shape) view)
      (as_written (merge_of take into view) new_shape new_strides same (merged_along shape strides take into along))
      (Descends-merge_of take into view v none)
