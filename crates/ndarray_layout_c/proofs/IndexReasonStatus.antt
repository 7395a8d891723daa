-- The status of the reason of an index is that of the call.
use Rattle.std.proofs.Common.{◌≡◌, ℕ, pos, Bool, true, false, cond, Option, Some, None, List, length, nat_eq, refl, sym, ap, ◌∙◌, arith}
use Rattle.std.specs.Option.{option_map_or}
use Rattle.std.specs.Prelude.{slice_index}
use Rattle.std.proofs.lemmas.Bool.{eqb-false, eqb-true, false_from_ne_true, leb-false, leb-true}
use Rattle.ndarray_layout.specs.declared.ErrorKind.TheVariants.{OutOfBounds}
use Rattle.ndarray_layout.specs.Indices.{is_index}
use Rattle.ndarray_layout.proofs.Laws.IsIndex.{coordinate_of_index, is_index_from_coordinates, length_of_index}
use Rattle.ndarray_layout_c.specs.declared.reasons.Reason.{Reason}
use Rattle.ndarray_layout_c.specs.IndexFault.{index_fault}
use Rattle.ndarray_layout_c.specs.IndexReasons.{first_outside, index_reason, is_outside}
use Rattle.ndarray_layout_c.specs.Reasons.{no_reason, of_axis, of_list}
use Rattle.ndarray_layout_c.specs.Statuses.{number_of, status_of}
use Rattle.ndarray_layout_c.proofs.FirstFound.{Found, found}

module _ (shape index : List ℕ) where
  -- the fault by the test for an index
  by_test : (fits : Bool) → is_index shape index ≡ fits
      → status_of (index_fault shape index) ≡ status_of (cond fits None (Some OutOfBounds))
  by_test fits same = ap (λ fits. status_of (cond fits None (Some OutOfBounds))) same

  index_status : (index_reason shape index).status ≡ status_of (index_fault shape index)
  index_status =
      by (nat_eq (length index) (length shape)) refl (first_outside shape index) (found (is_outside shape index) (length shape))
    where
      by : (same : Bool) → nat_eq (length index) (length shape) ≡ same
          → (one : Option ℕ) → Found (is_outside shape index) (length shape) one
          → (cond same
          (option_map_or (λ axis. of_axis (number_of OutOfBounds) (pos 15) axis (pos 0) (slice_index index axis) (slice_index shape axis))
          one no_reason)
          (of_list (number_of OutOfBounds) (pos 1) (pos 3) 0 (length index) (length shape))).status
          ≡ status_of (index_fault shape index)
      by false other one known =
          sym (by_test false (false_from_ne_true (is_index shape index) (λ here. eqb-false _ _ other (length_of_index shape index here))))
      by true same None none =
          sym (by_test true (is_index_from_coordinates shape index (eqb-true _ _ same) (λ axis below. leb-false _ _ (none axis below))))
      by true same (Some axis) outside =
          sym (by_test false (false_from_ne_true (is_index shape index) (λ here.
          omega (arith, leb-true _ _ outside.1, coordinate_of_index shape index axis here outside.0))))

  -- as a call writes it
  pub status_of_index : (reason : Reason) → reason ≡ index_reason shape index → reason.status ≡ status_of (index_fault shape index)
  status_of_index reason same = ap Reason.status same ∙ index_status
