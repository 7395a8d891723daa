-- The means so far and those of the windows that are left are all, each of these is one of the picture, and has room.
use Rattle.std.proofs.Common.{◌≡◌, ◌+◌, ◌-◌, ◌/◌, ◌++◌, ◌≤◌, true, List, [], ◌∷◌, ℕ, length, map, vec_len, vec_capacity}
use Rattle.std.specs.List.{All, sum_by}
use Rattle.std.specs.Option.{option_map_or}
use Rattle.std.specs.Prelude.{slice_index}
use Rattle.ndarray_layout.specs.declared.Order.TheVariants.{RowMajor}
use Rattle.ndarray_layout.specs.CroppedView.{crop_source}
use Rattle.ndarray_layout.specs.Indices.{indices_in, is_index}
use Rattle.nd_owned.specs.Owned.{item_at}
use Rattle.example_callers.proofs.blurs.blur.Given as goal

abbrev pub invariant-loop-row : goal.invariant-loop-row
invariant-loop-row l =
    let shape : List ℕ = (slice_index l.fn.picture.view.shape 0 - 2) ∷ (slice_index l.fn.picture.view.shape 1 - 2) ∷ [] in
    let mean : List ℕ → ℕ = λ at. sum_by (λ inner. option_map_or (λ pixel. pixel) (item_at l.fn.picture (crop_source at inner)) 0)
    (indices_in RowMajor (3 ∷ 3 ∷ [])) / 9 in
    record {
      means : l.means.items ++ map mean l.row-iterator ≡ map mean (indices_in RowMajor shape);
      indices : All (λ at. is_index shape at ≡ true) l.row-iterator;
      room : vec_len l.means + length l.row-iterator ≤ vec_capacity l.means;
    }
