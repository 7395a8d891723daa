-- What taking one coordinate of an axis, and the axis away, makes of a view. It fails where collapsing the axis does.
use Rattle.std.specs.Prelude.{◌≡◌, ℕ, pos, negsuc, List, [], ◌∷◌, insert, remove, refl}
use Rattle.nd_base.specs.Signed.{magnitude}
use Rattle.ndarray_layout.specs.CollapsedView.{collapsed_start}
use Rattle.ndarray_layout.specs.View.{View}

-- a view at one coordinate of an axis: the axis is gone, the other axes stay
abbrev pub indexed_of : ℕ → ℕ → View → View
indexed_of axis index view = record {
  start = magnitude (collapsed_start axis index view);
  shape = remove view.shape axis;
  strides = remove view.strides axis;
}

-- which index of the view an index that is left stands for: it has the coordinate that was taken on the axis, the others stay
abbrev pub index_source : ℕ → ℕ → List ℕ → List ℕ
index_source axis index coordinates = insert coordinates axis index

-- examples
second_row : indexed_of 0 1 (record { start = 0; shape = 2 ∷ 3 ∷ []; strides = pos 3 ∷ pos 1 ∷ [] })
    ≡ record { start = 3; shape = 3 ∷ []; strides = pos 1 ∷ [] }
second_row = refl

last_of_backward_columns : indexed_of 1 2 (record { start = 2; shape = 2 ∷ 3 ∷ []; strides = pos 3 ∷ negsuc 0 ∷ [] })
    ≡ record { start = 0; shape = 2 ∷ []; strides = pos 3 ∷ [] }
last_of_backward_columns = refl

last_item : indexed_of 0 2 (record { start = 4; shape = 3 ∷ []; strides = pos 5 ∷ [] }) ≡ record { start = 14; shape = []; strides = [] }
last_item = refl

source_in_second_row : index_source 0 1 (2 ∷ []) ≡ 1 ∷ 2 ∷ []
source_in_second_row = refl

source_in_last_column : index_source 1 2 (1 ∷ []) ≡ 1 ∷ 2 ∷ []
source_in_last_column = refl
