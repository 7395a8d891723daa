-- Laws of a view whose indices have their items one after another from the first on: none lies past the last.
use Rattle.std.proofs.Common.{◌≡◌, ℕ, ◌≤◌, pos, true, List, sym, ap, subst, ◌∙◌, arith}
use Rattle.std.specs.List.{Contains}
use Rattle.ndarray_layout.specs.declared.Order.{Order}
use Rattle.ndarray_layout.specs.Indices.{is_index}
use Rattle.ndarray_layout.specs.Signed.{magnitude}
use Rattle.ndarray_layout.specs.Size.{size}
use Rattle.ndarray_layout.specs.View.{View, IsView, view_places}
use Rattle.ndarray_layout.proofs.Laws.FlatIndex.{flat_index_in-lt-size}
use Rattle.ndarray_layout.proofs.Laws.RowMajor.{place_at_flat_index, standard_view}
use Rattle.nd_lent.proofs.Laws.SlicePlaces.{listed}

pub none_past : (order : Order) (shape : List ℕ) (place : ℕ) {view : View} → IsView view → view ≡ standard_view order shape
    → size shape ≤ place → Contains (view_places order view) (pos place) → ⊥
none_past order shape place {view} v is far found =
    let one = listed order view (pos place) found in
    let here : is_index shape one.0 ≡ true = subst (λ v. is_index v.shape one.0 ≡ true) is one.1 in
    let at = ap magnitude (sym (place_at_flat_index order shape one.0 v is here) ∙ one.2) in
    absurd (omega (arith, far, at, flat_index_in-lt-size order shape one.0 here))
