-- The lists are those of the view, each place of which has an item.
use Rattle.std.proofs.Common.{◌≡◌, ℕ, true, List, length, sym, ap, subst, ◌∙◌}
use Rattle.std.specs.List.{Contains}
use Rattle.std.proofs.lemmas.List.Elements.{All-contains}
use Rattle.ndarray_layout.specs.declared.Order.TheVariants.{RowMajor}
use Rattle.ndarray_layout.specs.Bounds.{IsInBounds}
use Rattle.ndarray_layout.specs.Indices.{indices_in, is_index}
use Rattle.ndarray_layout.specs.Signed.{all_signed}
use Rattle.ndarray_layout.specs.View.{View, place_at, view_places}
use Rattle.ndarray_layout.proofs.Laws.Indices.{Contains-indices_in}
use Rattle.ndarray_layout.proofs.Laws.Lists.{Contains-map}
use Rattle.nd_access.specs.Part.{has_mark}
use Rattle.nd_access.specs.Read.{IsRead}
use Rattle.nd_loops.proofs.RowsBeside.{view_of_lists}
use Rattle.nd_loops.proofs.beside.lent_view.Goals as goal

listed : (view : View) (index : List ℕ) → is_index view.shape index ≡ true
    → Contains (view_places RowMajor view) (place_at view index)
listed view index here =
    Contains-map (place_at view) (indices_in RowMajor view.shape) (Contains-indices_in RowMajor view.shape index here)

pub invariant_of-result : goal.invariant_of-result
invariant_of-result g c =
    let view = c.args.view.now in
    let marks = c.args.reader.marks in
    let count = length c.args.reader.items in
    subst (IsRead marks count) (sym (view_of_lists view c.slice-2.result.now c.start.ensures.place
    (c.slice.ensures.list ∙ c.dim.ensures.list) (ap all_signed c.slice-2.ensures.list ∙ c.strides.ensures.list))) (record {
      has = record {
        is_view = c.requires.is_view;
        within = λ index here.
            All-contains (IsInBounds count) (view_places RowMajor view) (place_at view index) c.requires.items (listed view index here);
      };
      marked = λ index here.
          All-contains (λ place. has_mark marks place ≡ true) (view_places RowMajor view) (place_at view index) c.requires.marked
          (listed view index here);
    })
