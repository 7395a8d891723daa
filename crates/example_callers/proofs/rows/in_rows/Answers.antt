-- Row i and column j stand for the index of flat index i * columns + j, by the laws `source_in_row` and `index_of_list`.
use Rattle.std.proofs.Common.{◌≡◌, ◌+◌, ◌*◌, [], ◌∷◌, true, ap, ◌∙◌}
use Rattle.ndarray_layout.specs.declared.Order.TheVariants.{RowMajor}
use Rattle.ndarray_layout.specs.FlatIndex.{index_of_flat_in}
use Rattle.ndarray_layout.specs.Indices.{is_index}
use Rattle.ndarray_layout.specs.ReshapedView.{reshape_source}
use Rattle.ndarray_layout.specs.View.{place_at}
use Rattle.ndarray_layout.proofs.Laws.RowMajor.{source_in_row, index_of_list}
use Rattle.example_callers.proofs.rows.in_rows.Goals as goal

pub returns-clause-place : goal.returns-clause-place
returns-clause-place g c = λ i j here.
    let view = c.args.view.now in
    let found : is_index c.in_ok-grid.grid.shape (i ∷ j ∷ []) ≡ true = rw (c.in_ok-grid.ensures.reshaped, c.new_ix2.ensures) here in
    (c.in_ok-grid.ensures.kept.places (i ∷ j ∷ []) found).1
    ∙ ap (λ shape. place_at view (reshape_source RowMajor view.shape shape (i ∷ j ∷ []))) c.new_ix2.ensures
    ∙ ap (place_at view) (source_in_row view.shape c.args.rows c.args.columns i j)

pub returns-clause-line : goal.returns-clause-line
returns-clause-line g c = λ len i j line here.
    returns-clause-place g c i j here
    ∙ ap (λ shape. place_at c.args.view.now (index_of_flat_in RowMajor shape (i * c.args.columns + j))) line
    ∙ ap (place_at c.args.view.now) (index_of_list len)
