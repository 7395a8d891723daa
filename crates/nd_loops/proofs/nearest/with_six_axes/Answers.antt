-- The axes of length 1 add no place.
use Rattle.std.proofs.Common.{◌≡◌, ℕ, ◌-◌, length, sym, ap, ◌∙◌}
use Rattle.std.proofs.lemmas.List.{length-map}
use Rattle.std.proofs.lemmas.Option.{IfSome_then}
use Rattle.ndarray_layout.specs.declared.Order.TheVariants.{RowMajor}
use Rattle.ndarray_layout.specs.Place.{places}
use Rattle.ndarray_layout.specs.Signed.{all_signed, signed}
use Rattle.ndarray_layout.specs.View.{View, IsView, view_places}
use Rattle.nd_loops.proofs.SixAxes.{padded, places_padded, some_of_ok}
use Rattle.nd_loops.proofs.nearest.with_six_axes.Given.{Over}
use Rattle.nd_loops.proofs.nearest.with_six_axes.Goals as goal
use Rattle.nd_loops.proofs.nearest.with_six_axes.Goals.{After-ok}

-- how many axes are added
abbrev added : View → ℕ
added view = 6 - length view.shape

lens : (g : Over) (c : After-ok g) → c.slice-lens.result.now ≡ c.args.view.now.shape
lens g c = c.slice-lens.ensures.list ∙ c.dim.ensures.list

shape : (g : Over) (c : After-ok g) → c.six_axes-dim.result.index ≡ padded c.args.view.now.shape 1 (added c.args.view.now)
shape g c = c.six_axes-dim.ensures ∙ ap (λ shape. padded shape 1 (6 - length shape)) (lens g c)

own : (g : Over) (c : After-ok g) → all_signed c.slice-strides.result.now ≡ c.args.view.now.strides
own g c = ap all_signed c.slice-strides.ensures.list ∙ c.strides.ensures.list

count : (g : Over) (c : After-ok g) → length c.args.view.now.shape ≡ length c.slice-strides.result.now
count g c =
    c.start.ensures.is_view.valid.same_count ∙ sym (ap length (own g c)) ∙ length-map c.slice-strides.result.now signed

strides : (g : Over) (c : After-ok g)
    → c.six_axes-strides.result.index ≡ padded c.slice-strides.result.now 0 (added c.args.view.now)
strides g c = c.six_axes-strides.ensures ∙ ap (λ n. padded c.slice-strides.result.now 0 (6 - n)) (sym (count g c))

same_places : (g : Over) (c : After-ok g)
    → places RowMajor c.start.result c.six_axes-dim.result.index (all_signed c.six_axes-strides.result.index)
    ≡ view_places RowMajor c.args.view.now
same_places g c =
    let view = c.args.view.now in
    let start = c.start.result in
    ap (λ shape. places RowMajor start shape (all_signed c.six_axes-strides.result.index)) (shape g c)
    ∙ ap (λ strides. places RowMajor start (padded view.shape 1 (added view)) (all_signed strides)) (strides g c)
    ∙ places_padded start view.shape c.slice-strides.result.now (added view) (count g c)
    ∙ ap (places RowMajor start view.shape) (own g c)
    ∙ ap (λ start. places RowMajor start view.shape view.strides) c.start.ensures.place

pub returns-clause-shape : goal.returns-clause-shape
returns-clause-shape g c =
    IfSome_then c.ok.result (some_of_ok _ c.from_parts.result c.ok.ensures.value c.from_parts.ensures.view)
    (λ six is. ap (λ (view : View). view.shape) is ∙ shape g c)

pub returns-clause-places : goal.returns-clause-places
returns-clause-places g c =
    IfSome_then c.ok.result (some_of_ok _ c.from_parts.result c.ok.ensures.value c.from_parts.ensures.view)
    (λ six is. ap (view_places RowMajor) is ∙ same_places g c)

pub returns-clause-is_view : goal.returns-clause-is_view
returns-clause-is_view g c = some_of_ok IsView c.from_parts.result c.ok.ensures.value c.from_parts.ensures.is_view
