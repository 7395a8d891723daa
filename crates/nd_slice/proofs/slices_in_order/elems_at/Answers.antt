-- The slice at its position, and that it fits if all do.
use Rattle.std.proofs.Common.{◌≡◌, ◌<◌, None, [], length, get_or, map, sym, ap, subst, ◌∙◌, arith}
use Rattle.std.proofs.lemmas.List.{length-map}
use Rattle.nd_slice.proofs.Definitions.{argument_fault, position_of, slice_at}
use Rattle.nd_slice.proofs.Slices.{fits_read, item_at, position_below}
use Rattle.nd_slice.proofs.slices_in_order.elems_at.Given.{Over}
use Rattle.nd_slice.proofs.slices_in_order.elems_at.Goals as goal
use Rattle.nd_slice.proofs.slices_in_order.elems_at.Goals.{After-elems}

here : (g : Over) (c : After-elems g)
    → c.elems.result.now ≡ slice_at (map g.S.SliceElems.list c.args.slices.now) g.R.Direction.backwards c.args.turn
here g c =
    let list = g.S.SliceElems.list in
    let given = c.args.slices.now in
    let backwards = g.R.Direction.backwards in
    let below = subst (λ n. n < length given) (sym c.position.ensures) (position_below backwards (length given) c.args.turn c.requires) in
    c.elems.ensures
    ∙ item_at list given c.position.result [] below c.index-slices-position.is
    ∙ ap (λ n. get_or (map list given) n [])
    (c.position.ensures ∙ ap (λ count. position_of backwards count c.args.turn) (sym (length-map given list)))

pub returns-clause-slice : goal.returns-clause-slice
returns-clause-slice g c = here g c

pub returns-clause-fits : goal.returns-clause-fits
returns-clause-fits g c = λ fit shape none.
    subst (λ slice. argument_fault fit shape slice ≡ None) (sym (here g c))
    (fits_read fit shape (map g.S.SliceElems.list c.args.slices.now) g.R.Direction.backwards c.args.turn none
    (omega (arith, c.requires, length-map c.args.slices.now g.S.SliceElems.list)))
