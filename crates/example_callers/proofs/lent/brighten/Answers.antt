-- The closure may be called at each pixel, since none is the brightest one, and makes it brighter by 1.
use Rattle.std.proofs.Common.{rules, ◌≡◌, ◌+◌, ◌<◌, IfSome, Some, refl, sym, ap, subst, ◌∙◌}
use Rattle.std.proofs.lemmas.Iterator.Adapters.{serves_from_places}
use Rattle.std.proofs.lemmas.Iterator.Consumers.{YieldsList-from_first}
use Rattle.nd_owned.specs.Lent.{array_of}
use Rattle.nd_owned.specs.Mapped.{row_major_items}
use Rattle.example_callers.proofs.lent.brighten.Goals as goal

pub map_in_place-requires : goal.map_in_place-requires
map_in_place-requires g c =
    serves_from_places (YieldsList-from_first (λ item. Some item) (λ left. left) (row_major_items (array_of c.args.picture.now)) refl)
    (λ x q called. refl)
    (λ x k below same item is.
    let small : x < 255 = subst (λ item. IfSome item (λ pixel. pixel < 255)) (sym same) (c.requires k (Some x) below) in
    search (rules, small))

pub returns : goal.returns
returns g c = c.map_in_place.ensures.mapped (λ pixel. pixel + 1) (λ x r f' y called.
    let brighter : y ≡ x + 1 = sym called.leaves ∙ (search rules) ∙ ap (λ pixel. pixel + 1) called.shows in
    (refl, brighter))
