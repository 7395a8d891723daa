-- Each item is overwritten, and there are as many as before, since a call was made at each.
use Rattle.std.proofs.Common.{rules, ◌≡◌, sym, ap, ◌∙◌}
use Rattle.std.specs.Option.{option_map}
use Rattle.std.proofs.lemmas.Option.{none-some}
use Rattle.nd_lent.specs.Lent.{array_of}
use Rattle.nd_lent.proofs.Laws.WrittenCount.{same_count}
use Rattle.nd_access.proofs.Laws.OwnPlaces.{own_of_part}
use Rattle.nd_lent.proofs.PartMaps.{mapped, overwritten}
use Rattle.nd_lent.proofs.array_view_mut.ArrayViewMut.fill.Goals as goal

pub map_nearest-requires-clause-own : goal.map_nearest-requires-clause-own
map_nearest-requires-clause-own g c = own_of_part c.args.self.now.cells.marks c.args.self.now.view c.args.self.now.part

pub returns-clause-filled : goal.returns-clause-filled
returns-clause-filled g c =
    let item = c.args.item in
    overwritten _ (array_of c.args.self.now) c.map_nearest.new.cells.items c.map_nearest.ensures.ran item (λ x r f' y called.
    let written : y ≡ item = sym called.leaves ∙ (search rules) in
    (search rules, written))

pub returns-clause-count : goal.returns-clause-count
returns-clause-count g c =
    let item = c.args.item in
    let old = array_of c.args.self.now in
    let has = mapped _ old c.map_nearest.new.cells.items c.map_nearest.ensures.ran (λ x. item) (λ x r f' y called.
    let written : y ≡ item = sym called.leaves ∙ (search rules) in
    (search rules, written)) in
    same_count old c.map_nearest.new.cells.items (returns-clause-filled g c)
    (λ index here missing. none-some item (sym (ap (option_map (λ x. item)) missing) ∙ sym (has.items index here)
    ∙ (returns-clause-filled g c).items index here))
    (λ index here none. none-some item (sym none))
