-- A call is made at each place of the part, once.
use Rattle.std.proofs.Common.{sym, subst}
use Rattle.ndarray_layout.specs.declared.Order.TheVariants.{RowMajor}
use Rattle.nd_loops.specs.AnyOrder.{InAnyOrder}
use Rattle.nd_lent.specs.Lent.{array_of}
use Rattle.nd_access.specs.Mapped.{CallableOnEachMut}
use Rattle.nd_access.proofs.Laws.OwnPlaces.{own_of_part}
use Rattle.nd_lent.proofs.PartMaps.{mapped, some_order, spare}
use Rattle.nd_access.proofs.Laws.IndexItems.{items_in}
use Rattle.nd_lent.proofs.array_view_mut.ArrayViewMut.map_in_place_nearest.Goals as goal

pub map_nearest-requires-clause-own : goal.map_nearest-requires-clause-own
map_nearest-requires-clause-own g c = own_of_part c.args.self.now.cells.marks c.args.self.now.view c.args.self.now.part

pub map_nearest-requires-clause-callable : goal.map_nearest-requires-clause-callable
map_nearest-requires-clause-callable g c =
    subst (InAnyOrder (λ items. CallableOnEachMut g.F.FnMut items c.args.f)) (sym (items_in RowMajor (array_of c.args.self.now))) c.requires

pub returns-clause-ran : goal.returns-clause-ran
returns-clause-ran g c = some_order g.F.FnMut (array_of c.args.self.now) c.map_nearest.new.cells.items c.map_nearest.ensures.ran

pub returns-clause-mapped : goal.returns-clause-mapped
returns-clause-mapped g c = mapped g.F.FnMut (array_of c.args.self.now) c.map_nearest.new.cells.items c.map_nearest.ensures.ran

pub returns-clause-spare : goal.returns-clause-spare
returns-clause-spare g c = spare g.F.FnMut (array_of c.args.self.now) c.map_nearest.new.cells.items c.map_nearest.ensures.ran
