-- A call is made at each place of the part and what stands beside it, in row-major order.
use Rattle.std.proofs.Common.{rules, sym, subst}
use Rattle.nd_lent.specs.Lent.{array_of}
use Rattle.nd_access.specs.Zipped.{CallableBesideEach, CalledBeside}
use Rattle.nd_access.proofs.Laws.OwnPlaces.{own_of_part}
use Rattle.nd_loops.specs.Beside.{shown_beside}
use Rattle.nd_lent.proofs.BesideMaps.{in_order, ran_in_order, zipped_in_order}
use Rattle.nd_lent.proofs.array_view_mut.ArrayViewMut.zip_mut_with_all.Goals as goal

pub zip_views-requires-clause-own : goal.zip_views-requires-clause-own
zip_views-requires-clause-own g c = own_of_part c.args.self.now.cells.marks c.args.self.now.view c.args.self.now.part

pub zip_views-requires-clause-callable : goal.zip_views-requires-clause-callable
zip_views-requires-clause-callable g c =
    let same : g.C.Beside.have_shape c.args.others c.args.self.now.view.shape = search rules in
    subst (λ given. CallableBesideEach (shown_beside g.C.Beside.value) g.F.FnMut given c.args.f)
    (sym (in_order (array_of c.args.self.now) (g.C.Beside.at c.args.others))) (c.requires.callable same)

pub returns-clause-ran : goal.returns-clause-ran
returns-clause-ran g c =
    ran_in_order (array_of c.args.self.now) (g.C.Beside.at c.args.others) (CalledBeside (shown_beside g.C.Beside.value) g.F.FnMut)
    c.zip_views.new.cells.items c.zip_views.ensures.ran

pub returns-clause-zipped : goal.returns-clause-zipped
returns-clause-zipped g c =
    zipped_in_order (array_of c.args.self.now) (g.C.Beside.at c.args.others) (CalledBeside (shown_beside g.C.Beside.value) g.F.FnMut)
    c.zip_views.new.cells.items c.zip_views.ensures.ran

pub returns-clause-spare : goal.returns-clause-spare
returns-clause-spare g c = c.zip_views.ensures.ran.others
