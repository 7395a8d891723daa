-- A call is made at each place of the part and the two items beside it, in row-major order.
use Rattle.std.proofs.Common.{rules, ◌≡◌, sym, subst, ◌∙◌}
use Rattle.nd_access.specs.Mapped.{CallsMake, row_major_items}
use Rattle.nd_lent.specs.Lent.{array_of}
use Rattle.nd_loops.specs.LentLayout.{both_at}
use Rattle.nd_loops.specs.ZippedTwo.{CallableOnEachTriple, CalledAtTriple}
use Rattle.nd_access.proofs.Laws.OwnPlaces.{own_of_part}
use Rattle.nd_lent.proofs.BesideMaps.{in_order, ran_in_order, triples_beside, zipped_in_order, zipped_of_two}
use Rattle.nd_lent.proofs.PartMaps.{changed}
use Rattle.nd_lent.proofs.array_view_mut.ArrayViewMut.zip_mut_with_two.Goals as goal

pub zip_two_view-requires-clause-own : goal.zip_two_view-requires-clause-own
zip_two_view-requires-clause-own g c = own_of_part c.args.self.now.cells.marks c.args.self.now.view c.args.self.now.part

pub zip_two_view-requires-clause-callable : goal.zip_two_view-requires-clause-callable
zip_two_view-requires-clause-callable g c =
    let array = array_of c.args.self.now in
    let same : array.view.shape ≡ c.args.other.now.view.shape = search rules in
    let also : array.view.shape ≡ c.args.third.now.view.shape = search rules in
    subst (λ triples. CallableOnEachTriple g.F.FnMut triples c.args.f)
    (sym (in_order array (both_at c.beside.result c.beside-2.result)
    ∙ triples_beside array c.beside.result c.beside-2.result c.beside.ensures.array c.beside-2.ensures.array same also))
    (c.requires same also)

pub returns-clause-ran : goal.returns-clause-ran
returns-clause-ran g c =
    let array = array_of c.args.self.now in
    let made = changed array c.zip_two_view.new.cells.items in
    let same : array.view.shape ≡ c.args.other.now.view.shape = search rules in
    let also : array.view.shape ≡ c.args.third.now.view.shape = search rules in
    subst (λ triples. CallsMake (CalledAtTriple g.F.FnMut) c.args.f triples (row_major_items made))
    (triples_beside array c.beside.result c.beside-2.result c.beside.ensures.array c.beside-2.ensures.array same also)
    (ran_in_order array (both_at c.beside.result c.beside-2.result) (CalledAtTriple g.F.FnMut) c.zip_two_view.new.cells.items
    c.zip_two_view.ensures.ran)

pub returns-clause-zipped : goal.returns-clause-zipped
returns-clause-zipped g c = λ h acts.
    zipped_of_two (array_of c.args.self.now) c.beside.result c.beside-2.result c.beside.ensures.array c.beside-2.ensures.array
    (λ triple. h triple.0 triple.1.0 triple.1.1)
    (zipped_in_order (array_of c.args.self.now) (both_at c.beside.result c.beside-2.result) (CalledAtTriple g.F.FnMut)
    c.zip_two_view.new.cells.items c.zip_two_view.ensures.ran (λ triple. h triple.0 triple.1.0 triple.1.1)
    (λ triple f' x' called. acts triple.0 triple.1.0 triple.1.1 f' x' called))

pub returns-clause-spare : goal.returns-clause-spare
returns-clause-spare g c = c.zip_two_view.ensures.ran.others
