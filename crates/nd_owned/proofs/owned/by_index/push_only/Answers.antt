-- A shape of no axes has one index, of no coordinates.
use Rattle.std.proofs.Common.{Some, [], rules, ap, map, refl, ◌∙◌}
use Rattle.ndarray_layout.specs.declared.Order.TheVariants.{RowMajor}
use Rattle.ndarray_layout.specs.Indices.{indices_in}
use Rattle.nd_access.proofs.Laws.Pushed.{AreLeft, all_left, all_pushed, first_pushed, takes_first}
use Rattle.nd_owned.specs.ByIndex.{CalledAtIndex, TakesIndex}
use Rattle.nd_owned.proofs.owned.by_index.push_only.Goals as goal

pub f-requires : goal.f-requires
f-requires g c =
    let lens = g.D.Pattern.IntoDimension.lens in
    let all = map Some (indices_in RowMajor (g.D.Lengths.list c.args.dim.now)) in
    let first = ap (λ shape. map Some (indices_in RowMajor shape)) c.requires.axes in
    let are : AreLeft (CalledAtIndex g.F.FnMut lens) (TakesIndex g.F.FnMut lens) c.args.f all c.args.made.items all c.args.made.items
    c.args.f =
    all_left refl c.requires.callable in
    let is = c.into_pattern.ensures ∙ c.in_ok-index.ensures.list ∙ c.requires.axes in
    search (rules, takes_first first are c.into_pattern.result is)

pub returns : goal.returns
returns g c =
    let lens = g.D.Pattern.IntoDimension.lens in
    let all = map Some (indices_in RowMajor (g.D.Lengths.list c.args.dim.now)) in
    let first = ap (λ shape. map Some (indices_in RowMajor shape)) c.requires.axes in
    let are : AreLeft (CalledAtIndex g.F.FnMut lens) (TakesIndex g.F.FnMut lens) c.args.f all c.args.made.items all c.args.made.items
    c.args.f =
    all_left refl c.requires.callable in
    let is = c.into_pattern.ensures ∙ c.in_ok-index.ensures.list ∙ c.requires.axes in
    let called : CalledAtIndex g.F.FnMut lens c.args.f [] c.f.result c.f.new.self = (c.into_pattern.result, is, c.f.ensures) in
    (c.f.new.self, all_pushed refl (first_pushed c.f.result first called c.push_reserved.ensures.items are))
