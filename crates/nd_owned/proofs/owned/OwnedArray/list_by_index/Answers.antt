-- A shape without an index has nothing to list.
use Rattle.std.proofs.Common.{◌≡◌, Some, [], rules, map, sym, arith, ◌∙◌}
use Rattle.std.proofs.lemmas.Bool.{false_from_ne_true}
use Rattle.std.proofs.lemmas.List.{length-map, nil_from_length}
use Rattle.ndarray_layout.specs.declared.Order.TheVariants.{RowMajor}
use Rattle.ndarray_layout.specs.Indices.{indices_in}
use Rattle.ndarray_layout.specs.Size.{is_empty, size}
use Rattle.ndarray_layout.proofs.Laws.FlatIndex.{length-indices_in}
use Rattle.ndarray_layout.proofs.Laws.Size.{size_of_empty}
use Rattle.nd_access.proofs.Laws.Pushed.{none_pushed, ran_listed}
use Rattle.nd_owned.proofs.owned.OwnedArray.list_by_index.Goals as goal

pub returns-then-count-eq0-clause-ran : goal.returns-then-count-eq0-clause-ran
returns-then-count-eq0-clause-ran g c =
    let shape = g.D.Lengths.list c.args.dim.now in
    let all = indices_in RowMajor shape in
    let empty : size shape ≡ 0 = search rules in
    let none : map Some all ≡ [] = nil_from_length (map Some all)
    (omega (arith, empty, length-map all Some, length-indices_in RowMajor shape)) in
    ran_listed c.in_ok-made.ensures.items (c.args.f, none_pushed) (sym none)

pub push_rows-requires-clause-some : goal.push_rows-requires-clause-some
push_rows-requires-clause-some g c =
    let shape = g.D.Lengths.list c.args.dim.now in
    let counted : c.in-Some.count ≡ size shape = search rules in
    false_from_ne_true (is_empty shape) (λ none. c.if-count-eq0.false (counted ∙ size_of_empty shape none))
