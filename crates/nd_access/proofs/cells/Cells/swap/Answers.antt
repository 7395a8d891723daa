-- The one is lent beside the other, and each takes the other's item.
use lib.Dec.{T}
use Rattle.std.proofs.Common.{rules, ◌≡◌, ◌∙◌, ap, sym, subst, length, set, Bool, List}
use Rattle.std.specs.Prelude.{slice_get}
use Rattle.nd_access.specs.Cells.{chosen_of, span_of}
use Rattle.nd_access.proofs.Laws.SwappedCells.{beside, in_span, one_within, swapped}
use Rattle.nd_access.proofs.Laws.lending.Where.{without-length}
use Rattle.nd_access.proofs.cells.Cells.swap.Goals as goal

pub lend_part-part-requires : goal.lend_part-part-requires
lend_part-part-requires g c κs within = (
  search rules,
  (search rules, one_within c.args.self.now.marks c.args.other c.requires.other),
)

pub item_mut-requires : goal.item_mut-requires
item_mut-requires g c =
    let left = c.lend_part-part.ensures.all.4 in
    rw left (beside c.args.self.now.marks c.args.one c.args.other c.if-one-other.false c.requires.one)

pub item_mut-requires-2 : goal.item_mut-requires-2
item_mut-requires-2 g c =
    let chosen = c.lend_part-part.ensures.all.3 in
    rw chosen (in_span c.args.self.now.marks c.args.other c.requires.other)

pub returns-clause-swapped : goal.returns-clause-swapped
returns-clause-swapped g c =
    let marks = c.args.self.now.marks in
    let items = c.args.self.now.items in
    let lent = c.lend_part-part.ensures.all in
    let within = one_within marks c.args.other c.requires.other in
    let many : length items ≡ length marks =
    sym (ap (λ xs. length xs) lent.6)
    ∙ c.item_mut.ensures.value.1
    ∙ ap (λ (left : List Bool). length left) lent.4
    ∙ without-length (span_of c.args.other 1 marks) marks (subst (λ (y : Bool). T y) (sym within) tt) in
    let first = sym (ap (λ xs. slice_get xs c.args.one) lent.6) ∙ c.item_mut.ensures.value.0 in
    let second = sym (ap (λ xs. slice_get xs c.args.other) lent.5) ∙ c.item_mut-2.ensures.value.0 in
    c.put_back.ensures.all.1
    ∙ (λ i. chosen_of (lent.3 i) (set (lent.5 i) c.args.other (c.swap.ensures.y_after i))
    (set (lent.6 i) c.args.one (c.swap.ensures.x_after i)))
    ∙ swapped marks items c.args.one c.args.other many first second
