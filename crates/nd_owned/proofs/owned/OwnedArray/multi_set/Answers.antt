-- The parts of the slices are such that their items can be written; what that leaves is what was asked for.
use Rattle.std.proofs.Common.{◌≡◌, ◌++◌, None, List, [], ◌∷◌, length, map, take, drop, sym, subst, ◌∙◌, arith}
use Rattle.std.proofs.lemmas.Bool.{eq-eqb, false≢true}
use Rattle.std.proofs.lemmas.List.{take_at}
use Rattle.std.proofs.lemmas.List.Elements.{All-head}
use Rattle.std.specs.List.{All}
use Rattle.ndarray_layout.specs.ShapeFault.{shape_fault}
use Rattle.nd_owned.specs.declared.picked_view.PickedView.{PickedView}
use Rattle.nd_owned.specs.private.Written.{HasWritten}
use Rattle.ndarray_layout.specs.View.{View}
use Rattle.nd_owned.specs.MultiSet.{Write, write_places}
use Rattle.nd_owned.proofs.Faults.{HaveCounts}
use Rattle.std.specs.List.{flat_map}
use Rattle.nd_owned.proofs.owned.OwnedArray.multi_set.Goals.{After-drop-parts}
use Rattle.nd_owned.specs.MultiSet.{HaveNoItems, IsFaultOfWrites, IsWritten, KeepsOthers, write_of}
use Rattle.nd_lent.proofs.Laws.Faults.{handed_on}
use Rattle.nd_owned.proofs.Faults.{have_counts, no_fault}
use Rattle.nd_owned.proofs.Slices.{all_distinct, all_written, one_fault, one_kept, one_written, only, others_kept}
use Rattle.nd_lent.proofs.Laws.Faults.{on_ok}
use Rattle.nd_owned.proofs.owned.OwnedArray.multi_set.Given.{Over}
use Rattle.nd_owned.proofs.owned.OwnedArray.multi_set.Goals as goal
use Rattle.nd_owned.proofs.owned.OwnedArray.multi_set.Goals.{After-set_one}

pub returns-in_err-parts-clause-fault : goal.returns-in_err-parts-clause-fault
returns-in_err-parts-clause-fault g c =
    let writes = map write_of c.args.writes.now in
    let none = handed_on (List PickedView) c.from_residual-in_err-parts.result c.in_err-parts.field-0.0
    c.from_residual-in_err-parts.ensures.1
    c.in_err-parts.ensures.fault in
    subst (IsFaultOfWrites c.args.self.now.view.shape writes) (sym none)
    (subst (λ array. IsFaultOfWrites array.view.shape writes None) c.self.view_is
    (no_fault c.self.inside.view.shape writes (sym c.in_ok-check_counts.ensures) c.in_ok-check_apart.ensures))

pub write_all-requires-clause-in_bounds : goal.write_all-requires-clause-in_bounds
write_all-requires-clause-in_bounds g c =
    rw (c.as_slice.ensures.value, c.as_mut_slice.ensures.value) (c.in_ok-parts.ensures.in_bounds (length c.self.inside.items.items)
    c.self.invariant.within)

pub returns-2-clause-fault : goal.returns-2-clause-fault
returns-2-clause-fault g c =
    let writes = map write_of c.args.writes.now in
    subst (λ array. IsFaultOfWrites array.view.shape writes None) c.self.view_is (no_fault c.self.inside.view.shape writes
    (sym c.in_ok-check_counts.ensures) c.in_ok-check_apart.ensures)

-- what is written at the places of all slices
module _ (g : Over) (c : After-drop-parts g) where
  abbrev view : View
  view = c.self.inside.view

  abbrev writes : List (Write g.row.T.Denot)
  writes = map write_of c.args.writes.now

  have : HaveCounts view.shape writes
  have = have_counts view.shape writes (sym c.in_ok-check_counts.ensures)

  left : HasWritten (flat_map (write_places view) writes) (flat_map (λ write. write.items) writes) c.self.inside.items.items
      c.write_all.new.stored
  left =
      let known = rw (c.as_slice.ensures.value, c.in_ok-parts.ensures.places, c.in_ok-parts.ensures.items, c.as_mut_slice.ensures.value)
      at c.write_all.ensures in
      known (all_distinct view writes c.self.invariant.is_view c.self.invariant.distinct have.fit c.in_ok-check_apart.ensures)

  -- the list is as long as before
  now : take c.self.inside.items.len (c.write_all.new.stored ++ drop (length c.write_all.new.stored) c.self.inside.items.items)
      ≡ c.write_all.new.stored
  now = take_at c.write_all.new.stored _ c.self.inside.items.len (c.write_all.auto.stored ∙ c.as_mut_slice.ensures.len)

pub returns-2-clause-written : goal.returns-2-clause-written
returns-2-clause-written g c =
    let stored = c.write_all.new.stored in
    subst (λ those. All (IsWritten c.args.self.now.view those) (writes g c)) (sym (now g c))
    (subst (λ array. All (IsWritten array.view stored) (writes g c)) c.self.view_is
    (all_written (view g c) (writes g c) c.self.inside.items.items stored (have g c).counts (left g c)))

pub returns-2-clause-others : goal.returns-2-clause-others
returns-2-clause-others g c =
    let stored = c.write_all.new.stored in
    subst (λ those. KeepsOthers c.args.self.now.view (writes g c) c.args.self.now.items those) (sym (now g c))
    (subst (λ array. KeepsOthers array.view (writes g c) array.items stored) c.self.view_is
    (others_kept (view g c) (writes g c) (left g c)))

-- ---- one write alone
alone : (g : Over) (c : After-set_one g) → c.args.writes.now ≡ c.write-item.result ∷ []
alone g c = only c.args.writes.now (omega (arith, c.in-len1.len_at_least, c.in-len1.len_below)) c.write-item.is

pub returns-clause-fault : goal.returns-clause-fault
returns-clause-fault g c =
    let shape = c.args.self.now.view.shape in
    subst (λ writes. IsFaultOfWrites shape (map write_of writes) (shape_fault c.set_one.result)) (sym (alone g c))
    (one_fault shape (write_of c.write-item.result) c.set_one.ensures.fault)

pub returns-clause-memory : goal.returns-clause-memory
returns-clause-memory g c = λ none no_items.
    let write = c.write-item.result in
    let empty : length write.1.items ≡ 0 =
    All-head (λ one. length one.items ≡ 0) (write_of write) [] (subst (λ writes. HaveNoItems (map write_of writes)) (alone g c) no_items) in
    absurd (false≢true (sym c.if-not-is_empty.true ∙ c.is_empty.ensures ∙ eq-eqb write.1.len 0 (write.1.ok.0 ∙ empty)))

pub returns-clause-written : goal.returns-clause-written
returns-clause-written g c =
    let view = c.args.self.now.view in
    on_ok c.set_one.result
    (λ left. subst (λ writes. All (IsWritten view c.set_one.new.self.items) (map write_of writes)) (sym (alone g c))
    (one_written view (write_of c.write-item.result) left)) c.set_one.ensures.written

pub returns-clause-others : goal.returns-clause-others
returns-clause-others g c =
    let array = c.args.self.now in
    on_ok c.set_one.result
    (λ left. subst (λ writes. KeepsOthers array.view (map write_of writes) array.items c.set_one.new.self.items) (sym (alone g c))
    (one_kept array.view (write_of c.write-item.result) left)) c.set_one.ensures.written
