-- The items are at the places of the slice that it is then, of which none is listed twice.
use Rattle.std.proofs.Common.{rules, FitsSigned, ◌≡◌, ◌++◌, ℕ, Some, List, length, take, drop, sym, ap, subst, ◌∙◌, arith}
use Rattle.std.specs.Int.{w64}
use Rattle.std.proofs.lemmas.Bool.{eq-eqb, ne_eqb}
use Rattle.std.proofs.lemmas.Int.{to_z-of_z}
use Rattle.std.proofs.lemmas.List.{take_at}
use Rattle.ndarray_layout.specs.declared.Fit.TheVariants.{Strict}
use Rattle.ndarray_layout.specs.declared.Order.TheVariants.{RowMajor}
use Rattle.ndarray_layout.specs.SlicedView.{slice_of}
use Rattle.ndarray_layout.specs.View.{IsView, LiesWithin}
use Rattle.ndarray_layout.proofs.Laws.View.{length-view_places}
use Rattle.nd_owned.specs.Moved.{ready_at}
use Rattle.nd_owned.specs.MultiSet.{Write, write_places}
use Rattle.nd_owned.specs.private.OneOrMany.{items_of}
use Rattle.nd_owned.specs.private.Written.{HasWritten}
use Rattle.nd_owned.proofs.Slices.{one_kept}
use Rattle.nd_owned.proofs.Tiles.{AreMoved, as_many_there, can_move, in_bounds_there, set_fault_there, written_there}
use Rattle.nd_owned.proofs.owned.OwnedArray.set_items_of.Goals as goal

pub write_moved-requires : goal.write_moved-requires
write_moved-requires g c =
    let ready = c.args.ready.now in
    let index : List ℕ = g.D.Lengths.list c.args.by.now in
    let f : FitsSigned w64 c.in_ok-offset.offset = search rules in
    let same = c.in_ok-offset.ensures.same in
    let are : AreMoved ready.view ready.elems (items_of c.rows.result.now) index c.in_ok-offset.offset = record {
      is_view = subst IsView (sym same) c.self.invariant.is_view;
      fits = c.rows.ensures.fits;
      places = c.rows.ensures.places;
      some = c.rows.ensures.some;
      here = c.in_ok-offset.ensures.index;
      far = c.in_ok-offset.ensures.offset;
    } in
    rw (to_z-of_z w64 c.in_ok-offset.offset f, c.as_mut_slice.ensures.value) (record {
      starts = can_move are;
      in_bounds = in_bounds_there are (subst (LiesWithin (length c.self.inside.items.items)) (sym same) c.self.invariant.within);
      count = omega (arith, as_many_there are, ap length c.rows.ensures.places, c.count.ensures, c.if-count-items.false);
    })

pub returns-then-count-items-clause-fault : goal.returns-then-count-items-clause-fault
returns-then-count-items-clause-fault g c = λ same.
    let ready = c.args.ready.now in
    let index : List ℕ = g.D.Lengths.list c.args.by.now in
    let picked = c.count.ensures ∙ length-view_places RowMajor (slice_of Strict ready.elems ready.view) in
    ap Some c.from_kind.ensures
    ∙ sym (set_fault_there ready index (length c.args.items.now) c.in_ok-offset.ensures.index
    (ne_eqb (length c.args.items.now) _ (λ equal. c.if-count-items.true (picked ∙ sym equal))))

pub returns-clause-fault : goal.returns-clause-fault
returns-clause-fault g c = λ same.
    let ready = c.args.ready.now in
    let index : List ℕ = g.D.Lengths.list c.args.by.now in
    let picked = c.count.ensures ∙ length-view_places RowMajor (slice_of Strict ready.elems ready.view) in
    sym (set_fault_there ready index (length c.args.items.now) c.in_ok-offset.ensures.index
    (eq-eqb (length c.args.items.now) _ (sym c.if-count-items.false ∙ picked)))

pub returns-clause-written : goal.returns-clause-written
returns-clause-written g c =
    let ready = c.args.ready.now in
    let index : List ℕ = g.D.Lengths.list c.args.by.now in
    let write : Write g.row.T.Denot = record { slice = ready_at ready index; items = c.args.items.now } in
    let items = c.self.inside.items in
    let stored = c.write_moved.new.stored in
    let f : FitsSigned w64 c.in_ok-offset.offset = search rules in
    let same = c.in_ok-offset.ensures.same in
    let are : AreMoved ready.view ready.elems (items_of c.rows.result.now) index c.in_ok-offset.offset = record {
      is_view = subst IsView (sym same) c.self.invariant.is_view;
      fits = c.rows.ensures.fits;
      places = c.rows.ensures.places;
      some = c.rows.ensures.some;
      here = c.in_ok-offset.ensures.index;
      far = c.in_ok-offset.ensures.offset;
    } in
    let now : take items.len (stored ++ drop (length stored) items.items) ≡ stored =
    take_at stored (drop (length stored) items.items) items.len (c.write_moved.auto.stored ∙ c.as_mut_slice.ensures.len) in
    let left = rw (to_z-of_z w64 c.in_ok-offset.offset f, c.as_mut_slice.ensures.value)
    at c.write_moved.ensures in
    let made : HasWritten (write_places c.self.inside.view write) write.items items.items stored =
    written_there write.items items.items stored are same c.self.invariant.distinct left in
    let whole = subst (λ new. HasWritten (write_places c.args.self.now.view write) write.items c.args.self.now.items new) (sym now)
    (subst (λ array. HasWritten (write_places array.view write) write.items array.items stored) c.self.view_is made) in
    whole.written

pub returns-clause-others : goal.returns-clause-others
returns-clause-others g c =
    let ready = c.args.ready.now in
    let index : List ℕ = g.D.Lengths.list c.args.by.now in
    let write : Write g.row.T.Denot = record { slice = ready_at ready index; items = c.args.items.now } in
    let items = c.self.inside.items in
    let stored = c.write_moved.new.stored in
    let f : FitsSigned w64 c.in_ok-offset.offset = search rules in
    let same = c.in_ok-offset.ensures.same in
    let are : AreMoved ready.view ready.elems (items_of c.rows.result.now) index c.in_ok-offset.offset = record {
      is_view = subst IsView (sym same) c.self.invariant.is_view;
      fits = c.rows.ensures.fits;
      places = c.rows.ensures.places;
      some = c.rows.ensures.some;
      here = c.in_ok-offset.ensures.index;
      far = c.in_ok-offset.ensures.offset;
    } in
    let now : take items.len (stored ++ drop (length stored) items.items) ≡ stored =
    take_at stored (drop (length stored) items.items) items.len (c.write_moved.auto.stored ∙ c.as_mut_slice.ensures.len) in
    let left = rw (to_z-of_z w64 c.in_ok-offset.offset f, c.as_mut_slice.ensures.value)
    at c.write_moved.ensures in
    let made : HasWritten (write_places c.self.inside.view write) write.items items.items stored =
    written_there write.items items.items stored are same c.self.invariant.distinct left in
    let whole = subst (λ new. HasWritten (write_places c.args.self.now.view write) write.items c.args.self.now.items new) (sym now)
    (subst (λ array. HasWritten (write_places array.view write) write.items array.items stored) c.self.view_is made) in
    one_kept c.args.self.now.view write whole
