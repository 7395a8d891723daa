-- The items are at the places of the slice, of which none is listed twice.
use Rattle.std.proofs.Common.{◌≡◌, ◌++◌, None, Some, [], ◌∷◌, length, take, drop, sym, ap, subst, ◌∙◌, arith}
use Rattle.std.proofs.lemmas.Bool.{eq-eqb, ne_eqb}
use Rattle.std.proofs.lemmas.List.{take_at}
use Rattle.ndarray_layout.specs.declared.Fit.TheVariants.{Strict}
use Rattle.ndarray_layout.specs.declared.Order.TheVariants.{RowMajor}
use Rattle.ndarray_layout.specs.SliceFault.{argument_fault}
use Rattle.ndarray_layout.specs.SlicedView.{slice_of}
use Rattle.ndarray_layout.proofs.Laws.View.{length-view_places}
use Rattle.nd_owned.specs.private.Written.{HasWritten}
use Rattle.nd_owned.specs.MultiSet.{counts_fault, write_of, write_places}
use Rattle.nd_lent.proofs.Laws.Faults.{both_none}
use Rattle.nd_owned.proofs.Faults.{fault_of_one, have_counts}
use Rattle.nd_owned.proofs.EvenRows.{slice_rows_in_bounds}
use Rattle.nd_lent.proofs.Laws.SlicePlaces.{slice_distinct}
use Rattle.nd_owned.proofs.owned.OwnedArray.set_one.Goals as goal

pub write-requires-clause-within : goal.write-requires-clause-within
write-requires-clause-within g c =
    rw (c.as_mut_slice-2.ensures.value) (c.in_ok-part.ensures.in_bounds (length c.self.inside.items.items) c.self.invariant.within)

pub returns-clause-written : goal.returns-clause-written
returns-clause-written g c =
    let view = c.self.inside.view in
    let write = write_of c.args.write.now in
    let items = c.self.inside.items in
    let stored = c.write.new.stored in
    let now : take items.len (stored ++ drop (length stored) items.items) ≡ stored =
    take_at stored (drop (length stored) items.items) items.len (c.write.auto.stored ∙ c.as_mut_slice-2.ensures.len) in
    let fits : argument_fault Strict view.shape write.slice ≡ None =
    (both_none _ None (have_counts view.shape (write ∷ []) (sym c.in_ok-part.ensures.fault)).fit).0 in
    let left = rw (c.in_ok-part.ensures.part, c.as_slice-2.ensures.value, c.as_mut_slice-2.ensures.value) at c.write.ensures in
    let made : HasWritten (write_places view write) write.items items.items stored =
    left (slice_distinct view write.slice c.self.invariant.is_view c.self.invariant.distinct fits) in
    subst (λ new. HasWritten (write_places c.args.self.now.view write) write.items c.args.self.now.items new) (sym now)
    (subst (λ array. HasWritten (write_places array.view write) write.items array.items stored) c.self.view_is made)

pub returns-then-size-len-clause-fault : goal.returns-then-size-len-clause-fault
returns-then-size-len-clause-fault g c =
    let view = c.self.inside.view in
    let write = c.args.write.now in
    let known = rw (c.in-Some.is, c.as_slice.ensures.value) at c.in_ok-rows.ensures in
    let picked = c.size.ensures ∙ ap length known.places ∙ length-view_places RowMajor (slice_of Strict write.0.items view) in
    subst (λ array. Some c.from_kind.result ≡ counts_fault array.view.shape (write_of write ∷ [])) c.self.view_is
    (ap Some c.from_kind.ensures
    ∙ sym (fault_of_one view.shape (write_of write) known.fits
    (ne_eqb (length write.1.items) _ (λ same. c.if-size-len.true (picked ∙ sym same ∙ sym write.1.ok.0 ∙ sym c.len.ensures)))))

pub write_rows-requires-clause-in_bounds : goal.write_rows-requires-clause-in_bounds
write_rows-requires-clause-in_bounds g c =
    let known = rw (c.in-Some.is, c.as_slice.ensures.value) at c.in_ok-rows.ensures in
    rw (c.as_mut_slice.ensures.value)
    (slice_rows_in_bounds c.self.inside.view c.args.write.now.0.items _ c.self.invariant.is_view c.self.invariant.within known.fits
    known.places)

pub returns-in-Some-clause-fault : goal.returns-in-Some-clause-fault
returns-in-Some-clause-fault g c =
    let view = c.self.inside.view in
    let write = c.args.write.now in
    let known = rw (c.in-Some.is, c.as_slice.ensures.value) at c.in_ok-rows.ensures in
    let picked = c.size.ensures ∙ ap length known.places ∙ length-view_places RowMajor (slice_of Strict write.0.items view) in
    let same : c.size.result ≡ c.len.result = omega (arith, c.if-size-len.false) in
    subst (λ array. None ≡ counts_fault array.view.shape (write_of write ∷ [])) c.self.view_is
    (sym (fault_of_one view.shape (write_of write) known.fits
    (eq-eqb (length write.1.items) _ (sym write.1.ok.0 ∙ sym c.len.ensures ∙ sym same ∙ picked))))

pub returns-in-Some-clause-written : goal.returns-in-Some-clause-written
returns-in-Some-clause-written g c =
    let view = c.self.inside.view in
    let write = write_of c.args.write.now in
    let items = c.self.inside.items in
    let stored = c.write_rows.new.stored in
    let known = rw (c.in-Some.is, c.as_slice.ensures.value) at c.in_ok-rows.ensures in
    let now : take items.len (stored ++ drop (length stored) items.items) ≡ stored =
    take_at stored (drop (length stored) items.items) items.len (c.write_rows.auto.stored ∙ c.as_mut_slice.ensures.len) in
    let left = rw (known.places, c.as_slice-in-Some.ensures.value, c.as_mut_slice.ensures.value) at c.write_rows.ensures in
    let made : HasWritten (write_places view write) write.items items.items stored =
    left (slice_distinct view write.slice c.self.invariant.is_view c.self.invariant.distinct known.fits) in
    subst (λ new. HasWritten (write_places c.args.self.now.view write) write.items c.args.self.now.items new) (sym now)
    (subst (λ array. HasWritten (write_places array.view write) write.items array.items stored) c.self.view_is made)
