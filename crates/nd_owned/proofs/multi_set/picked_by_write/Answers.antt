-- The part has as many places as the slice picks, so their count decides.
use Rattle.std.proofs.Common.{Some, length, sym, ap, ◌∙◌}
use Rattle.std.proofs.lemmas.Bool.{eq-eqb, ne_eqb}
use Rattle.ndarray_layout.specs.Size.{size}
use Rattle.nd_owned.specs.MultiSet.{write_of}
use Rattle.nd_owned.proofs.Faults.{fault_of_one}
use Rattle.nd_owned.proofs.multi_set.picked_by_write.Goals as goal

pub returns-then-size-len-clause-fault : goal.returns-then-size-len-clause-fault
returns-then-size-len-clause-fault g c =
    let view = c.args.view.now in
    let write = c.args.write.now in
    let picked = c.size.ensures ∙ ap (λ view. size view.shape) c.in-Ok.ensures.part in
    sym (fault_of_one view.shape (write_of write) (sym c.in-Ok.ensures.fault)
    (eq-eqb (length write.1.items) _ (sym write.1.ok.0 ∙ sym c.len.ensures ∙ sym c.if-size-len.true ∙ picked)))

pub returns-in-Ok-clause-fault : goal.returns-in-Ok-clause-fault
returns-in-Ok-clause-fault g c =
    let view = c.args.view.now in
    let write = c.args.write.now in
    let picked = c.size.ensures ∙ ap (λ view. size view.shape) c.in-Ok.ensures.part in
    ap Some c.from_kind.ensures
    ∙ sym (fault_of_one view.shape (write_of write) (sym c.in-Ok.ensures.fault)
    (ne_eqb (length write.1.items) _ (λ same. c.if-size-len.false (picked ∙ sym same ∙ sym write.1.ok.0 ∙ sym c.len.ensures))))
