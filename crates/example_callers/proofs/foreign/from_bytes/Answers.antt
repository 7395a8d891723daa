-- The strides that were written are the one list of quotients.
use Rattle.std.proofs.Common.{◌≡◌, ℕ, ℤ, pos, ◌*ℤ◌, ◌<ℤ◌, Result, Ok, Err, List, length, map, sym, ap, ◌∙◌, arith}
use Rattle.std.specs.Prelude.{IfOk}
use Rattle.std.proofs.lemmas.Int.{ints}
use Rattle.ndarray_layout.specs.declared.ErrorKind.{ErrorKind}
use Rattle.ndarray_layout.specs.AcceptanceFrom.{acceptance_from}
use Rattle.ndarray_layout.specs.Signed.{all_signed}
use Rattle.ndarray_layout.specs.View.{View, view_of}
use Rattle.example_callers.proofs.ByteStrides.{same_quotients}
use Rattle.example_callers.proofs.foreign.from_bytes.Given.{Over}
use Rattle.example_callers.proofs.foreign.from_bytes.Goals as goal
use Rattle.example_callers.proofs.foreign.from_bytes.Goals.{After-from_parts}

-- the quotients, as they were written
written : (g : Over) (c : After-from_parts g)
    → g.D.Lengths.list (g.D.Lengths.with_list c.args.byte_strides c.divide.new.strides) ≡ c.divide.new.strides
written g c =
    g.met.D.Lengths.list_of_with_list c.args.byte_strides c.divide.new.strides (c.divide.auto.strides ∙ ap length c.slice_mut.ensures.list)

divided : (g : Over) (c : After-from_parts g)
    → map (λ stride. stride *ℤ pos c.args.elem_size) (all_signed c.divide.new.strides) ≡ all_signed (g.D.Lengths.list c.args.byte_strides)
divided g c = c.divide.ensures.divided c.if-not-divide.false ∙ ap all_signed c.slice_mut.ensures.list

pub returns-then-not-divide-clause-fault : goal.returns-then-not-divide-clause-fault
returns-then-not-divide-clause-fault g c = λ strides same.
    absurd (c.divide.ensures.remainder c.if-not-divide.true strides (same ∙ ap all_signed (sym c.slice_mut.ensures.list)))

pub returns-clause-fault : goal.returns-clause-fault
returns-clause-fault g c = λ strides same.
    let some : pos 0 <ℤ pos c.args.elem_size = omega (arith, ints) in
    let one = same_quotients (pos c.args.elem_size) some (all_signed c.divide.new.strides) strides (divided g c ∙ sym same) in
    c.from_parts.ensures.fault
    ∙ ap (acceptance_from c.args.start c.args.elem_size c.args.len c.args.mode (g.D.Lengths.list c.args.dim))
    (ap all_signed (written g c) ∙ one)

pub returns-clause-remainder : goal.returns-clause-remainder
returns-clause-remainder g c = λ none. absurd (none (all_signed c.divide.new.strides) (divided g c))

-- a view has the strides that it was made with
made_with : {bytes : List ℤ} (size : ℤ) (start : ℕ) (shape strides : List ℕ) (made : Result View ErrorKind)
    → IfOk made (λ view. view ≡ view_of start shape strides) → map (λ stride. stride *ℤ size) (all_signed strides) ≡ bytes
    → IfOk made (λ view. map (λ stride. stride *ℤ size) view.strides ≡ bytes)
made_with size start shape strides (Ok view) is same = ap (λ v. map (λ stride. stride *ℤ size) v.strides) is ∙ same
made_with size start shape strides (Err kind) is same = tt

pub returns-clause-strides : goal.returns-clause-strides
returns-clause-strides g c =
    made_with (pos c.args.elem_size) _ _ _ c.from_parts.result c.from_parts.ensures.view
    (ap (λ strides. map (λ stride. stride *ℤ pos c.args.elem_size) (all_signed strides)) (written g c) ∙ divided g c)
