use Rattle.std.proofs.Common.{◌≡◌, ℕ, List, length, arith, ap, ◌∙◌, inl}
use Rattle.std.specs.Iterator.Adapters.{enumerate_count, enumerate_source}
use Rattle.std.specs.declared.iter.Enumerate.{Enumerate}
use Rattle.ndarray_layout.specs.declared.SliceInfoElem.{SliceInfoElem}
use Rattle.ndarray_layout_c.proofs.SliceReasonStatus.{axis_elems_few}
use Rattle.ndarray_layout_c.proofs.slice_reasons.argument_reason.Goals as goal

-- none is counted yet, and all are to come
begins : {first items : Enumerate (List (ℕ × SliceInfoElem))} {left all : List (ℕ × SliceInfoElem)} → first ≡ items
    → enumerate_count items ≡ 0 → enumerate_source items ≡ left → left ≡ all
    → (enumerate_count first ≡ 0) × (enumerate_source first ≡ all)
begins same none source all = (ap enumerate_count same ∙ none, ap enumerate_source same ∙ source ∙ all)

pub loop-axis-init-derived : goal.loop-axis-init-derived
loop-axis-init-derived c =
    let first = begins c.into_iter-axis-iterator.ensures.into_iter_gives c.enumerate-axis-items.ensures.count
    c.enumerate-axis-items.ensures.source c.new.ensures in
    let count = ap length first.1 in
    ((tt, tt, inl (omega (arith, first.0, count, axis_elems_few c.args.shape.now c.args.elems.now))), tt)
