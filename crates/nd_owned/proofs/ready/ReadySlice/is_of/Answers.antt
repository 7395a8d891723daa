-- The numbers are the same, so the strides that they stand for are; and the other way round.
use Rattle.std.proofs.Common.{◌≡◌, ℕ, ℤ, List, sym, ap, ◌∙◌, arith, eqb-true}
use Rattle.ndarray_layout.specs.Signed.{all_signed}
use Rattle.ndarray_layout.specs.View.{View}
use Rattle.nd_owned.proofs.ready.ReadySlice.is_of.Goals as goal
use Rattle.nd_owned.proofs.ready.ReadySlice.is_of.Goals.{then-start, else-start}

abbrev view_from : ℕ → List ℕ → List ℤ → View
view_from start shape strides = record { start = start; shape = shape; strides = strides }

same_view : {start from : ℕ} {shape lens : List ℕ} {strides steps : List ℤ} → start ≡ from → shape ≡ lens → strides ≡ steps
    → view_from start shape strides ≡ view_from from lens steps
same_view {start} {from} {shape} {lens} {strides} {steps} e f g =
    ap (λ n. view_from n shape strides) e ∙ ap (λ xs. view_from from xs strides) f ∙ ap (view_from from lens) g

pub returns-then-equal : goal.returns-then-equal
returns-then-equal g c = (
  λ same. elim c.if-start.branch [
    | then-start w ↦
        let dims = w.equal.ensures.0 (sym w.value-is ∙ c.if-equal.true) in
        let own : c.self.inside.view ≡ c.args.view.now = same_view
        (sym c.start.ensures.place ∙ w.if-start.true ∙ c.start-2.ensures.place)
        (sym w.dim.ensures.list ∙ dims ∙ w.dim-then-start.ensures.list)
        (sym c.strides.ensures.list ∙ sym (ap all_signed c.slice-own.ensures.list) ∙ c.are_same_strides.ensures.0 same
        ∙ ap all_signed c.slice-other.ensures.list ∙ c.strides-2.ensures.list) in
        sym (ap (λ ready. ready.view) c.self.view_is) ∙ own
    | else-start w ↦
        absurd (omega (arith, w.if-start.false, eqb-true c.start.result c.start-2.result (sym w.value-is ∙ c.if-equal.true)))
  ],
  λ same.
      let own : c.self.inside.view ≡ c.args.view.now = ap (λ ready. ready.view) c.self.view_is ∙ same in
      c.are_same_strides.ensures.1 (ap all_signed c.slice-own.ensures.list ∙ c.strides.ensures.list ∙ ap (λ view. view.strides) own
      ∙ sym c.strides-2.ensures.list ∙ sym (ap all_signed c.slice-other.ensures.list)),
)

pub are_same_strides-requires : goal.are_same_strides-requires
are_same_strides-requires g c = record {
  one_fits = λ k. (c.type_inv.own k).fits;
  other_fits = λ k. (c.type_inv.other k).fits;
}
