-- The first column begins at the first place of the axes.
use Rattle.std.proofs.Common.{◌≡◌, ◌-◌, ◌%◌, ℕ, inl, inr, min, refl, cond, nat_eq, ap, eq-eqb, subst, sym, ◌∙◌, arith}
use Rattle.std.proofs.Math.Nat.{min-le_right, mod-le}
use Rattle.std.proofs.lemmas.Bool.{cases_lt, ne_eqb}
use Rattle.nd_base.proofs.Laws.Definitions.{size}
use Rattle.ndarray_layout.specs.NumberedRows.{AreRowsInColumns, HasColumns}
use Rattle.ndarray_layout.specs.View.{IsView, view_of}
use Rattle.ndarray_layout.proofs.NumberedRows.{all_between}
use Rattle.ndarray_layout.proofs.RowColumns.{first_numbered}
use Rattle.ndarray_layout.proofs.RowsInColumns.{left_entered, none_next}
use Rattle.ndarray_layout.proofs.strided.rows_of.RowsOf.along.Goals as goal
use Rattle.ndarray_layout.proofs.strided.rows_of.RowsOf.along.Goals.{then-len-eq0, else-len-eq0}

pub columns_of-count-requires : goal.columns_of-count-requires
columns_of-count-requires g c = (subst IsView (sym c.lent-lent.ensures.starts) c.requires.is_view).valid

pub invariant_of-result : goal.invariant_of-result
invariant_of-result g c =
    let lent = c.lent-lent.result in
    let starts = g.A.SlowerAxes.starts c.args.axes in
    let columns = c.columns_of-count.result.0 in
    let same = c.lent-lent.ensures.starts in
    let all = size starts.shape in
    let count : c.if-len-eq0.end ≡ cond (nat_eq c.args.len 0) 0 all = elim c.if-len-eq0.branch [
      | then-len-eq0 w ↦ w.end-is ∙ sym (ap (λ none. cond none 0 all) (eq-eqb c.args.len 0 w.if-len-eq0.true))
      | else-len-eq0 w ↦ w.end-is ∙ c.columns_of-count.ensures.count ∙ ap (λ view. size view.shape) same
          ∙ sym (ap (λ none. cond none 0 all) (ne_eqb c.args.len 0 (λ none. omega (arith, none, w.if-len-eq0.false))))
    ] in
    let steps = c.columns_of-count.ensures.columns lent.start (subst IsView (sym same) c.requires.is_view) in
    let order = g.A.SlowerAxes.order c.args.axes in
    let none : (place : ℕ) → AreRowsInColumns order starts c.args.len columns (record { place = place; left = 0 })
    (record { place = 0; left = 1 }) 0 c.if-len-eq0.end = λ place. record {
      between = all_between c.requires.is_view c.requires.fits count;
      steps = subst (λ view. HasColumns order view columns) same
          (subst (λ order. HasColumns order (view_of lent.start lent.lens.now lent.strides.now) columns) c.lent-lent.ensures.order steps);
      some = omega arith;
      few = omega arith;
      reached = omega arith;
      whole = λ _. omega (arith, mod-le 0 columns.len);
      next = none_next;
      after = record { below = λ more. absurd (omega arith); place = λ more. absurd (omega arith); within = λ more. absurd (omega arith) };
    } in
    let few : c.min-begun.result ≡ min (columns.len - 0 % columns.len) (c.if-len-eq0.end - 0) =
    c.min-begun.ensures
    ∙ ap (λ n. min n c.if-len-eq0.end) (omega (arith, mod-le 0 columns.len))
    ∙ ap (min (columns.len - 0 % columns.len)) (omega arith) in
    elim (cases_lt 0 c.if-len-eq0.end) [
      | inl some ↦
          let first = first_numbered order starts (ap (λ view. view.start) same) refl (omega (arith, some, (none 0).between.within)) in
          subst (λ n. AreRowsInColumns order starts c.args.len columns (record { place = lent.start; left = c.min-begun.result })
          (record { place = 0; left = 1 }) n c.if-len-eq0.end) (omega arith) (left_entered (none 0) (omega arith) some few first)
      | inr nothing ↦
          let no_rows : 0 ≡ c.min-begun.result = omega (arith, nothing, c.min-begun.ensures, min-le_right columns.len c.if-len-eq0.end) in
          subst (λ n. AreRowsInColumns order starts c.args.len columns (record { place = lent.start; left = n })
          (record { place = 0; left = 1 }) n c.if-len-eq0.end) no_rows (none lent.start)
    ]
