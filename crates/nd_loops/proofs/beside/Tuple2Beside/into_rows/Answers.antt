-- The strides of the second arrays come after those of the first, and what stands beside a row is what stands beside it in both.
use Rattle.std.proofs.Common.{◌≡◌, ◌+◌, [], length, get_or, sym, ap, subst, ◌∙◌, arith}
use Rattle.std.specs.Option.{option_zip}
use Rattle.std.proofs.lemmas.List.{get_or-append-add, get_or-drop, length-append}
use Rattle.std.proofs.lemmas.Simd.{zip2_of_maps}
use Rattle.ndarray_layout.specs.declared.Order.TheVariants.{RowMajor}
use Rattle.ndarray_layout.specs.Indices.{indices_in}
use Rattle.ndarray_layout.specs.JoinedInAll.{IsJoined}
use Rattle.nd_loops.proofs.RowsBeside.{all_of_two, count_of_two}
use Rattle.nd_loops.proofs.beside.Tuple2Beside.into_rows.Goals as goal

pub into_rows-requires-clause-joined : goal.into_rows-requires-clause-joined
into_rows-requires-clause-joined g c = λ number here.
    let first = g.A.Beside.layouts c.args.self.0 in
    let others = g.B.Beside.layouts c.args.self.1 in
    let along = c.args.along.now in
    let at : get_or along (length first + number) 0 ≡ get_or c.split_at.result.1.now number 0 =
    ap (λ n. get_or along (n + number) 0) (sym c.count.ensures.count)
    ∙ sym (get_or-drop c.count.result along number 0)
    ∙ ap (λ items. get_or items number 0) (sym c.split_at.ensures.back) in
    subst (IsJoined RowMajor c.args.lens.now (get_or others number []) c.args.joined.0 c.args.joined.1) at
    (subst (λ strides. IsJoined RowMajor c.args.lens.now strides c.args.joined.0 c.args.joined.1 (get_or along (length first + number) 0))
    (get_or-append-add first others number [])
    (c.requires.joined (length first + number) (omega (arith, here, length-append first others))))

pub returns-clause-count : goal.returns-clause-count
returns-clause-count g c = λ rows as_long.
    count_of_two g.A.Beside.values g.B.Beside.values rows (g.A.Beside.ones c.into_rows-first.result rows)
    (g.B.Beside.ones c.into_rows.result rows) (c.into_rows-first.ensures.count rows as_long) (c.into_rows.ensures.count rows as_long)

pub returns-clause-values : goal.returns-clause-values
returns-clause-values g c = λ rows as_long many.
    all_of_two g.A.Beside.values g.B.Beside.values rows (g.A.Beside.ones c.into_rows-first.result rows)
    (g.B.Beside.ones c.into_rows.result rows) (c.into_rows-first.ensures.count rows as_long) (c.into_rows.ensures.count rows as_long)
    ∙ zip2_of_maps option_zip (g.A.Beside.at c.args.self.0) (g.B.Beside.at c.args.self.1) (indices_in RowMajor c.args.lens.now)
    (c.into_rows-first.ensures.values rows as_long many) (c.into_rows.ensures.values rows as_long many)
