-- In the row at the back, or past whole rows in the last one that is left, or past all of them in the one at the front.
use Rattle.std.proofs.Common.{◌≡◌, ◌<◌, ◌≤◌, ◌+◌, ◌-◌, ◌/◌, ◌%◌, [], ◌∷◌, length, min, ap, subst, take, sym, ◌∙◌, arith}
use Rattle.std.specs.List.{All}
use Rattle.std.proofs.lemmas.List.Elements.{All-take}
use Rattle.std.proofs.lemmas.Nat.{div-add-mod', mod_below}
use Rattle.ndarray_layout.specs.PlacesLeft.{ArePlacesLeft, places_after, rows_and}
use Rattle.ndarray_layout.specs.Rows.{rows_places}
use Rattle.ndarray_layout.proofs.BothEnds.{All-and, All-front, before_all, before_some, end_fits, end_in, last_len, left_taken}
use Rattle.ndarray_layout.proofs.BothEnds.{length-parts, row_fits, row_within, rows_in, some_left, some_len, some_rows, within_last}
use Rattle.ndarray_layout.proofs.NumberedRows.{lesser}
use Rattle.ndarray_layout.proofs.strided.counted_places.CountedPlaces.advance_back.Goals as goal

-- ---- in the row at the back
pub advance_back-requires-clause-in_bounds : goal.advance_back-requires-clause-in_bounds
advance_back-requires-clause-in_bounds g c =
    let p = c.self.inside in
    end_in p.place (p.left - 1) p.stride p.rows p.back c.self.invariant.1

pub advance_back-requires-clause-few : goal.advance_back-requires-clause-few
advance_back-requires-clause-few g c =
    let p = c.self.inside in
    end_fits p.place (p.left - 1) p.stride p.rows p.back c.self.invariant.1

pub invariant_of-self : goal.invariant_of-self
invariant_of-self g c =
    let p = c.self.inside in
    let few : c.args.count ≤ p.back.len = omega (arith, c.if-count-left.true, c.len-left.ensures) in
    let some = some_rows p.place (p.left - 1) p.stride p.rows p.back c.self.invariant.1 in (
      c.self.invariant.0,
      subst (λ row. ArePlacesLeft p.place p.stride (p.left - 1) (rows_and p.rows row)) (sym c.advance_back.ensures)
          (left_taken c.self.invariant.1 _ (All-and p.rows _ some)
          (within_last p.place (p.left - 1) p.stride p.rows p.back c.self.invariant.1 c.args.count few)),
    )

pub returns-then-count-left : goal.returns-then-count-left
returns-then-count-left g c =
    let p = c.self.inside in
    let few : c.args.count ≤ p.back.len = omega (arith, c.if-count-left.true, c.len-left.ensures) in
    ap (λ row. places_after p.place p.stride (p.left - 1) (rows_and p.rows row)) c.advance_back.ensures
    ∙ sym (within_last p.place (p.left - 1) p.stride p.rows p.back c.self.invariant.1 c.args.count few)
    ∙ ap (λ xs. take (length xs - c.args.count) xs) c.self.view_is

-- ---- past all rows
pub returns-then-count-in_rows : goal.returns-then-count-in_rows
returns-then-count-in_rows g c =
    let p = c.self.inside in
    let rows = p.rows in
    let all = c.advance_back-then-count-in_rows in
    let n = c.count_of_places-in_rows.ensures in
    let past : length (rows_places rows) ≤ c.args.count - p.back.len = omega (arith, c.if-count-in_rows.true, c.len-left.ensures, n) in
    let zero_left = subst (λ k. all.new.self ≡ take (length rows - k) rows) n all.ensures in
    let least = subst (λ b. c.min.result ≡ min (p.left - 1) (c.args.count - b - length (rows_places rows))) c.len-left.ensures
    (subst (λ k. c.min.result ≡ min (p.left - 1) (c.args.count - c.len-left.result - k)) n c.min.ensures) in
    let same : p.left - c.min.result - 1 ≡ p.left - 1 - c.min.result = omega arith in
    ap (λ n. places_after p.place p.stride n (rows_and all.new.self c.none-self-inside.result)) same
    ∙ sym (before_all p.place (p.left - 1) p.stride rows p.back c.self.invariant.1 c.args.count all.new.self
    c.none-self-inside.result (omega (arith, c.if-count-left.false, c.len-left.ensures)) past zero_left c.none-self-inside.ensures least)
    ∙ ap (λ xs. take (length xs - c.args.count) xs) c.self.view_is

pub invariant_of-self-then-count-in_rows : goal.invariant_of-self-then-count-in_rows
invariant_of-self-then-count-in_rows g c =
    let p = c.self.inside in
    let rows = p.rows in
    let all = c.advance_back-then-count-in_rows in
    let some = some_rows p.place (p.left - 1) p.stride rows p.back c.self.invariant.1 in
    let n = c.count_of_places-in_rows.ensures in
    let past : length (rows_places rows) ≤ c.args.count - p.back.len = omega (arith, c.if-count-in_rows.true, c.len-left.ensures, n) in
    let zero_left = subst (λ k. all.new.self ≡ take (length rows - k) rows) n all.ensures in
    let least = subst (λ b. c.min.result ≡ min (p.left - 1) (c.args.count - b - length (rows_places rows))) c.len-left.ensures
    (subst (λ k. c.min.result ≡ min (p.left - 1) (c.args.count - c.len-left.result - k)) n c.min.ensures) in
    let later = subst (All (λ row. 0 < row.len)) (sym all.ensures) (All-take (λ row. 0 < row.len) _ rows some) in
    let left = left_taken c.self.invariant.1 _ (All-and all.new.self c.none-self-inside.result later)
    (before_all p.place (p.left - 1) p.stride rows p.back c.self.invariant.1 c.args.count all.new.self
    c.none-self-inside.result (omega (arith, c.if-count-left.false, c.len-left.ensures)) past zero_left c.none-self-inside.ensures least) in
    let same : p.left - 1 - c.min.result ≡ p.left - c.min.result - 1 = omega arith in (
      omega (arith, (lesser (p.left - 1) _ least).0, c.self.invariant.0),
      subst (λ n. ArePlacesLeft p.place p.stride n (rows_and all.new.self c.none-self-inside.result)) same left,
    )

-- ---- in the last row that is left
pub nonzero_div-count : goal.nonzero_div-count
nonzero_div-count g c =
    some_len c.row_len-len.result (c.args.count - c.len-left.result - 1) c.self.inside.rows c.row_len-len.ensures
    (omega (arith, c.if-count-left.false, c.if-count-in_rows.false, c.count_of_places-in_rows.ensures))

pub nonzero_rem-row : goal.nonzero_rem-row
nonzero_rem-row g c =
    some_len c.row_len-len.result (c.args.count - c.len-left.result - 1) c.self.inside.rows c.row_len-len.ensures
    (omega (arith, c.if-count-left.false, c.if-count-in_rows.false, c.count_of_places-in_rows.ensures))

pub overflow_sub-row-in-Some : goal.overflow_sub-row-in-Some
overflow_sub-row-in-Some g c =
    let rows = c.self.inside.rows in
    let len = c.row_len-len.result in
    let given = c.args.count - c.len-left.result - 1 in
    let below : given < length (rows_places rows) =
    omega (arith, c.if-count-left.false, c.if-count-in_rows.false, c.count_of_places-in_rows.ensures) in
    let long = last_len len (given / len) rows c.row_len-len.ensures c.next_back.new.self c.in-Some.row
    (sym c.advance_back-2.ensures ∙ c.in-Some.ensures.steps) in
    omega (arith, mod_below given len (some_len len given rows c.row_len-len.ensures below), long)

pub of_row-back-requires-clause-in_bounds : goal.of_row-back-requires-clause-in_bounds
of_row-back-requires-clause-in_bounds g c =
    let p = c.self.inside in
    let len = c.row_len-len.result in
    let given = c.args.count - c.len-left.result - 1 in
    let below : given < length (rows_places p.rows) =
    omega (arith, c.if-count-left.false, c.if-count-in_rows.false, c.count_of_places-in_rows.ensures) in
    row_within len given (given / len) (given % len) p.rows c.row_len-len.ensures below (sym (div-add-mod' given len))
    c.next_back.new.self c.in-Some.row (sym c.advance_back-2.ensures ∙ c.in-Some.ensures.steps)
    (rows_in p.place (p.left - 1) p.stride p.rows p.back c.self.invariant.1) (c.in-Some.row.len - given % len) (omega arith)

pub of_row-back-requires-clause-some : goal.of_row-back-requires-clause-some
of_row-back-requires-clause-some g c =
    let rows = c.self.inside.rows in
    let len = c.row_len-len.result in
    let given = c.args.count - c.len-left.result - 1 in
    let below : given < length (rows_places rows) =
    omega (arith, c.if-count-left.false, c.if-count-in_rows.false, c.count_of_places-in_rows.ensures) in
    let long = last_len len (given / len) rows c.row_len-len.ensures c.next_back.new.self c.in-Some.row
    (sym c.advance_back-2.ensures ∙ c.in-Some.ensures.steps) in
    omega (arith, mod_below given len (some_len len given rows c.row_len-len.ensures below), long)

pub of_row-back-requires-clause-few : goal.of_row-back-requires-clause-few
of_row-back-requires-clause-few g c =
    let p = c.self.inside in
    let len = c.row_len-len.result in
    let given = c.args.count - c.len-left.result - 1 in
    let below : given < length (rows_places p.rows) =
    omega (arith, c.if-count-left.false, c.if-count-in_rows.false, c.count_of_places-in_rows.ensures) in
    let fits = row_fits len given (given / len) (given % len) p.rows c.row_len-len.ensures below (sym (div-add-mod' given len))
    c.next_back.new.self c.in-Some.row (sym c.advance_back-2.ensures ∙ c.in-Some.ensures.steps) in
    omega (arith, fits, c.self.invariant.1.fits, length-parts p.place p.stride (p.left - 1) p.rows p.back)

pub returns-in-Some : goal.returns-in-Some
returns-in-Some g c =
    let p = c.self.inside in
    let len = c.row_len-len.result in
    let given = c.args.count - c.len-left.result - 1 in
    let below : given < length (rows_places p.rows) =
    omega (arith, c.if-count-left.false, c.if-count-in_rows.false, c.count_of_places-in_rows.ensures) in
    let some = some_len len given p.rows c.row_len-len.ensures below in
    let same : c.in-Some.row.len - given % len - 1 ≡ c.in-Some.row.len - (given % len + 1) = omega arith in
    ap (λ row. places_after p.place p.stride (p.left - 1) (rows_and c.next_back.new.self row)) c.of_row-back.ensures.left
    ∙ ap (λ n. places_after p.place p.stride (p.left - 1) (rows_and c.next_back.new.self (record c.in-Some.row { len = n }))) same
    ∙ sym (before_some p.place (p.left - 1) p.stride p.rows p.back c.self.invariant.1 c.args.count len (given / len) (given % len)
    c.next_back.new.self c.in-Some.row c.row_len-len.ensures (omega (arith, c.if-count-left.false, c.len-left.ensures))
    (omega (arith, below, c.len-left.ensures)) (omega (arith, c.len-left.ensures, div-add-mod' given len)) (mod_below given len some)
    c.advance_back-2.ensures c.in-Some.ensures.steps)
    ∙ ap (λ xs. take (length xs - c.args.count) xs) c.self.view_is

pub invariant_of-self-in-Some : goal.invariant_of-self-in-Some
invariant_of-self-in-Some g c =
    let p = c.self.inside in
    let len = c.row_len-len.result in
    let given = c.args.count - c.len-left.result - 1 in
    let below : given < length (rows_places p.rows) =
    omega (arith, c.if-count-left.false, c.if-count-in_rows.false, c.count_of_places-in_rows.ensures) in
    let some = some_len len given p.rows c.row_len-len.ensures below in
    let others = c.next_back.new.self in
    let same : c.in-Some.row.len - (given % len + 1) ≡ c.in-Some.row.len - given % len - 1 = omega arith in
    let some_of = All-front (λ row. 0 < row.len) others (c.in-Some.row ∷ []) (subst (All (λ row. 0 < row.len))
    (sym c.advance_back-2.ensures ∙ c.in-Some.ensures.steps) (All-take (λ row. 0 < row.len) _ p.rows
    (some_rows p.place (p.left - 1) p.stride p.rows p.back c.self.invariant.1))) in
    let left = left_taken c.self.invariant.1 _
    (All-and others (record c.in-Some.row { len = c.in-Some.row.len - (given % len + 1) }) some_of)
    (before_some p.place (p.left - 1) p.stride p.rows p.back c.self.invariant.1 c.args.count len (given / len) (given % len)
    others c.in-Some.row c.row_len-len.ensures (omega (arith, c.if-count-left.false, c.len-left.ensures))
    (omega (arith, below, c.len-left.ensures)) (omega (arith, c.len-left.ensures, div-add-mod' given len)) (mod_below given len some)
    c.advance_back-2.ensures c.in-Some.ensures.steps) in (
      c.self.invariant.0,
      subst (λ row. ArePlacesLeft p.place p.stride (p.left - 1) (rows_and others row)) (sym c.of_row-back.ensures.left)
          (subst (λ n. ArePlacesLeft p.place p.stride (p.left - 1) (rows_and others (record c.in-Some.row { len = n }))) same left),
    )

pub invariant_of-self-in_default : goal.invariant_of-self-in_default
invariant_of-self-in_default g c =
    let rows = c.self.inside.rows in
    let len = c.row_len-len.result in
    let given = c.args.count - c.len-left.result - 1 in
    let below : given < length (rows_places rows) =
    omega (arith, c.if-count-left.false, c.if-count-in_rows.false, c.count_of_places-in_rows.ensures) in
    absurd (some_left len given (given / len) (given % len) rows c.row_len-len.ensures below (sym (div-add-mod' given len))
    (sym c.advance_back-2.ensures ∙ c.in_default.ensures.steps.0))

pub returns-in_default : goal.returns-in_default
returns-in_default g c =
    let rows = c.self.inside.rows in
    let len = c.row_len-len.result in
    let given = c.args.count - c.len-left.result - 1 in
    let below : given < length (rows_places rows) =
    omega (arith, c.if-count-left.false, c.if-count-in_rows.false, c.count_of_places-in_rows.ensures) in
    absurd (some_left len given (given / len) (given % len) rows c.row_len-len.ensures below (sym (div-add-mod' given len))
    (sym c.advance_back-2.ensures ∙ c.in_default.ensures.steps.0))
