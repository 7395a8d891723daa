-- A single row is the first one, and along one axis there is no other.
use Rattle.std.proofs.Common.{◌≡◌, ◌<◌, ◌++◌, [], ◌∷◌, append_assoc, length, sym, ap, subst, ◌∙◌, arith}
use Rattle.std.specs.List.{All}
use Rattle.std.proofs.lemmas.List.Elements.{All-cons, All-head, All-nil, All-same}
use Rattle.ndarray_layout.specs.Rows.{rows_places}
use Rattle.nd_owned.proofs.FewRows.{one_row}
use Rattle.nd_owned.proofs.ready.list_rows.Goals as goal

pub returns-then-count-eq1-clause-some : goal.returns-then-count-eq1-clause-some
returns-then-count-eq1-clause-some g c =
    let some = subst (All (λ row. 0 < row.len)) c.in-Some.ensures.steps c.joined_rows-left.ensures.some in
    All-cons (λ row. 0 < row.len) c.in-Some.first [] (All-head (λ row. 0 < row.len) _ _ some) (All-nil (λ row. 0 < row.len))

pub returns-in_err-rows-clause-memory : goal.returns-in_err-rows-clause-memory
returns-in_err-rows-clause-memory g c = λ few.
    let made = c.joined_rows-left.ensures in
    let most = one_row c.args.view.now c.joined_rows-left.result made.is_view made.places made.some made.longest few in
    absurd (omega (arith, most, c.if-count-eq1.false, ap length c.in-Some.ensures.steps, c.len-count.ensures.value))

pub loop-row-preserved : goal.loop-row-preserved
loop-row-preserved g c =
    let listed = c.loop-row.rows.items in
    let left = c.next-in-loop-row.new.self in
    let pushed = c.push_reserved-in-loop-row.ensures in
    let steps = c.in-Some-row.ensures.steps in
    let same : c.push_reserved-in-loop-row.new.self.items ++ left ≡ listed ++ c.loop-row.row-iterator =
    ap (λ rows. rows ++ left) pushed.items ∙ append_assoc listed (c.in-Some-row.row ∷ []) left
    ∙ ap (λ rows. listed ++ rows) (sym steps) in
    record {
      places = ap rows_places same ∙ c.loop-row.invariant.places;
      some = All-same (λ row. 0 < row.len) _ _ same c.loop-row.invariant.some;
      room = omega (arith, c.loop-row.invariant.room, pushed.len, pushed.capacity, ap length steps);
    }
