-- The starts so far are written, and the other rows are still to come; there is just room for them.
use Rattle.std.proofs.Common.{◌≡◌, ◌+◌, ◌++◌, length, map, take}
use Rattle.ndarray_layout.specs.Rows.{view_rows}
use Rattle.ndarray_layout_c.proofs.rows.fill_starts.Given as goal

abbrev pub invariant-loop-at : goal.invariant-loop-at
invariant-loop-at l = record {
  room : l.at-iterator.count + length l.at-iterator.iter ≡ length l.starts;
  written : take l.at-iterator.count l.starts ++ map (λ row. row.start) l.at-iterator.iter
      ≡ map (λ row. row.start) (view_rows l.fn.order l.fn.view);
}
