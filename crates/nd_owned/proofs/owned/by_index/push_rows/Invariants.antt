-- The results at the indices before this row are appended, for all of which there is room, and the function may be called at the others.
use Rattle.std.proofs.Common.{ℕ, ◌+◌, ◌-◌, ◌≤◌, Some, drop, map, vec_capacity, vec_len}
use Rattle.ndarray_layout.specs.declared.Order.TheVariants.{RowMajor}
use Rattle.ndarray_layout.specs.Indices.{indices_in}
use Rattle.ndarray_layout.specs.Size.{size}
use Rattle.nd_access.proofs.Laws.Pushed.{AreLeft}
use Rattle.nd_owned.specs.ByIndex.{CalledAtIndex, TakesIndex}
use Rattle.nd_owned.proofs.IndicesByRow.{StandsAtRow, rows_left}
use Rattle.nd_owned.proofs.owned.by_index.push_rows.Given as goal

abbrev pub invariant-loop-has_row : goal.invariant-loop-has_row
invariant-loop-has_row g l =
    let shape = g.D.Lengths.list l.fn.dim in
    let all = indices_in RowMajor shape in (before : ℕ) × record {
      at : StandsAtRow shape (g.D.Lengths.list l.index) l.has_row before;
      are : AreLeft (CalledAtIndex g.F.FnMut g.D.Pattern.IntoDimension.lens) (TakesIndex g.F.FnMut g.D.Pattern.IntoDimension.lens) l.fn.f
          (map Some all) l.fn.made.items (map Some (drop before all)) l.made.items l.f;
      room : vec_len l.made + (size shape - before) ≤ vec_capacity l.made;
    }

abbrev pub decreases-loop-has_row : goal.decreases-loop-has_row
decreases-loop-has_row g l = rows_left (g.D.Lengths.list l.fn.dim) (g.D.Lengths.list l.index) l.has_row
