-- The results at the coordinates before are appended, for all of which there is room, and the function may be called at the others.
use Rattle.std.proofs.Common.{◌≡◌, ◌+◌, ◌-◌, ◌≤◌, Some, length, map, vec_capacity, vec_len}
use Rattle.std.specs.List.{range_with_len}
use Rattle.nd_access.proofs.Laws.Pushed.{AreLeft}
use Rattle.nd_owned.specs.ByIndex.{CalledAtIndex, TakesIndex}
use Rattle.nd_owned.specs.private.IndexRow.{rest_of_row, with_last}
use Rattle.nd_owned.proofs.owned.by_index.push_row.Given as goal

abbrev pub invariant-loop-coordinate : goal.invariant-loop-coordinate
invariant-loop-coordinate g l =
    let index = g.D.Lengths.list l.fn.index in record {
      are : AreLeft (CalledAtIndex g.F.FnMut g.D.Pattern.IntoDimension.lens) (TakesIndex g.F.FnMut g.D.Pattern.IntoDimension.lens) l.fn.f
          (map Some (rest_of_row index l.fn.len)) l.fn.made.items
          (map Some (map (with_last index) (range_with_len l.coordinate (l.fn.len - l.coordinate)))) l.made.items l.f;
      count : vec_len l.made + (l.fn.len - l.coordinate) ≡ vec_len l.fn.made + length (rest_of_row index l.fn.len);
      capacity : vec_capacity l.fn.made ≤ vec_capacity l.made;
    }
