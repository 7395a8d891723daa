-- The pixels so far and those that are left are all, and each is at most 255.
use Rattle.std.proofs.Common.{◌≡◌, ◌+◌, ◌*◌, ◌≤◌, length, map}
use Rattle.std.specs.List.{sum_by}
use Rattle.std.specs.Option.{option_map_or}
use Rattle.ndarray_layout.specs.declared.Order.TheVariants.{RowMajor}
use Rattle.ndarray_layout.specs.View.{view_places}
use Rattle.nd_owned.specs.Owned.{item_at_place}
use Rattle.example_callers.proofs.blurs.mean_of.Given as goal

abbrev pub invariant-loop-pixel : goal.invariant-loop-pixel
invariant-loop-pixel l = record {
  added : l.sum + sum_by (λ pixel. option_map_or (λ value. value) pixel 0) l.pixel-iterator
      ≡ sum_by (λ pixel. option_map_or (λ value. value) pixel 0)
      (map (item_at_place l.fn.window.items) (view_places RowMajor l.fn.window.view));
  small : l.sum + 255 * length l.pixel-iterator ≤ 255 * 9;
}
