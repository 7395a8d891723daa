-- The row has as many items as places.
use Rattle.std.proofs.Common.{arith}
use Rattle.std.proofs.lemmas.List.{length-map}
use Rattle.ndarray_layout.proofs.Laws.Rows.{length-row_places}
use Rattle.nd_access.specs.Items.{item_at_place}
use Rattle.nd_access.specs.LentRow.{places_of}
use Rattle.nd_loops.proofs.beside.LentViewBeside.item.Goals as goal

pub item-requires : goal.item-requires
item-requires g c =
    let row = c.args.one.now.row in
    omega (
      arith,
      c.requires,
      length-map (places_of row) (item_at_place c.args.one.now.items),
      length-row_places row.start row.stride row.len,
    )
