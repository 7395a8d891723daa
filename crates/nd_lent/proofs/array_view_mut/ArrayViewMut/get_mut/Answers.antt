use Rattle.std.proofs.Common.{rules}
use mathlib.Core.Logic.{inl}
use Rattle.nd_lent.proofs.ItemWritten.{item_written}
use Rattle.nd_lent.proofs.array_view_mut.ArrayViewMut.get_mut.Goals as goal

-- src/part.rt:88:5
pub returns-in-Some : goal.returns-in-Some
returns-in-Some g c = (
  λ i. inl (
    c.item_mut.result.ghost_name,
    λ item. item_written c.args.self.now (g.I.NdIndex.index_list c.args.index.now) c.in-Some.place c.in-Some.ensures item i,
  ),
  search rules,
)
