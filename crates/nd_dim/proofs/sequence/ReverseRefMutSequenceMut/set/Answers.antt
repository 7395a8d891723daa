use Rattle.std.proofs.Common.{◌-◌, ◌<◌, length, set, reverse, ap, ◌∙◌, arith, length-set}
use Rattle.std.proofs.lemmas.List.{length-reverse}
use Rattle.nd_dim.proofs.WriteFromBack.{write_from_back}
use Rattle.nd_dim.proofs.sequence.ReverseRefMutSequenceMut.set.Goals as goal

pub returns-clause-items : goal.returns-clause-items
returns-clause-items g c =
    let d = c.args.self.now.0.now in
    let xs = g.D.Lengths.list d in
    let k = c.args.k in
    let items = c.slice_mut-items.result.now in
    let same = c.slice_mut-items.ensures.list in
    let in_bounds : k < length xs = omega (arith, c.requires, length-reverse xs) in
    let count = length-set items (length items - 1 - k) c.args.item in
    ap reverse (g.met.D.Lengths.list_of_with_list d (set items (length items - 1 - k) c.args.item) (count ∙ ap length same))
    ∙ ap (λ ys. reverse (set ys (length ys - 1 - k) c.args.item)) same
    ∙ write_from_back xs k c.args.item in_bounds
