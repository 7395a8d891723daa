-- Each row has as many places.
use Rattle.std.proofs.Common.{sym}
use Rattle.ndarray_layout.specs.Signed.{signed}
use Rattle.nd_owned.proofs.EvenRows.{length-even_rows}
use Rattle.nd_owned.proofs.even_rows.EvenRows.size.Goals as goal

pub returns : goal.returns
returns c =
    let rows = c.args.self in
    sym (length-even_rows rows.start rows.step rows.len rows.count (signed rows.stride))
