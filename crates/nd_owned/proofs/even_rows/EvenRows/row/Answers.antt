-- Each row begins at a place.
use Rattle.std.proofs.Common.{rules, FitsSigned}
use Rattle.std.specs.Int.{w64}
use Rattle.std.proofs.lemmas.Int.{to_z-of_z}
use Rattle.ndarray_layout.specs.Signed.{signed}
use Rattle.nd_owned.proofs.EvenRows.{first_start, start_of, steps_fit}
use Rattle.nd_owned.proofs.even_rows.EvenRows.row.Goals as goal

pub stride_offset-requires-clause-fits : goal.stride_offset-requires-clause-fits
stride_offset-requires-clause-fits c =
    let rows = c.args.self in
    steps_fit rows.start c.args.number rows.count (signed rows.stride) rows.starts c.requires

pub place_at-requires-clause-first : goal.place_at-requires-clause-first
place_at-requires-clause-first c =
    let rows = c.args.self in
    first_start rows.start c.args.number rows.count (signed rows.stride) rows.starts c.requires

pub place_at-requires-clause-there : goal.place_at-requires-clause-there
place_at-requires-clause-there c =
    let rows = c.args.self in
    let f : FitsSigned w64 c.stride_offset.result = search rules in
    rw (to_z-of_z w64 c.stride_offset.result f, c.stride_offset.ensures)
    (start_of rows.start c.args.number rows.count (signed rows.stride) rows.starts c.requires)
