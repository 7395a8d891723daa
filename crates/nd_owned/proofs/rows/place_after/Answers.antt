-- A number of an `isize` from 0 on is a place.
use Rattle.std.proofs.Common.{rules, FitsSigned, pos, ◌+ℤ◌, arith}
use Rattle.std.specs.Int.{w64}
use Rattle.std.proofs.lemmas.Int.{to_z-of_z}
use Rattle.nd_owned.proofs.MovedRows.{place_of}
use Rattle.nd_owned.proofs.rows.place_after.Goals as goal

pub place_at-requires : goal.place_at-requires
place_at-requires c =
    let f : FitsSigned w64 c.args.row.stride = search rules in
    rw (to_z-of_z w64 c.args.row.stride f) (record {
      first = omega (arith, c.requires.first);
      there = place_of (pos c.args.place +ℤ c.args.row.stride) c.requires.in_bounds;
    })
