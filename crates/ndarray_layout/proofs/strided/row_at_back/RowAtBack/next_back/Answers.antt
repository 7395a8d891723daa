-- The place before the last one lies a stride back.
use Rattle.std.proofs.Common.{◌≡◌, ◌-◌, ◌<◌, pos, ◌+ℤ◌, ◌-ℤ◌, ◌*ℤ◌, FitsSigned, to_z, of_z, w64, arith}
use Rattle.std.proofs.lemmas.Int.{ints, to_z-of_z}
use Rattle.ndarray_layout.proofs.RowAtBack.{one_back, place_left}
use Rattle.ndarray_layout.proofs.strided.row_at_back.RowAtBack.next_back.Goals as goal

pub offset_place-self-inside-requires-clause-there : goal.offset_place-self-inside-requires-clause-there
offset_place-self-inside-requires-clause-there c =
    let row = c.self.inside.row in
    let some : 0 < row.len = omega (arith, c.if-self-eq0.false) in
    let is : to_z w64 (of_z w64 row.stride) ≡ row.stride = omega (arith, ints) in
    let on = one_back c.self.invariant some in
    let at = place_left row c.self.view_is c.requires (row.len - 1) (omega (arith, some)) in
    let here = c.self.invariant.here some in
    let fits : FitsSigned w64 (pos 0 -ℤ to_z w64 (of_z w64 row.stride)) = omega (arith, ints, is, on, here, at.0, at.1) in
    let back = to_z-of_z w64 (pos 0 -ℤ to_z w64 (of_z w64 row.stride)) fits in
    (omega (arith, ints, is, back, on, at.0), omega (arith, ints, is, back, on, at.1))

pub invariant_of-self : goal.invariant_of-self
invariant_of-self c =
    let row = c.self.inside.row in
    let some : 0 < row.len = omega (arith, c.if-self-eq0.false) in
    let is : to_z w64 (of_z w64 row.stride) ≡ row.stride = omega (arith, ints) in
    let on = one_back c.self.invariant some in
    let at = place_left row c.self.view_is c.requires (row.len - 1) (omega (arith, some)) in
    let here = c.self.invariant.here some in
    let fits : FitsSigned w64 (pos 0 -ℤ to_z w64 (of_z w64 row.stride)) = omega (arith, ints, is, on, here, at.0, at.1) in
    let back = to_z-of_z w64 (pos 0 -ℤ to_z w64 (of_z w64 row.stride)) fits in
    let to : pos c.offset_place-self-inside.result ≡ pos row.start +ℤ (pos (row.len - 1) *ℤ row.stride) =
    omega (arith, ints, is, back, on, c.offset_place-self-inside.ensures) in
    record { place = λ _. to; here = λ _. omega (arith, ints, to, at.1) }
