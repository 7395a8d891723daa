-- A row begins where the index of its number lies, of the axes that move slower.
use Rattle.std.proofs.Common.{rules, ◌≡◌, ◌<◌, pos, ◌+ℤ◌, FitsSigned, to_z, of_z, inl, inr, ◌∙◌, arith}
use Rattle.std.specs.Int.{w64}
use Rattle.std.proofs.lemmas.Int.{ints, to_z-of_z}
use Rattle.nd_base.specs.FlatIndex.{index_of_flat_in}
use Rattle.nd_base.specs.Offset.{offset_of}
use Rattle.nd_base.specs.Signed.{all_signed, signed}
use Rattle.nd_base.specs.Size.{size}
use Rattle.ndarray_layout.specs.View.{IsView, view_of}
use Rattle.ndarray_layout.proofs.NthRow.{none_at, row_at_number, row_is_view, row_within, slower}
use Rattle.ndarray_layout.proofs.Laws.View.{size_fits}
use Rattle.ndarray_layout.proofs.strided.Strided.row_of_number.Given.{Over}
use Rattle.ndarray_layout.proofs.strided.Strided.row_of_number.Goals as goal
use Rattle.ndarray_layout.proofs.strided.Strided.row_of_number.Goals.{After-signed, then-axis-eq0-via-then-axis-eq0}
use Rattle.ndarray_layout.proofs.strided.Strided.row_of_number.Goals.{then-axis-eq0-via-else-axis-eq0+then-number-product}

pub product-requires : goal.product-requires
product-requires g c =
    let v : IsView (view_of c.self.inside.start c.slice.result.now c.slice-2.result.now) =
    rw (c.slice.ensures.list, c.slice-2.ensures.list) c.self.invariant in
    size_fits (slower c.fastest_axis-axis.ensures v)

pub returns-then-axis-eq0-clause-row : goal.returns-then-axis-eq0-clause-row
returns-then-axis-eq0-clause-row g c =
    let v : IsView (view_of c.self.inside.start c.slice.result.now c.slice-2.result.now) =
    rw (c.slice.ensures.list, c.slice-2.ensures.list) c.self.invariant in
    rw (← c.self.view_is, ← c.slice.ensures.list, ← c.slice-2.ensures.list) (none_at c.fastest_axis-axis.ensures v
    (elim c.then-axis-eq0.branch [
      | then-axis-eq0-via-then-axis-eq0 w ↦ inl (omega (arith, w.if-axis-eq0.true))
      | then-axis-eq0-via-else-axis-eq0+then-number-product w ↦ inr (omega (arith, w.product.ensures, w.if-number-product.true))
    ]))

pub offset_of_flat-offset-requires-clause-valid : goal.offset_of_flat-offset-requires-clause-valid
offset_of_flat-offset-requires-clause-valid g c =
    let v : IsView (view_of c.self.inside.start c.slice.result.now c.slice-2.result.now) =
    rw (c.slice.ensures.list, c.slice-2.ensures.list) c.self.invariant in
    (slower c.fastest_axis-axis.ensures v).valid

pub offset_place-requires-clause-there : goal.offset_place-requires-clause-there
offset_place-requires-clause-there g c =
    let f : FitsSigned w64 c.offset_of_flat-offset.result = search rules in
    let v : IsView (view_of c.self.inside.start c.slice.result.now c.slice-2.result.now) =
    rw (c.slice.ensures.list, c.slice-2.ensures.list) c.self.invariant in
    let some : 0 < c.fastest_axis-axis.result.len = omega (arith, c.if-axis-eq0.false) in
    let below : c.args.number < size c.fastest_axis-axis.result.lens.now = omega (arith, c.product.ensures, c.if-number-product.false) in
    let here = row_within c.fastest_axis-axis.ensures v some below in
    let is = to_z-of_z w64 c.offset_of_flat-offset.result f in
    let known = c.offset_of_flat-offset.ensures in
    (omega (arith, ints, is, known, here.0), omega (arith, ints, is, known, here.1))

-- ---- the row that is given
here : (g : Over) (c : After-signed g) → IsView (view_of c.self.inside.start c.slice.result.now c.slice-2.result.now)
here g c = rw (c.slice.ensures.list, c.slice-2.ensures.list) c.self.invariant

some : (g : Over) (c : After-signed g) → 0 < c.fastest_axis-axis.result.len
some g c = omega (arith, c.if-axis-eq0.false)

below : (g : Over) (c : After-signed g) → c.args.number < size c.fastest_axis-axis.result.lens.now
below g c = omega (arith, c.product.ensures, c.if-number-product.false)

begins : (g : Over) (c : After-signed g)
    → pos c.offset_place.result ≡ pos c.self.inside.start +ℤ offset_of (all_signed c.fastest_axis-axis.result.strides.now)
    (index_of_flat_in c.args.order c.fastest_axis-axis.result.lens.now c.args.number)
begins g c =
    let f : FitsSigned w64 c.offset_of_flat-offset.result = search rules in
    let is = to_z-of_z w64 c.offset_of_flat-offset.result f in
    omega (arith, ints, is, c.offset_of_flat-offset.ensures, c.offset_place.ensures)

stride : (g : Over) (c : After-signed g) → to_z w64 (of_z w64 c.signed.result) ≡ signed c.fastest_axis-axis.result.stride
stride g c =
    let f : FitsSigned w64 c.signed.result = search rules in
    to_z-of_z w64 c.signed.result f ∙ c.signed.ensures.same_bits

pub returns-clause-row : goal.returns-clause-row
returns-clause-row g c =
    rw (← c.self.view_is, ← c.slice.ensures.list, ← c.slice-2.ensures.list, stride g c)
    (row_at_number c.fastest_axis-axis.ensures (here g c) (some g c) (below g c) (begins g c))

pub returns-clause-row_is_view : goal.returns-clause-row_is_view
returns-clause-row_is_view g c =
    rw (stride g c) (row_is_view c.fastest_axis-axis.ensures (here g c) (some g c) (below g c) (begins g c))
