-- Without new axes the element for an axis has the number of the axis.
use Rattle.std.proofs.Common.{pos, None, sym, ◌∙◌}
use Rattle.nd_slice.proofs.Definitions.{SliceInfoElem}
use Rattle.nd_slice.specs.declared.elem.SliceInfoElem.TheVariants as elem
use Rattle.nd_slice.proofs.Laws.SliceFault.{elements_of_no_fault}
use Rattle.nd_slice.proofs.Laws.RangesApart.{elem_on-at}
use Rattle.nd_slice.proofs.ranges_apart.elem_on.Goals as goal

-- what stands past the end of a list of elements
abbrev nothing : SliceInfoElem
nothing = elem.Slice (pos 0) None (pos 0)

pub returns-clause-elem : goal.returns-clause-elem
returns-clause-elem c =
    let parts = elements_of_no_fault c.args.fit c.args.shape.now c.args.slice.now c.requires.fits in
    sym (elem_on-at nothing c.args.shape.now c.args.slice.now c.args.axis
    (parts.0 ∙ sym c.if-slice-shape.false) c.if-slice-shape.false c.if-axis-shape.false)
