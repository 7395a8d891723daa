-- What is left from the first coordinate on is cut after so many.
use Rattle.std.proofs.Common.{◌≡◌, Some, subst, ◌∙◌}
use Rattle.std.proofs.lemmas.Bool.{false≢true}
use Rattle.std.specs.Prelude.{slice_get}
use Rattle.ndarray_layout.specs.Memory.{NeedsNoMemory}
use Rattle.nd_lent.proofs.AlongAxis.{length_read}
use Rattle.nd_lent.proofs.ChunksAlong.{axes_of_rest, can_cut, cut_is_chunk}
use Rattle.nd_lent.proofs.views.axis_chunks.view_of_chunk.Goals as goal

pub returns-in_err-chunk-clause-memory : goal.returns-in_err-chunk-clause-memory
returns-in_err-chunk-clause-memory g c =
    let shape = c.args.view.now.shape in
    let axis = c.args.axis.0 in
    let there : slice_get shape axis ≡ Some c.axis_of-len.result = cc (c.axis_of-len.ensures, c.slice.ensures.list, c.dim.ensures.list) in
    let read = length_read shape axis there in
    let same = c.in_ok-duplicate.ensures.view in
    let second = c.in_ok-rest.ensures.second in
    let fits = can_cut axis c.args.size c.args.number same second c.min-count.ensures read c.requires.axis c.requires.some in
    let axes = axes_of_rest axis c.args.size c.args.number same second c.min-count.ensures read in
    λ few. absurd (false≢true (c.in_err-chunk.ensures.memory (c.in_err-chunk.ensures.fault ∙ fits)
    (subst (NeedsNoMemory g.D.FixedCount.NDIM) axes few)))

pub returns-clause-chunk : goal.returns-clause-chunk
returns-clause-chunk g c =
    let shape = c.args.view.now.shape in
    let axis = c.args.axis.0 in
    let there : slice_get shape axis ≡ Some c.axis_of-len.result = cc (c.axis_of-len.ensures, c.slice.ensures.list, c.dim.ensures.list) in
    cut_is_chunk axis c.args.size c.args.number c.in_ok-duplicate.ensures.view c.in_ok-rest.ensures.second c.min-count.ensures
    (length_read shape axis there) c.in_ok-chunk.ensures.first
