-- The windows are a view of the layout, wherever it starts.
use Rattle.std.proofs.Common.{rules}
use Rattle.ndarray_layout_c.proofs.Kept.{windows_kept, returned_ok}
use Rattle.ndarray_layout_c.proofs.blocks.nd_windows.Goals as goal

pub returns-clause-kept : goal.returns-clause-kept
returns-clause-kept c returned =
    let is_ok = returned_ok (search rules) returned in
    windows_kept c.args.strides.now c.write_blocks.new.new_strides c.args.window.now (c.write_blocks.ensures.fits is_ok)
    (c.write_blocks.ensures.shape is_ok) (c.write_blocks.ensures.strides is_ok)
