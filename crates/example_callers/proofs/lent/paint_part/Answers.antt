-- The part descends from the picture, so each of its pixels is one of the picture's, and every other pixel is none of the part's.
use Rattle.std.proofs.Common.{length, Some, subst}
use Rattle.ndarray_layout.specs.CroppedView.{crop_source}
use Rattle.ndarray_layout.specs.Dim.{lengths}
use Rattle.nd_lent.proofs.Laws.OwnedViews.{owned_descendant}
use Rattle.nd_lent.proofs.Laws.PartItems.{part_written}
use Rattle.nd_lent.specs.WrittenPart.{HasWrittenPart}
use Rattle.example_callers.proofs.lent.paint_part.Goals as goal

pub paint_view-requires : goal.paint_view-requires
paint_view-requires c = owned_descendant (length c.args.pixels.now) c.in-Some.ensures.kept c.requires

pub returns-in-Some-clause-painted : goal.returns-in-Some-clause-painted
returns-in-Some-clause-painted c = λ done.
    subst (λ part. HasWrittenPart (crop_source (lengths c.args.starts.now)) part.shape (λ index. Some c.args.pixel)
    (record { items = c.args.pixels.now; view = c.args.view }) (record { items = c.paint_view.new.pixels; view = c.args.view }))
    c.in-Some.ensures.cropped (part_written c.in-Some.ensures.kept c.paint_view.ensures c.requires.distinct)
