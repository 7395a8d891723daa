use Rattle.std.proofs.Common.{length}
use Rattle.nd_access.specs.Part.{marks_of}
use Rattle.nd_access.proofs.cells.Cells.take_view.Given as goal

abbrev pub ghost-take_part : goal.ghost-take_part
ghost-take_part g a = marks_of (length a.self.now.marks) a._by.now
