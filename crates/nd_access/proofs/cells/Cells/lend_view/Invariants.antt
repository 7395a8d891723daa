use Rattle.std.proofs.Common.{length}
use Rattle.nd_access.specs.Part.{marks_of}
use Rattle.nd_access.proofs.cells.Cells.lend_view.Given as goal

abbrev pub ghost-lend_part : goal.ghost-lend_part
ghost-lend_part g a = marks_of (length a.self.now.marks) a._by.now
