use Rattle.nd_access.specs.Cells.{span_of}
use Rattle.nd_access.proofs.cells.Cells.swap.Given as goal

abbrev pub ghost-lend_part : goal.ghost-lend_part
ghost-lend_part g a = span_of a._by.now 1 a.self.now.marks
