-- In each arm the kind is the arm's, and its text is the literal.
use Rattle.std.proofs.Common.{ap, sym}
use Rattle.nd_base.specs.ErrorText.{shape_error_text}
use Rattle.nd_base.proofs.error.text_of.Goals as goal

pub returns-in-IncompatibleShape : goal.returns-in-IncompatibleShape
returns-in-IncompatibleShape c = ap shape_error_text (sym c.in-IncompatibleShape.is)

pub returns-in-IncompatibleLayout : goal.returns-in-IncompatibleLayout
returns-in-IncompatibleLayout c = ap shape_error_text (sym c.in-IncompatibleLayout.is)

pub returns-in-RangeLimited : goal.returns-in-RangeLimited
returns-in-RangeLimited c = ap shape_error_text (sym c.in-RangeLimited.is)

pub returns-in-OutOfBounds : goal.returns-in-OutOfBounds
returns-in-OutOfBounds c = ap shape_error_text (sym c.in-OutOfBounds.is)

pub returns-in-Unsupported : goal.returns-in-Unsupported
returns-in-Unsupported c = ap shape_error_text (sym c.in-Unsupported.is)

pub returns-in-Overflow : goal.returns-in-Overflow
returns-in-Overflow c = ap shape_error_text (sym c.in-Overflow.is)
