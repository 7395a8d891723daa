-- A list of as many axes as there are, each among them, has each of them once.
use Rattle.std.proofs.Common.{rules, ◌≡◌, ◌==◌, ◌||◌, ℕ, List, [], ◌∷◌, true, false, sym, ap, ◌∙◌, refl}
use Rattle.std.specs.List.{list_any}
use Rattle.std.proofs.lemmas.Bool.{false≢true}
use Rattle.std.proofs.lemmas.List.{length-map}
use Rattle.nd_base.specs.declared.axis.Axis.{Axis}
use Rattle.nd_dim.specs.AxesInOrder.{axis_numbers}
use Rattle.nd_dim.proofs.Laws.AxesInOrder.{order_by_axes}
use Rattle.ndarray_layout.proofs.strided.permuting.has_each_axis.Goals as goal

named : (axes : List Axis) (number : ℕ) → list_any (λ other. number == other) (axis_numbers axes) ≡ list_any (λ axis. number == axis.0) axes
named [] number = refl
named (axis ∷ axes) number = ap (λ rest. (number == axis.0) || rest) (named axes number)

pub returns-then-not-has_number : goal.returns-then-not-has_number
returns-then-not-has_number c =
    order_by_axes c.args.ndim (axis_numbers c.args.axes.now) false
    (length-map c.args.axes.now (λ axis. axis.0) ∙ search rules) (
      λ t. absurd (cc),
      λ each.
          absurd (false≢true (sym c.if-not-has_number.true ∙ c.has_number.ensures ∙ sym (named c.args.axes.now c.loop-number.number)
          ∙ each c.loop-number.number (search rules))),
    )

pub returns : goal.returns
returns c =
    order_by_axes c.args.ndim (axis_numbers c.args.axes.now) true
    (length-map c.args.axes.now (λ axis. axis.0) ∙ search rules)
    (λ t axis in_bounds. named c.args.axes.now axis ∙ c.loop-number.invariant axis (search rules), λ each. refl)
