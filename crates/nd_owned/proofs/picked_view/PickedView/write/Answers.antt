-- The places of a part are those of its view.
use Rattle.std.proofs.Common.{◌≢◌, List, sym, subst}
use Rattle.std.specs.List.{AllPairs}
use Rattle.nd_owned.specs.declared.picked_view.PickedView.{PickedView}
use Rattle.nd_owned.specs.private.PickedView.{picked_places}
use Rattle.nd_owned.specs.private.Written.{HasWritten}
use Rattle.nd_owned.proofs.picked_view.PickedView.write.Goals as goal

-- what a write at a part leaves
abbrev Leaves : {T : Type 0} → List T → List T → List T → PickedView → Type 0
Leaves items old new part = AllPairs (λ one other. one ≢ other) (picked_places part) → HasWritten (picked_places part) items old new

pub returns-in-Line : goal.returns-in-Line
returns-in-Line g c =
    subst (Leaves c.args.items.now c.args.stored.now c.write_view.new.stored) (sym c.in-Line.is) c.write_view.ensures

pub returns-in-Plane : goal.returns-in-Plane
returns-in-Plane g c =
    subst (Leaves c.args.items.now c.args.stored.now c.write_view-in-Plane.new.stored) (sym c.in-Plane.is) c.write_view-in-Plane.ensures

pub returns-in-Any : goal.returns-in-Any
returns-in-Any g c =
    subst (Leaves c.args.items.now c.args.stored.now c.write_view-in-Any.new.stored) (sym c.in-Any.is) c.write_view-in-Any.ensures
