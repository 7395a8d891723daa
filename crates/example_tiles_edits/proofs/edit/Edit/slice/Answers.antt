-- An edit that fits is the slice that it says.
use Rattle.std.proofs.Common.{◌≡◌, Bool, true, false, cond, Some, None, [], ◌∷◌, refl, sym, subst}
use Rattle.example_tiles_edits.specs.declared.picture.Extent.{Extent}
use Rattle.example_tiles_edits.specs.Edits.{extent_after, fits}
use Rattle.example_tiles_edits.specs.Views.{Leave}
use Rattle.example_tiles_edits.proofs.Leaving.{leave_one}
use Rattle.example_tiles_edits.proofs.edit.Edit.slice.Goals as goal

if_some : (b : Bool) (x y : Extent) → Some x ≡ cond b (Some y) None → (b ≡ true) × (x ≡ y)
if_some true x y e = (refl, cc)
if_some false x y e = absurd (cc)

pub returns-clause-left : goal.returns-clause-left
returns-clause-left c =
    let edit = c.args.self in
    let extent = c.args.extent in
    let fit = if_some (fits extent edit) c.in_ok-left.left (extent_after extent edit) c.in_ok-left.ensures in
    let slice = c.in-Ok.ensures in
    subst (λ left. Leave (edit ∷ []) extent c.args.view.now left c.in-Ok.view) (sym fit.1)
    (leave_one extent edit fit.0 c.elements.ensures c.requires slice.sliced slice.kept)
