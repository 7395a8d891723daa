-- One edit more, which fits, leaves the others; in the end none is left.
use Rattle.std.proofs.Common.{◌≡◌, ℕ, ◌+◌, ◌<◌, List, [], ◌∷◌, length, get_or, drop, drop-cons, add-one, refl}
use Rattle.std.proofs.Common.{sym, ap, ◌∙◌, subst}
use Rattle.std.specs.Prelude.{is_some}
use Rattle.std.proofs.lemmas.List.{drop_all}
use Rattle.example_tiles_edits.specs.declared.edit.Edit.{Edit}
use Rattle.example_tiles_edits.specs.Edits.{first_misfit}
use Rattle.example_tiles_edits.specs.Views.{Leave}
use Rattle.example_tiles_edits.proofs.Leaving.{leave_more, leave_none}
use Rattle.example_tiles_edits.proofs.Misfits.{from_first, one_fits}
use Rattle.example_tiles_edits.proofs.editing.view_after.Goals as goal

first_left : (edits : List Edit) (at : ℕ) (d : Edit) → at < length edits → drop at edits ≡ get_or edits at d ∷ drop (at + 1) edits
first_left edits at d there = rw (add-one, drop-cons edits at d) refl

pub loop-at-preserved : goal.loop-at-preserved
loop-at-preserved c =
    let before = c.loop-at.invariant in
    let edits = c.args.edits.now in
    let at = c.loop-at.at in
    let found = c.in_ok-extent.ensures.ok_part in
    let one = rw found at c.slice.ensures.left in
    let in_bounds = rw found at c.slice.ensures.in_bounds in
    let fit = sym c.slice.ensures.fits ∙ ap is_some found in
    let there : at < length edits = c.loop-at-test.true in
    record {
      misfit = one_fits c.loop-at.extent at (first_left edits at _ there) fit one.is_left ∙ before.misfit;
      shape = one.shape;
      goes_on = λ left after more. before.goes_on left after
          (subst (λ es. Leave es c.loop-at.extent c.loop-at.view left after) (sym (first_left edits at _ there)) (leave_more one more));
      in_bounds = λ len within. in_bounds len (before.in_bounds len within);
    }

pub returns-clause-left : goal.returns-clause-left
returns-clause-left c =
    let before = c.loop-at.invariant in
    let extent = c.loop-at.extent in
    let view = c.loop-at.view in
    let none : drop c.loop-at.at c.args.edits.now ≡ [] = drop_all c.loop-at.at c.args.edits.now c.loop-at-test.false in (
      sym before.misfit ∙ ap (λ es. from_first c.loop-at.at (first_misfit es extent)) none,
      before.goes_on extent view
          (subst (λ es. Leave es extent view extent view) (sym none) (leave_none extent view before.shape)),
    )
