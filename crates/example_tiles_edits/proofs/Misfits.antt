-- The first misfit, edit by edit.
use Rattle.std.proofs.Common.{◌≡◌, ℕ, ◌+◌, true, Option, Some, None, List, ◌∷◌, refl, sym, ap, ◌∙◌, arith}
use Rattle.std.specs.Option.{option_map}
use Rattle.example_tiles_edits.specs.declared.edit.Edit.{Edit}
use Rattle.example_tiles_edits.specs.declared.edit.Misfit.{Misfit}
use Rattle.example_tiles_edits.specs.declared.picture.Extent.{Extent}
use Rattle.example_tiles_edits.specs.Edits.{extent_after, first_misfit, fits, one_later}

-- a misfit among the edits from one on, counted from the first of all
abbrev pub counted_from : ℕ → Misfit → Misfit
counted_from at misfit = record { number = misfit.number + at; edit = misfit.edit; extent = misfit.extent }

abbrev pub from_first : ℕ → Option Misfit → Option Misfit
from_first at misfit = option_map (counted_from at) misfit

counted_more : (at : ℕ) (o : Option Misfit) → from_first (at + 1) o ≡ from_first at (option_map one_later o)
counted_more at None = refl
counted_more at (Some m) = ap (λ n. Some (record { number = n; edit = m.edit; extent = m.extent })) (omega arith)

-- where the first of those left fits, the first misfit is among the others
pub one_fits : {edit : Edit} {left rest : List Edit} {after : Extent} (extent : Extent) (at : ℕ)
    → left ≡ edit ∷ rest → fits extent edit ≡ true
    → after ≡ extent_after extent edit → from_first (at + 1) (first_misfit rest after) ≡ from_first at (first_misfit left extent)
one_fits {edit} {left} {rest} {after} extent at split fit is =
    let here : first_misfit (edit ∷ rest) extent ≡ option_map one_later (first_misfit rest (extent_after extent edit)) = rw fit refl in
    ap (λ e. from_first (at + 1) (first_misfit rest e)) is
    ∙ counted_more at (first_misfit rest (extent_after extent edit))
    ∙ ap (from_first at) (sym here)
    ∙ ap (λ es. from_first at (first_misfit es extent)) (sym split)
