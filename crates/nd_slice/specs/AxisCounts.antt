-- Which slice arguments are for a shape of one count of axes, and leave one of another.
use Rattle.std.specs.Prelude.{ℕ, ◌==◌, pos, negsuc, Option, Some, None, List, [], ◌∷◌, refl}
use Rattle.std.proofs.Common.{ap}
use Rattle.std.proofs.lemmas.Bool.{true≢false}
use Rattle.nd_base.specs.Lengths.{IsCount}
use Rattle.nd_slice.specs.declared.elem.SliceInfoElem.{SliceInfoElem}
use Rattle.nd_slice.specs.declared.elem.SliceInfoElem.TheVariants as elem
use Rattle.nd_slice.specs.SliceFault.{in_count, out_count}

-- an argument is for as many axes as before says, and leaves as many as after says; either may allow any count
pub record HasCounts (before after : Option ℕ) (elems : List SliceInfoElem) : Type 0 where
  pub in_fits : IsCount before (in_count elems)
  pub out_fits : IsCount after (out_count elems)

-- examples
row_of_a_matrix : HasCounts (Some 2) (Some 1) (elem.Index (pos 0) ∷ elem.Slice (pos 1) None (pos 1) ∷ [])
row_of_a_matrix = record { in_fits = refl; out_fits = refl }

any_count : HasCounts None (Some 2) (elem.NewAxis ∷ elem.Slice (pos 0) None (negsuc 0) ∷ [])
any_count = record { in_fits = tt; out_fits = refl }

row_is_no_matrix : HasCounts (Some 2) (Some 2) (elem.Index (pos 0) ∷ elem.Slice (pos 1) None (pos 1) ∷ []) → ⊥
row_is_no_matrix counts = true≢false (ap (λ count. count == 1) counts.out_fits)

matrix_is_not_for_one_axis : HasCounts (Some 1) None (elem.Index (pos 0) ∷ elem.Slice (pos 1) None (pos 1) ∷ []) → ⊥
matrix_is_not_for_one_axis counts = true≢false (ap (λ count. count == 2) counts.in_fits)
