-- Views of accepted layouts satisfy the no-alias rule: along the strides that a shape has by itself, and in owned mode along any.
use Rattle.std.proofs.Common.{◌≡◌, ◌⊎◌, ℕ, ℤ, true, false, None, List, inl, inr, arith, subst}
use Rattle.std.proofs.lemmas.Grind.{common_steps}
use Rattle.nd_base.specs.declared.order.Order.TheVariants.{RowMajor, ColumnMajor}
use Rattle.nd_base.proofs.Laws.Definitions.{all_signed, is_empty}
use Rattle.nd_shape.specs.Acceptance.{acceptance}
use Rattle.nd_shape.specs.AcceptanceByStrides.{acceptance_by_strides}
use Rattle.nd_shape.specs.NoAlias.{satisfies_no_alias_rule, SatisfiesNoAliasRule}
use Rattle.nd_shape.specs.ShapeBuilder.{custom_strides, strides_list}
use Rattle.nd_shape.specs.declared.acceptance.CanIndexCheckMode.{CanIndexCheckMode}
use Rattle.nd_shape.specs.declared.acceptance.CanIndexCheckMode.TheVariants.{OwnedMutable}
use Rattle.nd_shape.specs.declared.shape_builder.Strides.{Strides}
use Rattle.nd_shape.specs.declared.shape_builder.Strides.TheVariants.{C, F, Custom}
use Rattle.nd_shape.proofs.Laws.AcceptanceByStrides.{standard_size}
use Rattle.nd_shape.proofs.Laws.NoAlias.{rule_holds}
use Rattle.nd_shape.proofs.Laws.StandardStrides.{standard_satisfies_rule}

-- an element's size in bytes, and how many elements there are
module _ (elem_size len : ℕ) where
  -- a layout with an index that is accepted to be owned
  passes : (shape : List ℕ) (strides : List ℤ) → acceptance elem_size len OwnedMutable shape strides ≡ None → is_empty shape ≡ false
      → satisfies_no_alias_rule shape strides ≡ true
  passes shape strides h some = grind (arith, common_steps)

  -- and a shape by its own strides or by given ones
  pub by_strides_satisfy : {D : Type 0} (list : D → List ℕ) {mode : CanIndexCheckMode} (shape : List ℕ) (strides : Strides D)
      → acceptance_by_strides list elem_size len mode shape strides ≡ None → (custom_strides strides ≡ None) ⊎ (mode ≡ OwnedMutable)
      → is_empty shape ≡ false → SatisfiesNoAliasRule shape (all_signed (strides_list list shape strides))
  by_strides_satisfy list shape C h why some = standard_satisfies_rule RowMajor shape (standard_size len shape h) some
  by_strides_satisfy list shape F h why some = standard_satisfies_rule ColumnMajor shape (standard_size len shape h) some
  by_strides_satisfy list shape (Custom strides) h why some =
      elim why [
        | inl none ↦ absurd (cc)
        | inr owned ↦ rule_holds shape (all_signed (list strides)) (passes shape (all_signed (list strides))
            (subst (λ m. acceptance elem_size len m shape (all_signed (list strides)) ≡ None) owned h) some)
      ]
