-- Tests of layouts, axis by axis.
use Rattle.std.proofs.Common.{Fits, w64, ◌≡◌, ◌<◌, ◌≤◌, ◌^◌, ◌+◌, ◌*◌, ◌↔◌, ℕ, pos, Bool, true, false, List, [], ◌∷◌, length}
use Rattle.std.proofs.Common.{get_or, map, cond, refl, ap, sym, ◌∙◌, arith, mul-one}
use Rattle.std.specs.List.{filter, slice_index}
use Rattle.std.specs.Cmp.Rules.{signed_items}
use Rattle.std.specs.Prelude.{IsTrue}
use Rattle.std.proofs.lemmas.Bool.Decides.{same_from_decides}
use Rattle.std.proofs.lemmas.Int.{of_z-to_z}
use Rattle.std.proofs.lemmas.List.{map-append, length-map, ext_get_or, get_or-map}
use Rattle.std.proofs.lemmas.List.Elements.{filter-append}
use Rattle.nd_base.proofs.Laws.Definitions.{below, all_signed, signed, unsigned, limit, nonzero_size, size}
use Rattle.nd_base.proofs.Laws.Below.{below_more}
use Rattle.nd_base.proofs.Laws.Signed.{all_signed_small}
use Rattle.nd_dim.specs.Contiguous.{has_default_strides}
use Rattle.nd_dim.specs.Strides.{default_strides}
use Rattle.nd_dim.proofs.Laws.Strides.{default_count, default_small}
use Rattle.nd_base.proofs.Laws.Size.{size-append}

one_chosen : (b : Bool) (f : ℕ → ℕ) (n : ℕ) → size (map f (cond b (n ∷ []) [])) ≡ cond b (f n) 1
one_chosen true f n = mul-one (f n)
one_chosen false f n = refl

module _ (p : ℕ → Bool) (lens : List ℕ) (n : ℕ) where
  -- one number more: the chosen lengths gain that of its axis, or not
  pub chosen_more : size (map (slice_index lens) (filter p (below (n + 1))))
      ≡ size (map (slice_index lens) (filter p (below n))) * cond (p n) (get_or lens n 0) 1
  chosen_more =
      ap (λ xs. size (map (slice_index lens) (filter p xs))) (below_more n)
      ∙ ap (λ xs. size (map (slice_index lens) xs)) (filter-append p (below n) (n ∷ []))
      ∙ ap size (map-append (slice_index lens) (filter p (below n)) (cond (p n) (n ∷ []) []))
      ∙ size-append (map (slice_index lens) (filter p (below n))) (map (slice_index lens) (cond (p n) (n ∷ []) []))
      ∙ ap (λ m. size (map (slice_index lens) (filter p (below n))) * m) (one_chosen (p n) (slice_index lens) n)

  pub chosen_taken : (whole : ℕ) → p n ≡ true → whole ≡ size (map (slice_index lens) (filter p (below n)))
      → whole * get_or lens n 0 ≡ size (map (slice_index lens) (filter p (below (n + 1))))
  chosen_taken whole chosen e = rw (chosen_more, chosen, e) refl

  pub chosen_left : (whole : ℕ) → p n ≡ false → whole ≡ size (map (slice_index lens) (filter p (below n)))
      → whole ≡ size (map (slice_index lens) (filter p (below (n + 1))))
  chosen_left whole passed e = rw (chosen_more, passed, e) (sym (mul-one _))

small_from_signed : (m n : ℕ) → m < 2 ^ 64 → signed m ≡ pos n → m ≡ n
small_from_signed m n h e = sym (of_z-to_z w64 m h) ∙ ap unsigned e

module _ (lens strides : List ℕ) where
  signed_defaults : nonzero_size lens ≤ limit → strides ≡ default_strides lens → all_signed strides ≡ map pos (default_strides lens)
  signed_defaults top e =
      ap all_signed e
      ∙ all_signed_small (default_strides lens) (λ k h. default_small lens k top (omega (arith, default_count lens)))

  defaults_from_signed : ((k : ℕ) → Fits w64 (get_or strides k 0)) → all_signed strides ≡ map pos (default_strides lens)
      → strides ≡ default_strides lens
  defaults_from_signed fit e =
      let count = sym (length-map strides signed) ∙ ap length e ∙ length-map (default_strides lens) pos in
      ext_get_or 0 strides (default_strides lens) count (λ k h.
      let same = sym (get_or-map signed strides k 0 (pos 0) h) ∙ ap (λ xs. get_or xs k (pos 0)) e
      ∙ get_or-map pos (default_strides lens) k 0 (pos 0) (omega arith) in
      small_from_signed (get_or strides k 0) (get_or (default_strides lens) k 0) (fit k).fits same)

  -- the test of the definition answers what the code's does
  pub default_test : (r : Bool) → ((k : ℕ) → Fits w64 (get_or strides k 0)) → nonzero_size lens ≤ limit
      → (IsTrue r ↔ (strides ≡ default_strides lens)) → has_default_strides lens (all_signed strides) ≡ r
  default_test r fit top h =
      same_from_decides (has_default_strides lens (all_signed strides)) r
      (signed_items (all_signed strides) (map pos (default_strides lens)))
      (λ t. signed_defaults top (h.0 t), λ e. h.1 (defaults_from_signed fit e))
