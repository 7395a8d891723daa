-- Laws of the list of indices of a shape: which they are, how many, and each of them once.
use Rattle.std.proofs.Common.{◌≡◌, ◌≢◌, ℕ, suc, ◌<◌, true, List, [], ◌∷◌, ◌++◌, get_or, map, refl, sym, ap}
use Rattle.std.proofs.Common.{◌∙◌, add-one, arith}
use Rattle.std.specs.List.{All, AllPairs, Contains, flat_map}
use Rattle.std.proofs.lemmas.List.{append-nil, nil_from_length}
use Rattle.std.proofs.lemmas.List.Concat.{flat_map-append}
use Rattle.std.proofs.lemmas.List.Elements.{All-contains}
use Rattle.nd_base.specs.declared.order.Order.{Order}
use Rattle.nd_base.proofs.Laws.Definitions.{below, indices, indices_in, is_index}
use Rattle.nd_base.proofs.Laws.Definitions.{flat_index_in, size}
use Rattle.nd_base.proofs.Laws.Below.{below_more}
use Rattle.nd_base.proofs.Laws.Lists.{map_same}
use Rattle.nd_base.proofs.Laws.FlatIndex.{is_index-index_of_flat_in, flat_index_in-index_of_flat_in, flat_index_in-lt-size}
use Rattle.nd_base.proofs.Laws.FlatIndex.{index_of_flat_in-flat_index_in}
pub use Rattle.nd_base.proofs.Laws.FlatIndex.{get_or-indices_in, length-indices_in}

-- ---- which
module _ (order : Order) (shape : List ℕ) where
  -- each item is an index of the shape
  pub All-indices_in : All (λ index. is_index shape index ≡ true) (indices_in order shape)
  All-indices_in k d h =
      let below_size : k < size shape = omega (arith, length-indices_in order shape) in
      ap (is_index shape) (get_or-indices_in order shape k d below_size) ∙ is_index-index_of_flat_in order shape k below_size

  -- what is in the list is an index of the shape
  pub is_index-from_Contains : (index : List ℕ) → Contains (indices_in order shape) index → is_index shape index ≡ true
  is_index-from_Contains index h =
      All-contains (λ x. is_index shape x ≡ true) (indices_in order shape) index All-indices_in h

  -- and each index of the shape is in the list
  pub Contains-indices_in : (index : List ℕ) → is_index shape index ≡ true → Contains (indices_in order shape) index
  Contains-indices_in index h =
      let r = flat_index_in order shape index in
      let within = flat_index_in-lt-size order shape index h in (
        r,
        omega (arith, within, length-indices_in order shape),
        get_or-indices_in order shape r index within
            ∙ index_of_flat_in-flat_index_in order shape index h,
      )

-- two functions that agree at each index of the shape agree on the list
pub map-indices_in : {B : Type 0} (order : Order) (f g : List ℕ → B) (shape : List ℕ)
    → ((index : List ℕ) → is_index shape index ≡ true → f index ≡ g index) → map f (indices_in order shape) ≡ map g (indices_in order shape)
map-indices_in order f g shape h =
    map_same f g (indices_in order shape) (λ k d l. h (get_or (indices_in order shape) k d) (All-indices_in order shape k d l))

-- a shape of size 0 has no index
pub indices_in_of_empty : (order : Order) (shape : List ℕ) → size shape ≡ 0 → indices_in order shape ≡ []
indices_in_of_empty order shape h = nil_from_length (indices_in order shape) (length-indices_in order shape ∙ h)

-- ---- each once
-- no two items are equal
pub AllPairs-indices_in : (order : Order) (shape : List ℕ) → AllPairs (λ index other. index ≢ other) (indices_in order shape)
AllPairs-indices_in order shape i j d h g e =
    let late : j < size shape = omega (arith, length-indices_in order shape) in
    let early : i < size shape = omega arith in
    let flat_indices = sym (flat_index_in-index_of_flat_in order shape i early)
    ∙ ap (flat_index_in order shape) (sym (get_or-indices_in order shape i d early) ∙ e ∙ get_or-indices_in order shape j d late)
    ∙ flat_index_in-index_of_flat_in order shape j late in
    omega arith

-- ---- one coordinate more of the first axis
-- it adds the indices that begin with that coordinate
pub indices_more : (i : ℕ) (lens : List ℕ) → indices (suc i ∷ lens) ≡ indices (i ∷ lens) ++ map (λ index. i ∷ index) (indices lens)
indices_more i lens =
    let row = λ (k : ℕ). map (λ index. k ∷ index) (indices lens) in
    ap (λ n. flat_map row (below n)) (sym (add-one i)) ∙ ap (flat_map row) (below_more i) ∙ flat_map-append row (below i) (i ∷ [])
    ∙ rw append-nil refl
