-- Each tile is a part of all pixels, for no other is out, and it is painted over those before.
use Rattle.std.proofs.Common.{rules, ◌≡◌, ◌⊎◌, ◌<◌, ◌+◌, ◌-◌, ◌++◌, ℕ, zero, suc, ℤ, pos, negsuc, true, Some, List}
use Rattle.std.proofs.Common.{◌∷◌, length, get_or, replicate, refl, sym, ap, subst, ◌∙◌, inl, inr, arith}
use Rattle.std.specs.List.{All, Contains}
use Rattle.std.proofs.Math.Seq.{get_or-append_seam}
use Rattle.std.proofs.lemmas.List.{get_or-append-add, length-append}
use Rattle.ndarray_layout.specs.declared.Order.TheVariants.{RowMajor}
use Rattle.ndarray_layout.specs.Indices.{is_index}
use Rattle.ndarray_layout.specs.View.{View, place_at, view_places}
use Rattle.nd_lent.proofs.Laws.FlatItems.{item_of_index}
use Rattle.nd_lent.proofs.Laws.Lists.{other_default}
use Rattle.nd_lent.proofs.Laws.Marks.{owned_is_part}
use Rattle.nd_lent.proofs.Laws.PutBackItems.{part_put_back}
use Rattle.nd_lent.specs.HasItems.{HasItemsOf}
use Rattle.nd_lent.specs.Items.{IsOwned, item_at, item_at_place}
use Rattle.nd_lent.specs.Part.{IsPart}
use Rattle.example_callers.proofs.tiles.paint_tiles.Goals as goal
use Rattle.nd_lent.specs.Lent.{access_of}

-- a view has no index at a place
abbrev IsFree : ℤ → View × ℕ → Type 0
IsFree place tile = Contains (view_places RowMajor tile.0) place → ⊥

-- an index of a tile has the tile's colour
abbrev HasColour : List ℕ → List ℕ → View × ℕ → Type 0
HasColour items index tile = item_at (record { items = items; view = tile.0 }) index ≡ Some tile.1

-- of so many tiles the last one that has a pixel gives it its colour
abbrev ArePainted : List (View × ℕ) → ℕ → List ℕ → Type 0
ArePainted tiles many items = (k : ℕ) (d : View × ℕ) (index : List ℕ) → k < many → is_index (get_or tiles k d).0.shape index ≡ true
    → ((j : ℕ) → k < j → j < many → IsFree (place_at (get_or tiles k d).0 index) (get_or tiles j d))
    → HasColour items index (get_or tiles k d)

-- ---- one more tile
before_or_last : (k many : ℕ) → k < many + 1 → (k < many) ⊎ (k ≡ many)
before_or_last zero zero below = inr refl
before_or_last zero (suc many) below = inl (omega arith)
before_or_last (suc k) zero below = absurd (omega (arith, below))
before_or_last (suc k) (suc many) below = elim (before_or_last k many (omega (arith, below))) [
  | inl less ↦ inl (omega (arith, less))
  | inr same ↦ inr (ap suc same)
]

module _ (tile : View × ℕ) {before after : List ℕ}
    (has : HasItemsOf (λ index. Some tile.1) (record { items = before; view = tile.0 }) (record { items = after; view = tile.0 })) where
  stays_at : (z : ℤ) → IsFree z tile → item_at_place after z ≡ item_at_place before z
  stays_at (pos place) free = has.spare place free
  stays_at (negsuc below) free = refl

  -- a pixel that it hasn't is as before
  stays : (other : View × ℕ) (index : List ℕ) → is_index other.0.shape index ≡ true → IsFree (place_at other.0 index) tile
      → HasColour before index other → HasColour after index other
  stays other index here free so_far =
      item_of_index (record { items = after; view = other.0 }) index here
      ∙ stays_at (place_at other.0 index) free
      ∙ sym (item_of_index (record { items = before; view = other.0 }) index here)
      ∙ so_far

  one_painted : (tiles : List (View × ℕ)) (many : ℕ) → many < length tiles → tile ≡ get_or tiles many tile
      → ArePainted tiles many before → ArePainted tiles (many + 1) after
  one_painted tiles many below is so_far k d index early here free =
      let at : tile ≡ get_or tiles many d = is ∙ other_default tiles many tile d below in
      elim (before_or_last k many early) [
        | inl less ↦ stays (get_or tiles k d) index here
            (subst (IsFree (place_at (get_or tiles k d).0 index)) (sym at) (free many less (omega arith)))
            (so_far k d index less here (λ j later soon. free j later (omega (arith, soon))))
        | inr same ↦ subst (λ other. is_index other.0.shape index ≡ true → HasColour after index other)
            (at ∙ ap (λ m. get_or tiles m d) (sym same)) (λ mine. has.items index mine) here
      ]

-- ---- all tiles
all_painted : (tiles : List (View × ℕ)) (many : ℕ) (items : List ℕ) → many ≡ length tiles → ArePainted tiles many items
    → (earlier later : List (View × ℕ)) (tile : View × ℕ) → tiles ≡ earlier ++ (tile ∷ later) → (index : List ℕ)
    → is_index tile.0.shape index ≡ true → All (IsFree (place_at tile.0 index)) later → HasColour items index tile
all_painted tiles many items all painted earlier later tile split index here free =
    let k = length earlier in
    let at : get_or tiles k tile ≡ tile = ap (λ xs. get_or xs k tile) split ∙ get_or-append_seam earlier tile later tile in
    let count : length tiles ≡ k + suc (length later) = ap length split ∙ length-append earlier (tile ∷ later) in
    subst (HasColour items index) at
    (painted k tile index (omega (arith, all, count)) (subst (λ other. is_index other.0.shape index ≡ true) (sym at) here)
    (λ j after soon.
    let m : ℕ = j - (k + 1) in
    let far : j ≡ k + suc m = omega (arith, after) in
    let next : get_or tiles j tile ≡ get_or later m tile =
    ap (λ xs. get_or xs j tile) split ∙ ap (λ i. get_or (earlier ++ (tile ∷ later)) i tile) far
    ∙ get_or-append-add earlier (tile ∷ later) (suc m) tile in
    subst (IsFree (place_at (get_or tiles k tile).0 index)) (sym next)
    (subst (λ other. IsFree (place_at other.0 index) (get_or later m tile)) (sym at)
    (free m tile (omega (arith, far, soon, all, count))))))

-- in the same list
as_last : {now last : List ℕ} (index : List ℕ) (tile : View × ℕ) → now ≡ last → HasColour last index tile → HasColour now index tile
as_last index tile same has = subst (λ items. HasColour items index tile) (sym same) has

-- ---- the goals
is_owned : (count : ℕ) (tiles : List (View × ℕ)) (i : ℕ) (tile : View × ℕ) → i < length tiles → tile ≡ get_or tiles i tile
    → All (λ other. IsOwned count other.0) tiles → IsOwned count tile.0
is_owned count tiles i tile below is owned = subst (λ (other : View × ℕ). IsOwned count other.0) (sym is) (owned i tile below)

pub take-part-requires : goal.take-part-requires
take-part-requires c =
    let n : ℕ = length c.args.pixels.now in
    let tile : View × ℕ = c.tile-item.result in
    let at : c.in_ok-duplicate.field-0 ≡ tile.0 = search rules in
    let marks : c.loop-tile.rest.access.marks ≡ replicate n true = search rules in
    let owned = is_owned n c.args.tiles.now c.loop-tile.tile-index tile c.loop-tile-test.true c.tile-item.is c.requires.owned in
    subst (λ ours. IsPart ours c.in_ok-duplicate.field-0) (sym marks)
    (subst (λ view. IsPart (replicate n true) view) (sym at) (owned_is_part n tile.0 owned))

pub loop-tile-preserved : goal.loop-tile-preserved
loop-tile-preserved c =
    let n : ℕ = length c.args.pixels.now in
    let i : ℕ = c.loop-tile.tile-index in
    let tile : View × ℕ = c.tile-item.result in
    let owned = is_owned n c.args.tiles.now i tile c.loop-tile-test.true c.tile-item.is c.requires.owned in
    let now : List ℕ = c.put_back.new.self.items in
    let left : List ℕ = c.take-part.new.self.items in
    let view : c.take-part.result.0.view ≡ tile.0 = search rules in
    let kept : left ≡ c.loop-tile.rest.items = c.take-part.ensures.rest_items in
    let put = part_put_back n tile.0 (access_of c.fill.new.self).marks left now c.fill.ensures.filled owned.within view (search rules)
    (search rules) (search rules) c.put_back.ensures.items in
    let has = subst (λ items. HasItemsOf (λ index. Some tile.1) (record { items = items; view = tile.0 })
    (record { items = now; view = tile.0 })) kept put.1 in
    record {
      count = put.0;
      painted = one_painted tile has c.args.tiles.now i c.loop-tile-test.true c.tile-item.is c.loop-tile.invariant.painted;
      others = λ place free.
          has.spare place (subst (IsFree (pos place)) (sym c.tile-item.is) (free i tile c.loop-tile-test.true))
          ∙ c.loop-tile.invariant.others place free;
      same_right = search rules;
    }

pub returns-clause-painted : goal.returns-clause-painted
returns-clause-painted c earlier later tile split index here free =
    let last : List ℕ = c.loop-tile.rest.items in
    let end : c.close.new.self.items.now ≡ last = c.close.ensures.items in
    as_last index tile (search (rules, end))
    (all_painted c.args.tiles.now c.loop-tile.tile-index last (omega (arith, c.loop-tile-test.false, c.loop-tile.auto.tile-index-end))
    c.loop-tile.invariant.painted earlier later tile split index here free)
