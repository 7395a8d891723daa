-- The chunks of a part: each is a part and no two share a place; and a right that has views to itself, where some are left out or taken.
use Rattle.std.proofs.Common.{◌≡◌, ◌≢◌, ℕ, suc, ◌+◌, ◌<◌, Bool, true, None, List, [], ◌∷◌, ◌++◌, length, map, take, drop, get_or}
use Rattle.std.proofs.Common.{refl, sym, ap, subst, ◌∙◌, arith}
use Rattle.std.specs.List.{AllPairs}
use Rattle.std.proofs.lemmas.List.{drop_at, get_or-append-add, get_or-map, get_or_append_left, length-append, length-map}
use Rattle.std.proofs.lemmas.List.{take-append-drop, take_at}
use Rattle.std.proofs.lemmas.List.Elements.{All-cons, All-drop, All-head, All-take}
use Rattle.std.proofs.lemmas.List.Kept.{AllPairs-cons}
use Rattle.ndarray_layout.specs.declared.Order.TheVariants.{RowMajor}
use Rattle.ndarray_layout.specs.BlocksView.{block_at}
use Rattle.ndarray_layout.specs.ChunksView.{chunk_count, chunk_counts, chunk_source, chunk_starts_of, chunk_strides, chunk_views}
use Rattle.ndarray_layout.specs.ChunksView.{chunks_fault}
use Rattle.ndarray_layout.specs.Descends.{IsViewOf}
use Rattle.ndarray_layout.specs.Elementwise.{elementwise, products, sums}
use Rattle.ndarray_layout.specs.Indices.{is_index, indices_in}
use Rattle.ndarray_layout.specs.SharePlace.{SharePlace}
use Rattle.ndarray_layout.specs.View.{View, place_at, view_places}
use Rattle.ndarray_layout.proofs.Laws.BlockStarts.{All-blocks, HasBlocks, HasBlocks-chunks, IsViewOf-block}
use Rattle.ndarray_layout.proofs.Laws.BlocksView.{can_take_blocks}
use Rattle.ndarray_layout.proofs.Laws.ChunksView.{chunks_are_apart}
use Rattle.ndarray_layout.proofs.Laws.Indices.{All-indices_in, AllPairs-indices_in}
use Rattle.ndarray_layout.proofs.Laws.IsIndex.{length_of_index}
use Rattle.ndarray_layout.proofs.Laws.SharePlace.{share_place_symmetric}
use Rattle.nd_lent.specs.Blocks.{AreApart}
use Rattle.nd_access.specs.Cells.{without}
use Rattle.nd_access.specs.Part.{IsPart, has_mark, marks_of}
use Rattle.nd_lent.specs.private.OwnedViews.{OwnsEach}
use Rattle.nd_access.proofs.Laws.BothEnds.{all_second}
use Rattle.nd_access.proofs.Laws.Lists.{all_first, pairs_first, pairs_second}
use Rattle.nd_lent.proofs.Laws.PartsApart.{others_are_parts}

-- ---- lists
as_long : (f : ℕ → ℕ → ℕ) (xs ys : List ℕ) → length xs ≡ length ys → length (elementwise f xs ys) ≡ length xs
as_long f [] ys same = refl
as_long f (x ∷ xs) [] same = absurd (omega arith)
as_long f (x ∷ xs) (y ∷ ys) same = ap suc (as_long f xs ys (omega arith))

-- what holds of what is made of each two holds of each two that are made
pairs_made : {X Y : Type 0} (R : Y → Y → Type 0) (f : X → Y) (xs : List X) → AllPairs (λ one other. R (f one) (f other)) xs
    → AllPairs R (map f xs)
pairs_made R f [] pairs i j d earlier below = absurd (omega (arith, below))
pairs_made R f (x ∷ xs) pairs i j d earlier below =
    let late : j < length (x ∷ xs) = omega (arith, below, length-map (x ∷ xs) f) in
    let early : i < length (x ∷ xs) = omega (arith, earlier, late) in
    subst (λ one. R one (get_or (map f (x ∷ xs)) j d)) (sym (get_or-map f (x ∷ xs) i x d early))
    (subst (R (f (get_or (x ∷ xs) i x))) (sym (get_or-map f (x ∷ xs) j x d late)) (pairs i j x earlier late))

-- ---- chunks
module _ {marks : List Bool} {view : View} (chunk : List ℕ) (part : IsPart marks view)
    (none : chunks_fault None view.shape chunk ≡ None) where
  abbrev counts : List ℕ
  counts = chunk_counts view.shape chunk

  abbrev source_in : List ℕ → List ℕ → List ℕ
  source_in at inner = chunk_source chunk (at ++ inner)

  abbrev chunk_of : List ℕ → View
  chunk_of at = block_at chunk view (place_at (chunk_starts_of chunk view) at)

  has : HasBlocks (chunk_source chunk) counts chunk (chunk_strides view.shape chunk view.strides) view
  has = HasBlocks-chunks None chunk part.is_view none

  kept : (at : List ℕ) → is_index counts at ≡ true → IsViewOf (source_in at) view (chunk_of at)
  kept at here = IsViewOf-block has at here

  long : (at : List ℕ) → is_index counts at ≡ true → length at ≡ length chunk
  long at here =
      let same = (can_take_blocks None view.shape counts chunk none).same_count in
      length_of_index counts at here ∙ as_long chunk_count view.shape chunk (sym same) ∙ sym same

  source_is : (at inner : List ℕ) → length at ≡ length chunk → source_in at inner ≡ sums (products at chunk) inner
  source_is at inner count =
      ap (λ front. sums (products front chunk) (drop (length chunk) (at ++ inner))) (take_at at inner (length chunk) count)
      ∙ ap (λ back. sums (products at chunk) back) (drop_at at inner (length chunk) count)

  -- indices in chunks that lie at one place are one index in one chunk
  one_index : (at inner other within : List ℕ) → is_index counts at ≡ true → is_index chunk inner ≡ true → is_index counts other ≡ true
      → is_index chunk within ≡ true → place_at (chunk_of at) inner ≡ place_at (chunk_of other) within → (at ≡ other) × (inner ≡ within)
  one_index at inner other within here inside there also same =
      let first = (kept at here).places inner inside in
      let second = (kept other there).places within also in
      let equal = part.distinct (source_in at inner) (source_in other within) first.0 second.0 (sym first.1 ∙ same ∙ second.1) in
      chunks_are_apart chunk at inner other within (record {
        count = long at here;
        other_count = long other there;
        inside = inside;
        other_inside = also;
        same = sym (source_is at inner (long at here)) ∙ equal ∙ source_is other within (long other there);
      })

  chunk_is_part : (at : List ℕ) → is_index counts at ≡ true → IsPart marks (chunk_of at)
  chunk_is_part at here = record {
    is_view = (kept at here).is_view;
    marked = λ inner inside.
        let from = (kept at here).places inner inside in
        ap (has_mark marks) from.1 ∙ part.marked (source_in at inner) from.0;
    distinct = λ inner within inside also same. (one_index at inner at within here inside here also same).1;
  }

  apart_at : (at other : List ℕ) → is_index counts at ≡ true → is_index counts other ≡ true → at ≢ other
      → SharePlace (chunk_of at) (chunk_of other) → ⊥
  apart_at at other here there differ share =
      differ (one_index at share.0 other (share.2).0 here share.1 there (share.2).1 (share.2).2).0

  pub chunks_apart : AreApart (chunk_views chunk view)
  chunks_apart =
      let starts = chunk_starts_of chunk view in
      pairs_made (λ one other. SharePlace one other → ⊥) (block_at chunk view) (view_places RowMajor starts)
      (pairs_made (λ one other. SharePlace (block_at chunk view one) (block_at chunk view other) → ⊥) (place_at starts)
      (indices_in RowMajor counts)
      (λ i j d earlier below.
      apart_at (get_or (indices_in RowMajor counts) i d) (get_or (indices_in RowMajor counts) j d)
      (All-indices_in RowMajor counts i d (omega (arith, earlier, below))) (All-indices_in RowMajor counts j d below)
      (AllPairs-indices_in RowMajor counts i j d earlier below)))

  pub own_chunks : {views : List View} → views ≡ chunk_views chunk view → OwnsEach marks views
  own_chunks are = subst (OwnsEach marks) (sym are) (record {
    parts = All-blocks has (IsPart marks) chunk_is_part;
    apart = chunks_apart;
  })

-- ---- views that a right has to itself
abbrev Apart : View → View → Type 0
Apart one other = SharePlace one other → ⊥

-- without some at either end
module _ {marks : List Bool} {views : List View} (own : OwnsEach marks views) (n : ℕ) where
  both : AllPairs Apart (take n views ++ drop n views)
  both = subst (AllPairs Apart) (sym (take-append-drop n views)) own.apart

  pub own_after : {left : List View} → left ≡ drop n views → OwnsEach marks left
  own_after are = subst (OwnsEach marks) (sym are) (record {
    parts = All-drop (IsPart marks) n views own.parts;
    apart = pairs_second Apart (take n views) (drop n views) both;
  })

  pub own_before : {left : List View} → left ≡ take n views → OwnsEach marks left
  own_before are = subst (OwnsEach marks) (sym are) (record {
    parts = All-take (IsPart marks) n views own.parts;
    apart = pairs_first Apart (take n views) (drop n views) both;
  })

-- the first is a part, and the others are those of the right that is left
module _ {marks : List Bool} {views : List View} (own : OwnsEach marks views) {view : View} {rest : List View} where
  module _ (is : views ≡ view ∷ rest) where
    all : OwnsEach marks (view ∷ rest)
    all = subst (OwnsEach marks) is own

    pub first_is_part : IsPart marks view
    first_is_part = All-head (IsPart marks) view rest all.parts

    pub own_others : OwnsEach (without (marks_of (length marks) view) marks) rest
    own_others =
        let are = others_are_parts (λ (other : View). other) marks view rest (record { each = all.parts; apart = all.apart }) in
        record { parts = are.each; apart = are.apart }

  -- and the last may stand first, since no order matters
  pub own_last : views ≡ rest ++ view ∷ [] → OwnsEach marks (view ∷ rest)
  own_last is =
      let all = subst (OwnsEach marks) is own in
      record {
        parts = All-cons (IsPart marks) view rest
            (All-head (IsPart marks) view [] (all_second (IsPart marks) rest (view ∷ []) all.parts))
            (all_first (IsPart marks) rest (view ∷ []) all.parts);
        apart = AllPairs-cons Apart view rest
            (λ k d below share.
            all.apart k (length rest + 0) d (omega (arith, below)) (omega (arith, length-append rest (view ∷ [])))
            (subst (λ (one : View). SharePlace one (get_or (rest ++ view ∷ []) (length rest + 0) d))
            (sym (get_or_append_left rest (view ∷ []) d k below))
            (subst (SharePlace (get_or rest k d)) (sym (get_or-append-add rest (view ∷ []) 0 d))
            (share_place_symmetric view (get_or rest k d) share))))
            (pairs_first Apart rest (view ∷ []) all.apart);
      }
