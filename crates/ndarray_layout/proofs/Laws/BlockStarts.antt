-- Laws of the first indices of blocks: they are a view, and from each of their places on there is a block.
use Rattle.std.proofs.Common.{◌≡◌, ℕ, ◌*◌, ◌≤◌, ℤ, pos, ◌+ℤ◌, true, false, cond, Option, None, List, ◌++◌, length, map, replicate}
use Rattle.std.proofs.Common.{drop, sym, ap, ◌∙◌, arith, le-mul_of_pos_right}
use Rattle.std.specs.List.{All}
use Rattle.std.proofs.lemmas.Int.{ints}
use Rattle.std.proofs.lemmas.List.{drop_at, length-append, take_at}
use Rattle.std.proofs.lemmas.List.Elements.{All-map, All-weaker}
use Rattle.nd_base.specs.declared.order.Order.TheVariants.{RowMajor}
use Rattle.nd_base.proofs.Laws.Definitions.{indices_in, is_empty, is_index, limit, magnitude, nonzero_size, offset_of}
use Rattle.nd_base.proofs.Laws.Indices.{All-indices_in}
use Rattle.nd_base.proofs.Laws.IsIndex.{is_index-zeros, length_of_index, nonempty_from_index}
use Rattle.nd_base.proofs.Laws.NonzeroSize.{nonzero_size_pos}
use Rattle.nd_base.proofs.Laws.Offset.{offset_of-zeros}
use Rattle.ndarray_layout.specs.BlocksView.{block_at, block_starts, blocks_of, strides_of_blocks}
use Rattle.ndarray_layout.specs.ChunksView.{chunk_counts, chunk_source, chunk_strides, chunks_fault}
use Rattle.ndarray_layout.specs.Descends.{IsViewOf}
use Rattle.ndarray_layout.specs.KeepsPlaces.{KeepsPlaces}
use Rattle.ndarray_layout.specs.View.{View, IsView, place_at, view_places}
use Rattle.ndarray_layout.specs.WindowsView.{window_counts, window_source, windows_fault}
use Rattle.ndarray_layout.proofs.BlockSteps.{IsForEachAxis, is_index-joined, length-elementwise, length-strides_along, offset_of-append}
use Rattle.ndarray_layout.proofs.BlocksWritten.{nonzero_size-append}
use Rattle.ndarray_layout.proofs.Laws.BlocksView.{can_take_blocks}
use Rattle.ndarray_layout.proofs.Laws.ChunksView.{Descends-chunks_of}
use Rattle.ndarray_layout.proofs.Laws.KeepsPlaces.{IsViewOf-kept}
use Rattle.ndarray_layout.proofs.Laws.Sources.{IsView-from_places, IsView-where_some}
use Rattle.ndarray_layout.proofs.Laws.View.{view_place}
use Rattle.ndarray_layout.proofs.Laws.WindowsView.{IsViewOf-windows_of}

-- what blocks of a view need
pub record HasBlocks (source : List ℕ → List ℕ) (counts block : List ℕ) (along : List ℤ) (view : View) : Type 0 where
  pub is_view : IsView view
  pub kept : KeepsPlaces source view (blocks_of counts along block view)
  pub counted : length counts ≡ length along
  pub same_count : length block ≡ length view.strides
  pub some : is_empty block ≡ false
  pub size_fits : nonzero_size (counts ++ block) ≤ limit

module _ {source : List ℕ → List ℕ} {counts block : List ℕ} {along : List ℤ} {view : View}
    (has : HasBlocks source counts block along view) where
  -- the place of an index in a block
  record IsAt (at inner : List ℕ) : Type 0 where
    within : is_index view.shape (source (at ++ inner)) ≡ true
    places : place_at view (source (at ++ inner)) ≡ place_at (block_starts counts along view) at +ℤ offset_of view.strides inner

  is_at : (at inner : List ℕ) → is_index counts at ≡ true → is_index block inner ≡ true → IsAt at inner
  is_at at inner here inside =
      let joined = is_index-joined counts block at inner here inside in
      let kept = has.kept (at ++ inner) joined in
      let long : length at ≡ length along = length_of_index counts at here ∙ has.counted in
      let all : strides_of_blocks (counts ++ block) (along ++ view.strides) ≡ along ++ view.strides =
      ap (λ empty. cond empty (replicate (length (counts ++ block)) (pos 0)) (along ++ view.strides))
      (nonempty_from_index (counts ++ block) (at ++ inner) joined) in
      let own : strides_of_blocks counts along ≡ along =
      ap (λ empty. cond empty (replicate (length counts) (pos 0)) along) (nonempty_from_index counts at here) in
      let split : offset_of (along ++ view.strides) (at ++ inner) ≡ offset_of along at +ℤ offset_of view.strides inner =
      offset_of-append along view.strides (at ++ inner) (omega (arith, long, length-append at inner))
      ∙ ap (λ index. offset_of along index +ℤ offset_of view.strides (drop (length along) (at ++ inner)))
      (take_at at inner (length along) long)
      ∙ ap (λ index. offset_of along at +ℤ offset_of view.strides index) (drop_at at inner (length along) long) in
      let whole : place_at (blocks_of counts along block view) (at ++ inner)
      ≡ pos view.start +ℤ (offset_of along at +ℤ offset_of view.strides inner) =
      ap (λ strides. pos view.start +ℤ offset_of strides (at ++ inner)) all ∙ ap (λ z. pos view.start +ℤ z) split in
      let first : place_at (block_starts counts along view) at ≡ pos view.start +ℤ offset_of along at =
      ap (λ strides. pos view.start +ℤ offset_of strides at) own in
      record { within = kept.0; places = sym kept.1 ∙ whole ∙ omega (arith, ints, first) }

  -- the first index of each block lies where index (0, .., 0) of the block does
  keeps_starts : KeepsPlaces (λ at. source (at ++ replicate (length block) 0)) view (block_starts counts along view)
  keeps_starts at here =
      let one = is_at at (replicate (length block) 0) here (is_index-zeros block has.some) in
      (one.within, sym (one.places ∙ omega (arith, ints, offset_of-zeros view.strides (length block))))

  pub IsViewOf-starts : IsViewOf (λ at. source (at ++ replicate (length block) 0)) view (block_starts counts along view)
  IsViewOf-starts =
      let few : nonzero_size counts ≤ nonzero_size counts * nonzero_size block =
      le-mul_of_pos_right (nonzero_size counts) (nonzero_size_pos block) in
      IsViewOf-kept (IsView-where_some (λ at. source (at ++ replicate (length block) 0)) counts along has.is_view (λ some. has.counted)
      (omega (arith, few, nonzero_size-append counts block, has.size_fits)) keeps_starts) keeps_starts

  -- from its place on there is the block
  module _ (at : List ℕ) (here : is_index counts at ≡ true) where
    abbrev there : ℤ
    there = place_at (block_starts counts along view) at

    is_natural : pos (magnitude there) ≡ there
    is_natural = let low = (view_place at IsViewOf-starts.is_view here).0 in omega (arith, ints, low)

    keeps_block : KeepsPlaces (λ inner. source (at ++ inner)) view (block_at block view there)
    keeps_block inner inside =
        let one = is_at at inner here inside in
        (one.within, ap (λ z. z +ℤ offset_of view.strides inner) is_natural ∙ sym one.places)

    pub IsViewOf-block : IsViewOf (λ inner. source (at ++ inner)) view (block_at block view there)
    IsViewOf-block =
        let one : nonzero_size block ≤ nonzero_size counts * nonzero_size block = omega (
          arith,
          le-mul_of_pos_right (nonzero_size block) (nonzero_size_pos counts),
        ) in
        IsViewOf-kept (IsView-from_places (λ inner. source (at ++ inner)) has.is_view has.same_count
        (omega (arith, one, nonzero_size-append counts block, has.size_fits)) has.some keeps_block) keeps_block

  -- what holds of each block
  pub All-blocks : (P : View → Type 0)
      → ((at : List ℕ) → is_index counts at ≡ true → P (block_at block view (place_at (block_starts counts along view) at)))
      → All P (map (block_at block view) (view_places RowMajor (block_starts counts along view)))
  All-blocks P each =
      let starts = block_starts counts along view in
      let indices = indices_in RowMajor counts in
      All-map P (block_at block view) (view_places RowMajor starts)
      (All-map (λ place. P (block_at block view place)) (place_at starts) indices
      (All-weaker (λ at. is_index counts at ≡ true) (λ at. P (block_at block view (place_at starts at))) each indices
      (All-indices_in RowMajor counts)))

  pub blocks_are_views : All IsView (map (block_at block view) (view_places RowMajor (block_starts counts along view)))
  blocks_are_views = All-blocks IsView (λ at here. (IsViewOf-block at here).is_view)

-- ---- windows
module _ (fixed : Option ℕ) (window : List ℕ) {view : View} (v : IsView view) (none : windows_fault fixed view.shape window ≡ None) where
  pub HasBlocks-windows : HasBlocks (window_source (length view.shape)) (window_counts view.shape window) window view.strides view
  HasBlocks-windows =
      let can = can_take_blocks fixed view.shape (window_counts view.shape window) window none in
      record {
        is_view = v;
        kept = (IsViewOf-windows_of fixed window v none).places;
        counted = length-elementwise _ view.shape window (sym can.same_count) ∙ v.valid.same_count;
        same_count = can.same_count ∙ v.valid.same_count;
        some = can.some;
        size_fits = can.size_fits;
      }

-- ---- chunks
module _ (fixed : Option ℕ) (chunk : List ℕ) {view : View} (v : IsView view) (none : chunks_fault fixed view.shape chunk ≡ None) where
  pub HasBlocks-chunks : HasBlocks (chunk_source chunk) (chunk_counts view.shape chunk) chunk
      (chunk_strides view.shape chunk view.strides) view
  HasBlocks-chunks =
      let can = can_take_blocks fixed view.shape (chunk_counts view.shape chunk) chunk none in
      let each : IsForEachAxis view.shape chunk view.strides =
      record { block_count = sym can.same_count; stride_count = v.valid.same_count } in
      record {
        is_view = v;
        kept = (Descends-chunks_of fixed chunk v none).places;
        counted = length-elementwise _ view.shape chunk (sym can.same_count)
            ∙ sym (length-strides_along _ view.shape chunk view.strides each);
        same_count = can.same_count ∙ v.valid.same_count;
        some = can.some;
        size_fits = can.size_fits;
      }
