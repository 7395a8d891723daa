-- Laws of the chunks of a view: where each of their indices lies, and that each index in a chunk is in no other.
use Rattle.std.proofs.Common.{◌≡◌, ℕ, ◌+◌, ◌-◌, ◌*◌, ◌<◌, ◌≤◌, pos, ◌*ℤ◌, true, false, cond, Option, None, List, [], ◌∷◌, ◌++◌}
use Rattle.std.proofs.Common.{length, take, drop, nat_lt, refl, sym, ap, ◌∙◌, arith, pos_of_ne-zero}
use Rattle.std.specs.Prelude.{◌/◌, ◌%◌, ◌==◌}
use Rattle.std.proofs.Math.Nat.{div-mul-le_self}
use Rattle.std.proofs.lemmas.Bool.{and_from, and_parts, eqb-false, le-ltb, lt-ltb, ltb-true, or_parts}
use Rattle.std.proofs.lemmas.List.{drop_at, length-append, length-take-le, map-id, take-append-drop, take_at}
use Rattle.std.proofs.lemmas.Nat.{div-add-mod', div-mul-add, div_below, mod-mul-add, mod_below}
use Rattle.nd_base.specs.Elementwise.{elementwise, products, sums}
use Rattle.nd_base.proofs.Laws.Definitions.{is_empty, is_index}
use Rattle.nd_base.proofs.Laws.IsIndex.{length_of_index}
use Rattle.ndarray_layout.specs.ChunksView.{chunk_count, chunk_counts, chunk_source, chunk_stride, chunks_fault, chunks_of}
use Rattle.ndarray_layout.specs.Descends.{Descends, IsViewOf}
use Rattle.ndarray_layout.specs.View.{View, IsView, place_at}
use Rattle.ndarray_layout.proofs.BlockSteps.{AreBlocks, IsViewOf-blocks, is_index-append, is_index-joined}
use Rattle.ndarray_layout.proofs.BlockSteps.{length-elementwise}
use Rattle.ndarray_layout.proofs.Laws.BlocksView.{CanTakeBlocks, can_take_blocks}
use Rattle.ndarray_layout.proofs.Laws.KeepsPlaces.{AreApart, Descends-kept}

-- ---- chunks are blocks at steps of their own length
abbrev whole : ℕ → ℕ
whole size = size

are_blocks : AreBlocks chunk_count whole chunk_stride
are_blocks = record {
  within = λ len size some more. fits len size (len / size) more (div-mul-le_self len size);
  stride = λ len size stride more. ap (λ few. cond few (pos 0) (pos size *ℤ stride)) (le-ltb (chunk_count len size) 2 more);
}
  where
    fits : (len size count : ℕ) → 0 < count → count * size ≤ len → (count - 1) * size + size ≤ len
    fits len size count some h =
        let last : count ≡ (count - 1) + 1 = omega arith in
        let all : count * size ≡ (count - 1) * size + size = ap (λ n. n * size) last ∙ omega arith in
        omega arith

-- ---- each index in a chunk is in no other
-- the chunk of an index, and the index in it
abbrev pub quotients : List ℕ → List ℕ → List ℕ
quotients index chunk = elementwise (λ i size. i / size) index chunk

abbrev pub rests : List ℕ → List ℕ → List ℕ
rests index chunk = elementwise (λ i size. i % size) index chunk

-- are those of the index that an index in a chunk stands for
parts_of_source : (chunk at inner : List ℕ) → length at ≡ length chunk → is_index chunk inner ≡ true
    → (quotients (sums (products at chunk) inner) chunk ≡ at) × (rests (sums (products at chunk) inner) chunk ≡ inner)
parts_of_source [] [] [] count inside = (refl, refl)
parts_of_source [] [] (j ∷ inner) count inside = absurd (cc)
parts_of_source [] (i ∷ at) inner count inside = absurd (omega arith)
parts_of_source (size ∷ chunk) [] inner count inside = absurd (omega arith)
parts_of_source (size ∷ chunk) (i ∷ at) [] count inside = absurd (cc)
parts_of_source (size ∷ chunk) (i ∷ at) (j ∷ inner) count inside =
    let both = and_parts (nat_lt j size) (is_index chunk inner) inside in
    let below = ltb-true j size both.0 in
    let later = parts_of_source chunk at inner (omega arith) both.1 in
    (rw (div-mul-add i size j below, later.0) refl, rw (mod-mul-add i size j below, later.1) refl)

-- an index in each of two chunks, which stand for one index
pub record HaveOneSource (chunk at inner other within : List ℕ) : Type 0 where
  pub count : length at ≡ length chunk
  pub other_count : length other ≡ length chunk
  pub inside : is_index chunk inner ≡ true
  pub other_inside : is_index chunk within ≡ true
  pub same : sums (products at chunk) inner ≡ sums (products other chunk) within

-- are one index in one chunk
pub chunks_are_apart : (chunk at inner other within : List ℕ) → HaveOneSource chunk at inner other within
    → (at ≡ other) × (inner ≡ within)
chunks_are_apart chunk at inner other within h =
    let first = parts_of_source chunk at inner h.count h.inside in
    let second = parts_of_source chunk other within h.other_count h.other_inside in (
      sym first.0 ∙ ap (λ index. quotients index chunk) h.same ∙ second.0,
      sym first.1 ∙ ap (λ index. rests index chunk) h.same ∙ second.1,
    )

-- an index that is not left over is in that chunk
pub record IsInChunk (shape chunk index : List ℕ) : Type 0 where
  pub at : is_index (chunk_counts shape chunk) (quotients index chunk) ≡ true
  pub inner : is_index chunk (rests index chunk) ≡ true
  pub same : sums (products (quotients index chunk) chunk) (rests index chunk) ≡ index

pub in_a_chunk : (shape chunk index : List ℕ) → length chunk ≡ length shape → is_empty chunk ≡ false
    → is_index (products (chunk_counts shape chunk) chunk) index ≡ true → IsInChunk shape chunk index
in_a_chunk [] [] [] e some here = record { at = refl; inner = refl; same = refl }
in_a_chunk [] [] (i ∷ index) e some here = absurd (cc)
in_a_chunk [] (size ∷ chunk) index e some here = absurd (omega arith)
in_a_chunk (len ∷ shape) [] index e some here = absurd (omega arith)
in_a_chunk (len ∷ shape) (size ∷ chunk) [] e some here = absurd (cc)
in_a_chunk (len ∷ shape) (size ∷ chunk) (i ∷ index) e some here =
    let nonzero = or_parts (size == 0) (is_empty chunk) some in
    let more : 0 < size = pos_of_ne-zero (eqb-false size 0 nonzero.0) in
    let parts = and_parts (nat_lt i ((len / size) * size)) (is_index (products (chunk_counts shape chunk) chunk) index) here in
    let rest = in_a_chunk shape chunk index (omega arith) nonzero.1 parts.1 in
    record {
      at = and_from (nat_lt (i / size) (len / size)) (is_index (chunk_counts shape chunk) (quotients index chunk))
          (lt-ltb (i / size) (len / size) (div_below i size (len / size) more (ltb-true i ((len / size) * size) parts.0))) rest.at;
      inner = and_from (nat_lt (i % size) size) (is_index chunk (rests index chunk)) (lt-ltb (i % size) size (mod_below i size more))
          rest.inner;
      same = ap (λ j. j ∷ sums (products (quotients index chunk) chunk) (rests index chunk)) (div-add-mod' i size)
          ∙ ap (λ xs. i ∷ xs) rest.same;
    }

-- ---- the view of all chunks
module _ (fixed : Option ℕ) (chunk : List ℕ) {view : View} (v : IsView view) (none : chunks_fault fixed view.shape chunk ≡ None) where
  can : CanTakeBlocks fixed view.shape (chunk_counts view.shape chunk) chunk
  can = can_take_blocks fixed view.shape (chunk_counts view.shape chunk) chunk none

  count : length (chunk_counts view.shape chunk) ≡ length chunk
  count = length-elementwise chunk_count view.shape chunk (sym can.same_count) ∙ sym can.same_count

  -- the chunks are a view of the same data, where each index has the place of the index that it stands for
  IsViewOf-chunks_of : IsViewOf (chunk_source chunk) view (chunks_of chunk view)
  IsViewOf-chunks_of =
      rw (map-id chunk) at (IsViewOf-blocks chunk_count whole chunk_stride are_blocks view v chunk can.same_count can.size_fits)

  -- the parts of an index in a chunk
  record Parts (index : List ℕ) : Type 0 where
    pub outer : length (take (length chunk) index) ≡ length chunk
    pub inner : is_index chunk (drop (length chunk) index) ≡ true

  parts_of : (index : List ℕ) → is_index (chunk_counts view.shape chunk ++ chunk) index ≡ true → Parts index
  parts_of index here =
      let parts = is_index-append (chunk_counts view.shape chunk) chunk index here in
      let long = length_of_index (chunk_counts view.shape chunk ++ chunk) index here in
      record {
        outer = length-take-le (length chunk) index (omega (arith, long, count, length-append (chunk_counts view.shape chunk) chunk));
        inner = ap (λ n. is_index chunk (drop n index)) (sym count) ∙ parts.1;
      }

  apart : AreApart (chunk_source chunk) (chunks_of chunk view)
  apart index other here there same =
      let n = length chunk in
      let first = parts_of index here in
      let second = parts_of other there in
      let both = chunks_are_apart chunk (take n index) (drop n index) (take n other) (drop n other) (record {
        count = first.outer;
        other_count = second.outer;
        inside = first.inner;
        other_inside = second.inner;
        same = same;
      }) in
      sym (take-append-drop n index) ∙ ap (λ front. front ++ drop n index) both.0 ∙ ap (λ back. take n other ++ back) both.1
      ∙ take-append-drop n other

  -- and no two of their indices alias where none of the view do
  pub Descends-chunks_of : Descends (chunk_source chunk) view (chunks_of chunk view)
  Descends-chunks_of = Descends-kept IsViewOf-chunks_of.is_view IsViewOf-chunks_of.places apart

  -- index `inner` in chunk `at` is index `at * chunk + inner` of the view
  pub place_in_chunk : (at inner : List ℕ) → is_index (chunk_counts view.shape chunk) at ≡ true → is_index chunk inner ≡ true
      → (is_index view.shape (sums (products at chunk) inner) ≡ true)
      × (place_at (chunks_of chunk view) (at ++ inner) ≡ place_at view (sums (products at chunk) inner))
  place_in_chunk at inner here inside =
      let n = length chunk in
      let kept = IsViewOf-chunks_of.places (at ++ inner) (is_index-joined (chunk_counts view.shape chunk) chunk at inner here inside) in
      let long : length at ≡ n = length_of_index (chunk_counts view.shape chunk) at here ∙ count in
      let same : chunk_source chunk (at ++ inner) ≡ sums (products at chunk) inner =
      ap (λ front. sums (products front chunk) (drop n (at ++ inner))) (take_at at inner n long)
      ∙ ap (λ back. sums (products at chunk) back) (drop_at at inner n long) in
      (ap (is_index view.shape) (sym same) ∙ kept.0, kept.1 ∙ ap (place_at view) same)
