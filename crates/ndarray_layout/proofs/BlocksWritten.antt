-- How many blocks there are along each axis and the strides from one to the next, axis by axis, as a loop writes them.
use borrow.Rule.Slice.PartMut.{put_mid}
use Rattle.std.proofs.Common.{◌≡◌, ℕ, zero, suc, ◌+◌, ◌-◌, ◌*◌, ◌<◌, ◌≤◌, ℤ, pos, Bool, true, false, not, cond, eqb, Option, Some, None}
use Rattle.std.proofs.Common.{List, [], ◌∷◌, ◌++◌, length, get_or, take, drop, replicate, refl, sym, ap, ◌∙◌, arith, drop_of_length-le}
use Rattle.std.proofs.Common.{mul_assoc}
use Rattle.std.specs.Prelude.{◌&&◌, ◌==◌, nat_lt}
use Rattle.std.proofs.lemmas.List.{append-nil, ext_get_or, get_or-take, length-drop, length-take-le}
use Rattle.nd_base.specs.declared.error.ErrorKind.{ErrorKind}
use Rattle.nd_base.specs.declared.error.ErrorKind.TheVariants.{IncompatibleShape, Overflow, Unsupported}
use Rattle.nd_base.specs.Elementwise.{elementwise}
use Rattle.nd_base.proofs.Laws.Definitions.{all_signed, is_empty, limit, nonzero_size}
use Rattle.ndarray_layout.specs.declared.strided.blocks.Blocks.{Blocks}
use Rattle.ndarray_layout.specs.declared.strided.blocks.Blocks.TheVariants.{Windows, Chunks}
use Rattle.ndarray_layout.specs.BlocksView.{blocks_fault, strides_along}
use Rattle.ndarray_layout.specs.ChunksView.{chunk_count, chunk_stride}
use Rattle.ndarray_layout.specs.WindowsView.{window_count}
use Rattle.ndarray_layout.specs.private.Blocks.{block_count, block_counts, block_stride, block_strides}
use Rattle.ndarray_layout.proofs.BlockSteps.{IsForEachAxis, length-elementwise, length-strides_along, next_axes}
use Rattle.ndarray_layout.proofs.Laws.BlocksView.{allows}

-- ---- two lists axis by axis
get_or-elementwise : (f : ℕ → ℕ → ℕ) (xs ys : List ℕ) (k : ℕ) → length xs ≡ length ys → k < length xs
    → get_or (elementwise f xs ys) k 0 ≡ f (get_or xs k 0) (get_or ys k 0)
get_or-elementwise f [] ys k e h = absurd (omega arith)
get_or-elementwise f (x ∷ xs) [] k e h = absurd (omega arith)
get_or-elementwise f (x ∷ xs) (y ∷ ys) zero e h = refl
get_or-elementwise f (x ∷ xs) (y ∷ ys) (suc k) e h = get_or-elementwise f xs ys k (omega arith) (omega arith)

get_or-along : (along : ℕ → ℕ → ℤ → ℤ) (shape block : List ℕ) (strides : List ℤ) (k : ℕ) → IsForEachAxis shape block strides
    → k < length shape
    → get_or (strides_along along shape block strides) k (pos 0) ≡ along (get_or shape k 0) (get_or block k 0) (get_or strides k (pos 0))
get_or-along along [] block strides k each h = absurd (omega arith)
get_or-along along (len ∷ shape) [] strides k each h = let count = each.block_count in absurd (omega arith)
get_or-along along (len ∷ shape) (size ∷ block) [] k each h = let count = each.stride_count in absurd (omega arith)
get_or-along along (len ∷ shape) (size ∷ block) (stride ∷ strides) zero each h = refl
get_or-along along (len ∷ shape) (size ∷ block) (stride ∷ strides) (suc k) each h =
    get_or-along along shape block strides k (next_axes each) (omega arith)

-- ---- blocks axis by axis
pub length-block_counts : (blocks : Blocks) (shape block : List ℕ) → length shape ≡ length block
    → length (block_counts blocks shape block) ≡ length shape
length-block_counts Windows shape block e = length-elementwise window_count shape block e
length-block_counts Chunks shape block e = length-elementwise chunk_count shape block e

pub get_or-block_counts : (blocks : Blocks) (shape block : List ℕ) (k : ℕ) → length shape ≡ length block → k < length shape
    → get_or (block_counts blocks shape block) k 0 ≡ block_count blocks (get_or shape k 0) (get_or block k 0)
get_or-block_counts Windows shape block k e h = get_or-elementwise window_count shape block k e h
get_or-block_counts Chunks shape block k e h = get_or-elementwise chunk_count shape block k e h

pub length-block_strides : (blocks : Blocks) (shape block : List ℕ) (strides : List ℤ) → IsForEachAxis shape block strides
    → length (block_strides blocks shape block strides) ≡ length shape
length-block_strides Windows shape block strides each = sym each.stride_count
length-block_strides Chunks shape block strides each = length-strides_along chunk_stride shape block strides each

pub get_or-block_strides : (blocks : Blocks) (shape block : List ℕ) (strides : List ℤ) (k : ℕ) → IsForEachAxis shape block strides
    → k < length shape
    → get_or (block_strides blocks shape block strides) k (pos 0)
    ≡ block_stride blocks (get_or shape k 0) (get_or block k 0) (get_or strides k (pos 0))
get_or-block_strides Windows shape block strides k each h = refl
get_or-block_strides Chunks shape block strides k each h = get_or-along chunk_stride shape block strides k each h

-- ---- what is written
-- a list whose first items are those of another one
pub first_items : {A : Type 0} (d : A) (new items : List A) → length items ≤ length new
    → ((k : ℕ) → k < length items → get_or new k d ≡ get_or items k d) → take (length items) new ≡ items
first_items d new items long same =
    let n = length items in
    ext_get_or d (take n new) items (length-take-le n new long) (λ k h.
    let below : k < n = omega (arith, h, length-take-le n new long) in
    get_or-take n new k d below ∙ same k below)

-- and then the items of another one
pub two_parts : {A : Type 0} (n : ℕ) (new back : List A) → put_mid n (length new - n) new back ≡ take n new ++ back
two_parts n new back =
    ap (λ rest. take n new ++ (back ++ rest)) (drop_of_length-le (drop n new) (omega (arith, length-drop n new)))
    ∙ ap (λ xs. take n new ++ xs) (append-nil back)

-- strides of zeros
pub zeros_read : (n : ℕ) → all_signed (replicate n 0) ≡ replicate n (pos 0)
zeros_read zero = refl
zeros_read (suc n) = ap (λ strides. pos 0 ∷ strides) (zeros_read n)

-- ---- how many indices there are
pub nonzero_size-append : (xs ys : List ℕ) → nonzero_size (xs ++ ys) ≡ nonzero_size xs * nonzero_size ys
nonzero_size-append [] ys = omega arith
nonzero_size-append (len ∷ xs) ys =
    ap (λ n. cond (eqb len 0) n (len * n)) (nonzero_size-append xs ys) ∙ by (eqb len 0)
  where
    by : (none : Bool) → cond none (nonzero_size xs * nonzero_size ys) (len * (nonzero_size xs * nonzero_size ys))
        ≡ cond none (nonzero_size xs) (len * nonzero_size xs) * nonzero_size ys
    by true = refl
    by false = sym (mul_assoc len (nonzero_size xs) (nonzero_size ys))

-- a number past the limit is what a fault of it reports
pub overflow_reported : (large : Bool) {kind : ErrorKind} → Some kind ≡ cond large (Some Overflow) None → large ≡ true
overflow_reported true e = refl
overflow_reported false e = absurd (cc)

pub no_overflow_reported : (large : Bool) → None ≡ cond large (Some Overflow) None → large ≡ false
no_overflow_reported true e = absurd (cc)
no_overflow_reported false e = refl

-- the fault where the counts of axes fit and no length of the block is 0
pub overflow_fault : (fixed : Option ℕ) (shape counts block : List ℕ) (large : Bool)
    → (length block == length shape && allows fixed (length shape + length shape)) ≡ true → is_empty block ≡ false
    → nat_lt limit (nonzero_size counts * nonzero_size block) ≡ large
    → blocks_fault fixed shape counts block ≡ cond large (Some Overflow) None
overflow_fault fixed shape counts block large same some passes =
    ap (λ test. cond (not test) (Some IncompatibleShape)
    (cond (is_empty block) (Some Unsupported) (cond (nat_lt limit (nonzero_size (counts ++ block))) (Some Overflow) None))) same
    ∙ ap (λ empty. cond empty (Some Unsupported) (cond (nat_lt limit (nonzero_size (counts ++ block))) (Some Overflow) None)) some
    ∙ ap (λ total. cond (nat_lt limit total) (Some Overflow) None) (nonzero_size-append counts block)
    ∙ ap (λ b. cond b (Some Overflow) None) passes
