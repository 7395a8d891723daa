-- What the slices of an edit pick of an axis.
use Rattle.std.proofs.Common.{◌≡◌, ℕ, ◌+◌, ◌-◌, ◌*◌, ◌<◌, ℤ, pos, negsuc, true, ltb, leb, Some, None, length, get_or, refl, sym, ap, ◌∙◌}
use Rattle.std.proofs.Common.{subst, lit<, arith, rules}
use Rattle.std.specs.Int.{div_ceil}
use Rattle.std.specs.Prelude.{IsFalse, ◌==◌}
use Rattle.std.proofs.lemmas.Bool.{le-leb, ltb-true, ne_eqb}
use Rattle.ndarray_layout.specs.declared.Fit.TheVariants.{Strict}
use Rattle.ndarray_layout.specs.declared.Slice.{Slice}
use Rattle.ndarray_layout.specs.Picks.{picks}
use Rattle.ndarray_layout.specs.SliceBounds.{slice_with}
use Rattle.ndarray_layout.specs.Signed.{magnitude}
use Rattle.ndarray_layout.specs.AxisFault.{SliceFits}
use Rattle.ndarray_layout.proofs.Laws.Between.{pick_up, pick_down}
use Rattle.ndarray_layout.proofs.Laws.Picks.{length-picks}

-- a slice fits an axis, and picks so many coordinates of it, the one at each position as given
pub record IsPick (len : ℕ) (slice : Slice) (picked : ℕ) (from : ℕ → ℕ) : Type 0 where
  pub fits : SliceFits Strict len slice
  pub count : length (picks Strict len slice) ≡ picked
  pub coordinate : (j : ℕ) → j < picked → get_or (picks Strict len slice) j 0 ≡ from j

ceil_by_one : (n : ℕ) → div_ceil n 1 ≡ n
ceil_by_one n = search (arith, rules)

all_of : (len n : ℕ) → div_ceil (len - 0) n ≡ div_ceil len n
all_of len n = let same : len - 0 ≡ len = omega arith in ap (λ (m : ℕ). div_ceil m n) same

-- a slice that fits picks so many, and the one at each position of the picks as given
picks_so : (len : ℕ) (slice : Slice) (picked : ℕ) (from : ℕ → ℕ) → SliceFits Strict len slice → length (picks Strict len slice) ≡ picked
    → ((j : ℕ) → j < length (picks Strict len slice) → get_or (picks Strict len slice) j 0 ≡ from j) → IsPick len slice picked from
picks_so len slice picked from fits count coordinate =
    record { fits = fits; count = count; coordinate = λ j h. coordinate j (subst (λ n. j < n) (sym count) h) }

-- a range between two bounds, by a step of one upward or downward
span_fits : (len start end : ℕ) (step : ℤ) → leb start len ≡ true → leb end len ≡ true → IsFalse (magnitude step == 0)
    → SliceFits Strict len (slice_with (pos start) (Some (pos end)) step)
span_fits len start end step first last moves = record { start_within = first; end_within = last; step_moves = moves }

pub of_span : (len start end : ℕ) → leb start len ≡ true → leb end len ≡ true
    → IsPick len (slice_with (pos start) (Some (pos end)) (pos 1)) (end - start) (λ j. start + j)
of_span len start end first last =
    let slice = slice_with (pos start) (Some (pos end)) (pos 1) in
    let fits = span_fits len start end (pos 1) first last refl in
    picks_so len slice (end - start) (λ j. start + j) fits (length-picks Strict len slice fits ∙ ceil_by_one (end - start))
    (λ j h. (let picked = pick_up 1 start end j (lit< tt) h in omega (arith, picked)))

-- all of an axis, from the first or from the last coordinate on
axis_fits : (len : ℕ) (step : ℤ) → IsFalse (magnitude step == 0) → SliceFits Strict len (slice_with (pos 0) None step)
axis_fits len step moves =
    record { start_within = le-leb 0 len (omega arith); end_within = le-leb len len (omega arith); step_moves = moves }

pub turned : (len : ℕ) → IsPick len (slice_with (pos 0) None (negsuc 0)) len (λ j. len - 1 - j)
turned len =
    let slice = slice_with (pos 0) None (negsuc 0) in
    let fits = axis_fits len (negsuc 0) refl in
    picks_so len slice len (λ j. len - 1 - j) fits (length-picks Strict len slice fits ∙ (all_of len 1 ∙ ceil_by_one len))
    (λ j h. (let picked = pick_down 0 0 len j h in omega (arith, picked)))

pub by_step : (len step : ℕ) → ltb 0 step ≡ true → IsPick len (slice_with (pos 0) None (pos step)) (div_ceil len step) (λ j. j * step)
by_step len step moves =
    let slice = slice_with (pos 0) None (pos step) in
    let fits = axis_fits len (pos step) (ne_eqb step 0 (λ e. omega (arith, ltb-true 0 step moves))) in
    picks_so len slice (div_ceil len step) (λ j. j * step) fits (length-picks Strict len slice fits ∙ all_of len step)
    (λ j h. (let picked = pick_up step 0 len j (ltb-true 0 step moves) h in omega (arith, picked)))

pub all : (len : ℕ) → IsPick len (slice_with (pos 0) None (pos 1)) len (λ j. j)
all len =
    let by_one = by_step len 1 refl in
    record {
      fits = by_one.fits;
      count = by_one.count ∙ ceil_by_one len;
      coordinate = λ j h. by_one.coordinate j
          (subst (λ n. j < n) (sym (ceil_by_one len)) h) ∙ omega arith;
    }
