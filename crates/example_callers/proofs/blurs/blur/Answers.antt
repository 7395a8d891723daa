-- Each index that comes is one of the windows, whose count is that of the means.
use Rattle.std.proofs.Common.{◌≡◌, ◌+◌, ◌-◌, ◌<◌, ◌++◌, true, List, [], ◌∷◌, ℕ, length, map, subst, sym, ap, ◌∙◌, arith, rules}
use Rattle.std.specs.List.{All}
use Rattle.std.specs.Prelude.{nat_lt, slice_index}
use Rattle.std.proofs.lemmas.Bool.{and_parts, ltb-true}
use Rattle.std.proofs.lemmas.List.{append_assoc}
use Rattle.std.proofs.lemmas.List.Elements.{All-head, All-tail}
use Rattle.ndarray_layout.specs.declared.Order.TheVariants.{RowMajor}
use Rattle.ndarray_layout.specs.Indices.{indices_in, is_index}
use Rattle.ndarray_layout.specs.View.{View}
use Rattle.ndarray_layout.proofs.Laws.Indices.{All-indices_in, length-indices_in}
use Rattle.example_callers.proofs.blurs.blur.Goals as goal

-- how many windows a picture has along each axis
abbrev counts : View → List ℕ
counts picture = (slice_index picture.shape 0 - 2) ∷ (slice_index picture.shape 1 - 2) ∷ []

abbrev AreWindows : View → List (List ℕ) → Type 0
AreWindows picture left = All (λ at. is_index (counts picture) at ≡ true) left

-- the first of those that are left is one of them, and so are the others
first_window : {row column : ℕ} {left rest : List (List ℕ)} (picture : View) → left ≡ (row ∷ column ∷ []) ∷ rest → AreWindows picture left
    → (row + 2 < slice_index picture.shape 0) × (column + 2 < slice_index picture.shape 1) × AreWindows picture rest
first_window {row} {column} {rest = rest} picture first all =
    let windows = subst (AreWindows picture) first all in
    let here = All-head (λ at. is_index (counts picture) at ≡ true) (row ∷ column ∷ []) rest windows in
    let parts = and_parts (nat_lt row (slice_index picture.shape 0 - 2)) _ here in
    let across = and_parts (nat_lt column (slice_index picture.shape 1 - 2)) true parts.1 in (
      omega (arith, ltb-true row (slice_index picture.shape 0 - 2) parts.0),
      omega (arith, ltb-true column (slice_index picture.shape 1 - 2) across.0),
      All-tail (λ at. is_index (counts picture) at ≡ true) (row ∷ column ∷ []) rest windows,
    )

-- one more mean is that of the first of them
one_more : (mean : List ℕ → ℕ) (means : List ℕ) (m : ℕ) {at : List ℕ} {more all : List ℕ} {left rest : List (List ℕ)}
    → more ≡ means ++ m ∷ [] → m ≡ mean at → left ≡ at ∷ rest → means ++ map mean left ≡ all → more ++ map mean rest ≡ all
one_more mean means m {rest = rest} pushed is first before =
    ap (λ more. more ++ map mean rest) pushed
    ∙ append_assoc means (m ∷ []) (map mean rest)
    ∙ ap (λ m. means ++ m ∷ map mean rest) is
    ∙ ap (λ left. means ++ map mean left) (sym first)
    ∙ before

pub loop-row-init : goal.loop-row-init
loop-row-init c =
    let picture = c.args.picture.now.view in
    let all : c.into_iter-row-iterator.result ≡ indices_in RowMajor (counts picture) = search rules in
    record {
      means = search rules;
      indices = subst (AreWindows picture) (sym all) (All-indices_in RowMajor (counts picture));
      room = search (rules, ap length all, length-indices_in RowMajor (counts picture));
    }

pub mean_at-requires-clause-row : goal.mean_at-requires-clause-row
mean_at-requires-clause-row c = (first_window c.args.picture.now.view c.in-Some.ensures.steps c.loop-row.invariant.indices).0

pub mean_at-requires-clause-column : goal.mean_at-requires-clause-column
mean_at-requires-clause-column c = (first_window c.args.picture.now.view c.in-Some.ensures.steps c.loop-row.invariant.indices).1

pub loop-row-preserved : goal.loop-row-preserved
loop-row-preserved c = record {
  means = one_more _ _ _ c.push_reserved.ensures.items c.mean_at.ensures c.in-Some.ensures.steps c.loop-row.invariant.means;
  indices = (first_window c.args.picture.now.view c.in-Some.ensures.steps c.loop-row.invariant.indices).2;
  room = search rules;
}
