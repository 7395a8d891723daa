-- Where a call returns true, its pixel is brighter and is that of an index; else no pixel is.
use Rattle.std.proofs.Common.{rules, ◌<◌, ◌≤◌, Option, Some, None, IfSome, length, get_or, map, refl, subst, sym, arith, ℕ}
use Rattle.std.specs.Bool.{MatchBool}
use Rattle.std.specs.List.{AllWithin, HoldsAt}
use Rattle.std.specs.Prelude.{IsSomeAnd}
use Rattle.std.proofs.lemmas.Iterator.{cases_from_any}
use Rattle.std.proofs.lemmas.Iterator.Consumers.{YieldsList-from_first}
use Rattle.std.proofs.lemmas.Iterator.Search.{true_from_Any}
use Rattle.std.proofs.lemmas.List.{get_or_default}
use Rattle.ndarray_layout.specs.declared.Order.TheVariants.{RowMajor}
use Rattle.ndarray_layout.specs.View.{view_places}
use Rattle.nd_owned.specs.Owned.{item_at_place}
use Rattle.nd_lent.proofs.Laws.IndexItems.{Contains-item_at, index_of_item}
use Rattle.example_callers.proofs.tasks.is_brighter.Goals as goal

not_both : (bound : ℕ) (pixel : Option ℕ) → IsSomeAnd pixel (λ n. bound < n) → IfSome pixel (λ n. n ≤ bound) → ⊥
not_both bound None bright dim = bright
not_both bound (Some n) bright dim = absurd (omega (arith, bright, dim))

pub returns : goal.returns
returns g c =
    let picture = c.args.picture.now in
    let items = map (item_at_place picture.items) (view_places RowMajor picture.view) in
    let Bright : Option ℕ → Type 0 = λ item. IsSomeAnd item (λ pixel. c.args.bound < pixel) in
    let Dim : Option ℕ → Type 0 = λ item. IfSome item (λ pixel. pixel ≤ c.args.bound) in
    let cases = cases_from_any _ _ c.any.result Bright Dim c.any.ensures.ran.1
    (YieldsList-from_first (λ item. Some item.now) (λ left. left) items refl)
    (λ x q called. search (rules, called)) (λ x q called. (search (rules, called), search (rules, called))) in (
      λ yes.
          let found = subst (λ b. MatchBool b ((k : ℕ) × (k < length items) × HoldsAt Bright items k)
          (AllWithin Dim items 0 (length items))) yes cases in
          let item = get_or items found.0 None in
          let here = index_of_item picture item (found.0, found.1, get_or_default items found.0 item None found.1) in
          (here.0, here.1.of_shape, subst Bright (sym here.1.item) (found.2 None)),
      λ some. true_from_Any Bright Dim c.any.result items (not_both c.args.bound) cases _
          (Contains-item_at picture some.0 some.1) some.2,
    )
