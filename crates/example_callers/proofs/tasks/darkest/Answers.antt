-- An index has the least pixel, and none has a smaller one.
use Rattle.std.proofs.Common.{◌≡◌, ℕ, ◌≤◌, true, false, Option, Some, None, IfSome, List, map}
use Rattle.std.proofs.lemmas.Map.Keys.{ge_from_not_lt}
use Rattle.std.specs.Option.{option_map_or}
use Rattle.std.specs.Ordering.{is_lt, nat_cmp}
use Rattle.ndarray_layout.specs.declared.Order.TheVariants.{RowMajor}
use Rattle.ndarray_layout.specs.Indices.{is_index}
use Rattle.ndarray_layout.specs.View.{view_places}
use Rattle.nd_lent.specs.Extremes.{IsFirstOf}
use Rattle.nd_owned.specs.Owned.{ArrayValue, item_at, item_at_place}
use Rattle.nd_lent.proofs.Laws.FirstItems.{index_of_first, none_before_first}
use Rattle.example_callers.proofs.tasks.darkest.Goals as goal

pub returns-clause-is_one : goal.returns-clause-is_one
returns-clause-is_one g c = index_of_first _ c.args.picture.now c.min.result c.min.ensures.least

none_below : (least : ℕ) (pixel : Option ℕ) → option_map_or (λ other. is_lt (nat_cmp other least)) pixel false ≡ false
    → IfSome pixel (λ n. least ≤ n)
none_below least None none = tt
none_below least (Some n) none = ge_from_not_lt n least none

none_darker : (picture : ArrayValue ℕ) (found : Option ℕ)
    → IfSome found (IsFirstOf (λ one other. is_lt (nat_cmp one other))
    (map (item_at_place picture.items) (view_places RowMajor picture.view)))
    → IfSome found (λ least. (index : List ℕ) → is_index picture.view.shape index ≡ true
    → IfSome (item_at picture index) (λ pixel. least ≤ pixel))
none_darker picture None is = tt
none_darker picture (Some least) is = λ index here.
    none_below least (item_at picture index) (none_before_first (λ one other. is_lt (nat_cmp one other)) picture (Some least) is index here)

pub returns-clause-none_darker : goal.returns-clause-none_darker
returns-clause-none_darker g c = none_darker c.args.picture.now c.min.result c.min.ensures.least
