-- Of a list with an item for each axis those of the axes that move slowest.
use Rattle.std.proofs.Common.{◌≡◌, ℕ, ◌+◌, ◌-◌, ◌≤◌, List, [], ◌∷◌, drop, length, map, take, sym, ap, ◌∙◌, arith}
use Rattle.std.proofs.Math.Seq.{take-append_seam, take-length}
use Rattle.std.proofs.lemmas.List.{drop-drop, drop-map, length-map, take-map, take-take}
use Rattle.nd_base.specs.declared.order.Order.{Order}
use Rattle.nd_base.specs.declared.order.Order.TheVariants.{RowMajor, ColumnMajor}
use Rattle.ndarray_layout.specs.NumberedRows.{slowest}
use Rattle.ndarray_layout.specs.RowsLeft.{with_item}
use Rattle.ndarray_layout.specs.private.Fastest.{EndsIn, IsSlowest}
use Rattle.ndarray_layout.proofs.Fastest.{length-others}

-- all of them are
slowest-all : {A : Type 0} (order : Order) (items : List A) → slowest order (length items) items ≡ items
slowest-all RowMajor items = take-length items
slowest-all ColumnMajor items =
    let none : length items - length items ≡ 0 = omega arith in
    ap (λ n. drop n items) none

pub IsSlowest-all : {A : Type 0} (order : Order) (items : List A) → IsSlowest order items items
IsSlowest-all order items = record { few = omega arith; is = slowest-all order items }

-- and without the one of them that moves fastest the others are
without_fastest : {A : Type 0} (order : Order) (items others : List A) (item : A) → length others + 1 ≤ length items
    → slowest order (length others + 1) items ≡ with_item order others item → slowest order (length others) items ≡ others
without_fastest RowMajor items others item few is =
    sym (take-take (length others) (length others + 1) items (omega arith))
    ∙ ap (take (length others)) is
    ∙ take-append_seam others (item ∷ [])
without_fastest ColumnMajor items others item few is =
    let more : length items - length others ≡ length items - (length others + 1) + 1 = omega (arith, few) in
    ap (λ n. drop n items) more
    ∙ sym (drop-drop 1 (length items - (length others + 1)) items)
    ∙ ap (drop 1) is

pub IsSlowest-next : {A : Type 0} {order : Order} {items these others : List A} {item : A} → IsSlowest order items these
    → EndsIn order these others item → IsSlowest order items others
IsSlowest-next {order = order} {items = items} {these = these} {others = others} {item = item} s e =
    let count = length-others e in
    record {
      few = omega (arith, s.few, count);
      is = without_fastest order items others item (omega (arith, s.few, count))
          (ap (λ n. slowest order n items) (sym count) ∙ s.is ∙ e.is);
    }

-- of each of them as of it
pub slowest-map : {A B : Type 0} (order : Order) (f : A → B) (count : ℕ) (items : List A)
    → slowest order count (map f items) ≡ map f (slowest order count items)
slowest-map RowMajor f count items = take-map f count items
slowest-map ColumnMajor f count items =
    ap (λ n. drop (n - count) (map f items)) (length-map items f) ∙ drop-map f (length items - count) items
