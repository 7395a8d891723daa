-- The rows of a view by an axis and the axes that move slower: those that an iterator begins with.
use Rattle.std.proofs.Common.{◌≡◌, ℕ, zero, suc, ◌*◌, ◌<◌, ◌≤◌, ℤ, pos, Bool, true, false, cond}
use Rattle.std.proofs.Common.{List, [], ◌∷◌, length, map, take, nat_eq, refl, sym, ap, subst, ◌∙◌, arith}
use Rattle.std.proofs.Common.{eqb-true}
use Rattle.std.proofs.Math.Dec.{lit≤}
use Rattle.std.proofs.Math.Nat.{mul-le-mul_right}
use Rattle.std.proofs.Math.Seq.{take-length}
use Rattle.std.proofs.lemmas.Bool.{eqb-false}
use Rattle.std.proofs.lemmas.List.{nil_from_length}
use Rattle.nd_base.specs.declared.order.Order.{Order}
use Rattle.nd_base.specs.declared.order.Order.TheVariants.{RowMajor, ColumnMajor}
use Rattle.nd_base.proofs.Laws.Definitions.{all_signed, limit, place, signed, size}
use Rattle.nd_base.proofs.Laws.NonzeroSize.{size_le_nonzero_size}
use Rattle.ndarray_layout.specs.declared.strided.rows.Fastest.{Fastest}
use Rattle.ndarray_layout.specs.declared.strided.rows.Row.{Row}
use Rattle.ndarray_layout.specs.Rows.{row_at, slower_view, view_rows}
use Rattle.ndarray_layout.specs.View.{IsView, view_of, view_places}
use Rattle.ndarray_layout.specs.RowsLeft.{axis_view, moved_to, with_item}
use Rattle.ndarray_layout.specs.private.Fastest.{EndsIn, HasRows}
use Rattle.ndarray_layout.proofs.ByRows.{rows_from}
use Rattle.ndarray_layout.proofs.Fastest.{EndsIn-map, IsView-others, fastest_item-ends, length-others}
use Rattle.ndarray_layout.proofs.Fastest.{size-others, slower_items-ends}
use Rattle.ndarray_layout.proofs.SlowestAxes.{IsSlowest-all, IsSlowest-next}
use Rattle.ndarray_layout.proofs.Laws.Rows.{no_step}
use Rattle.ndarray_layout.proofs.Laws.View.{length-view_places}

-- ---- the axis of a view
-- a layout that ends in an axis is the view of it
pub axis_view-ends : {order : Order} {lens strides : List ℕ} (axis : Fastest) (start : ℕ) → EndsIn order lens axis.lens.now axis.len
    → EndsIn order strides axis.strides.now axis.stride → view_of start lens strides ≡ axis_view order start axis
axis_view-ends {order} {lens} {strides} axis start e g =
    ap (λ xs. view_of start xs strides) e.is
    ∙ ap (view_of start (with_item order axis.lens.now axis.len)) g.is

pub HasRows-ends : {order : Order} {lens strides : List ℕ} (axis : Fastest) → EndsIn order lens axis.lens.now axis.len
    → EndsIn order strides axis.strides.now axis.stride → HasRows order lens strides axis
HasRows-ends {order} {lens} {strides} axis e g = record {
  slower_lens = IsSlowest-next (IsSlowest-all order lens) e;
  slower_strides = IsSlowest-next (IsSlowest-all order strides) g;
  one_less = omega (arith, length-others e);
  is_view = λ start v. subst IsView (axis_view-ends axis start e g) v;
  rows = λ start v. ap (view_rows order) (sym (axis_view-ends axis start e g));
}

-- without axes there is one place, as along an axis of length 1
abbrev pub IsPoint : Fastest → Type 0
IsPoint axis = (axis.len ≡ 1) × (axis.stride ≡ 0) × (axis.lens.now ≡ []) × (axis.strides.now ≡ [])

point_view : (order : Order) (start : ℕ) (axis : Fastest) → IsPoint axis → axis_view order start axis ≡ view_of start (1 ∷ []) (0 ∷ [])
point_view RowMajor start axis point = rw (point.0, point.1, point.2, point.3) refl
point_view ColumnMajor start axis point = rw (point.0, point.1, point.2, point.3) refl

point_is_view : (start : ℕ) → start ≤ limit → IsView (view_of start (1 ∷ []) (0 ∷ []))
point_is_view start fits = record {
  valid = record { same_count = refl; size_fits = lit≤ tt; span_fits = lit≤ tt };
  low = omega arith;
  high = omega (arith, fits);
}

point_rows : (order : Order) (start : ℕ) → view_rows order (view_of start (1 ∷ []) (0 ∷ [])) ≡ view_rows order (view_of start [] [])
point_rows RowMajor start = refl
point_rows ColumnMajor start = refl

module _ (order : Order) (lens strides : List ℕ) (axis : Fastest) (point : IsPoint axis) (none : lens ≡ [])
    (counts : length lens ≡ length strides) where
  no_strides : strides ≡ []
  no_strides = nil_from_length strides (omega (arith, counts, ap length none))

  nothing : (start : ℕ) → view_of start lens strides ≡ view_of start [] []
  nothing start = ap (λ xs. view_of start xs strides) none ∙ ap (view_of start []) no_strides

  point_here : (start : ℕ) → IsView (view_of start lens strides) → IsView (axis_view order start axis)
  point_here start v = subst IsView (sym (point_view order start axis point)) (point_is_view start (omega (arith, v.high)))

  pub HasRows-point : HasRows order lens strides axis
  HasRows-point = record {
    slower_lens = rw (none, point.2) (IsSlowest-all order []);
    slower_strides = rw (no_strides, point.3) (IsSlowest-all order []);
    one_less = rw (none, point.2) refl;
    is_view = point_here;
    rows = λ start v. ap (view_rows order) (point_view order start axis point) ∙ point_rows order start
        ∙ sym (ap (view_rows order) (nothing start));
  }

-- ---- an axis of length 1 moves no place
pub rows_of_one : (stride : ℤ) (places : List ℤ) → rows_from stride 1 places ≡ places
rows_of_one stride [] = refl
rows_of_one stride (place ∷ places) =
    ap (λ z. z ∷ rows_from stride 1 places) (no_step place stride) ∙ ap (λ others. place ∷ others) (rows_of_one stride places)

-- ---- the rows along an axis, from the places of the others
module _ (order : Order) (start : ℕ) (axis : Fastest) where
  pub ends : EndsIn order (with_item order axis.lens.now axis.len) axis.lens.now axis.len
  ends = record { is = refl }

  pub steps : EndsIn order (all_signed (with_item order axis.strides.now axis.stride)) (all_signed axis.strides.now) (signed axis.stride)
  steps = EndsIn-map signed (record { is = refl })

  pub size-axis_view : size (axis_view order start axis).shape ≡ axis.len * size axis.lens.now
  size-axis_view = size-others ends

  pub slower-axis_view : slower_view order (axis_view order start axis) ≡ view_of start axis.lens.now axis.strides.now
  slower-axis_view = rw (slower_items-ends ends, slower_items-ends steps) refl

  pub row-axis_view : (row : Row) → row.stride ≡ signed axis.stride → row.len ≡ axis.len
      → (place : ℤ) → moved_to row place ≡ row_at order (axis_view order start axis) place
  row-axis_view row e g place = rw (fastest_item-ends (pos 0) steps, fastest_item-ends 1 ends, e, g) refl

  pub IsView-slower : IsView (axis_view order start axis) → IsView (view_of start axis.lens.now axis.strides.now)
  IsView-slower v = IsView-others order ends steps v

map_all : {A B : Type 0} (f g : A → B) → ((x : A) → f x ≡ g x) → (xs : List A) → map f xs ≡ map g xs
map_all f g same [] = refl
map_all f g same (x ∷ xs) = rw (same x, map_all f g same xs) refl

pub factor_of_some : (a b : ℕ) → 0 < a * b → 0 < a
factor_of_some zero b some = absurd (omega arith)
factor_of_some (suc a) b some = omega arith

other_factor : (a b : ℕ) → (a ≡ 0 → ⊥) → a * b ≡ 0 → b ≡ 0
other_factor zero b some none = absurd (some refl)
other_factor (suc a) b some none = omega arith

pub few_or_none : (none : Bool) (size rows : ℕ) → rows ≡ cond none 0 size → rows ≤ size
few_or_none true size rows e = omega (arith, e)
few_or_none false size rows e = omega (arith, e)

-- as many as the slower axes have indices, or none where they have no place
module _ (order : Order) (start : ℕ) (axis : Fastest) (v : IsView (axis_view order start axis)) {rows : ℕ}
    (count : rows ≡ cond (nat_eq axis.len 0) 0 (size axis.lens.now)) where
  abbrev starts : List ℤ
  starts = view_places order (view_of start axis.lens.now axis.strides.now)

  pub few_rows : rows ≤ size axis.lens.now
  few_rows = few_or_none (nat_eq axis.len 0) (size axis.lens.now) rows count

  pub rows_fit : rows * axis.len ≤ limit
  rows_fit = omega (
    arith,
    mul-le-mul_right axis.len few_rows,
    size-axis_view order start axis,
    size_le_nonzero_size (axis_view order start axis).shape,
    v.valid.size_fits,
  )

  -- they are the rows of the view
  left_of : (none empty : Bool) → nat_eq axis.len 0 ≡ none → nat_eq (size (axis_view order start axis).shape) 0 ≡ empty
      → rows ≡ cond none 0 (size axis.lens.now) → length starts ≡ size axis.lens.now → take rows starts ≡ cond empty [] starts
  left_of true true e g count all = ap (λ n. take n starts) count
  left_of false true e g count all =
      let no_size = sym (size-axis_view order start axis) ∙ eqb-true (size (axis_view order start axis).shape) 0 g in
      let no_rows : rows ≡ 0 = omega (arith, count, other_factor axis.len (size axis.lens.now) (eqb-false axis.len 0 e) no_size) in
      ap (λ n. take n starts) no_rows
  left_of true false e g count all =
      absurd (eqb-false (size (axis_view order start axis).shape) 0 g
      (size-axis_view order start axis ∙ ap (λ n. n * size axis.lens.now) (eqb-true axis.len 0 e) ∙ omega arith))
  left_of false false e g count all = ap (λ n. take n starts) (count ∙ sym all) ∙ take-length starts

  none_or_map : {A B : Type 0} (g : A → B) (empty : Bool) (xs : List A) → map g (cond empty [] xs) ≡ cond empty [] (map g xs)
  none_or_map g true xs = refl
  none_or_map g false xs = refl

  pub first_rows : (row : Row) → row.stride ≡ signed axis.stride → row.len ≡ axis.len
      → map (moved_to row) (take rows starts) ≡ view_rows order (axis_view order start axis)
  first_rows row steps long =
      let view = axis_view order start axis in
      let empty = nat_eq (size view.shape) 0 in
      ap (map (moved_to row)) (left_of (nat_eq axis.len 0) empty refl refl count
      (length-view_places order (view_of start axis.lens.now axis.strides.now)))
      ∙ map_all (moved_to row) (row_at order view) (row-axis_view order start axis row steps long) (cond empty [] starts)
      ∙ none_or_map (row_at order view) empty starts
      ∙ ap (λ v. cond empty [] (map (row_at order view) (view_places order v))) (sym (slower-axis_view order start axis))
