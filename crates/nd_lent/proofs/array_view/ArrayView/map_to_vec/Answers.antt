-- The results at the items of all indices are listed.
use Rattle.std.proofs.Common.{◌≡◌, ap, length, map, subst, sym, arith, ◌∙◌}
use Rattle.std.specs.Iterator.{CallableOnAllAt}
use Rattle.std.proofs.lemmas.List.{length-map}
use Rattle.ndarray_layout.specs.declared.Order.TheVariants.{RowMajor}
use Rattle.ndarray_layout.specs.Size.{size}
use Rattle.ndarray_layout.specs.View.{view_places}
use Rattle.ndarray_layout.proofs.Laws.View.{length-view_places}
use Rattle.nd_access.specs.Items.{ArrayValue, item_at_place}
use Rattle.nd_access.specs.Mapped.{gives}
use Rattle.nd_access.proofs.Laws.IndexItems.{items_in_order}
use Rattle.nd_access.proofs.Laws.Pushed.{count_listed, mapped_listed, ran_listed}
use Rattle.nd_lent.proofs.array_view.ArrayView.map_to_vec.Goals as goal

many : {T : Type 0} (array : ArrayValue T)
    → length (map (item_at_place array.items) (view_places RowMajor array.view)) ≡ size array.view.shape
many array = length-map (view_places RowMajor array.view) (item_at_place array.items) ∙ length-view_places RowMajor array.view

pub push_items-requires-clause-callable : goal.push_items-requires-clause-callable
push_items-requires-clause-callable g c =
    subst (λ items. CallableOnAllAt gives g.F.FnMut items c.args.f) (sym (c.iter.ensures.items ∙ items_in_order c.args.self.now)) c.requires

pub returns-then-row_len-gt-FEW-clause-ran : goal.returns-then-row_len-gt-FEW-clause-ran
returns-then-row_len-gt-FEW-clause-ran g c =
    ran_listed c.in_ok-made.ensures.items c.push_items.ensures (c.iter.ensures.items ∙ items_in_order c.args.self.now)

pub returns-then-row_len-gt-FEW-clause-mapped : goal.returns-then-row_len-gt-FEW-clause-mapped
returns-then-row_len-gt-FEW-clause-mapped g c = λ h acts.
    mapped_listed c.in_ok-made.ensures.items c.push_items.ensures (c.iter.ensures.items ∙ items_in_order c.args.self.now) h acts

pub push_rows-requires-clause-callable : goal.push_rows-requires-clause-callable
push_rows-requires-clause-callable g c =
    subst (λ items. CallableOnAllAt gives g.F.FnMut items c.args.f) (sym (c.joined_rows-rows.ensures ∙ items_in_order c.args.self.now))
    c.requires

pub push_rows-requires-clause-room : goal.push_rows-requires-clause-room
push_rows-requires-clause-room g c = omega (
  arith,
  c.len.ensures,
  c.in_ok-made.ensures.len,
  c.in_ok-made.ensures.exact,
  ap length c.joined_rows-rows.ensures,
  many c.args.self.now,
)

pub returns-clause-ran : goal.returns-clause-ran
returns-clause-ran g c =
    ran_listed c.in_ok-made.ensures.items c.push_rows.ensures (c.joined_rows-rows.ensures ∙ items_in_order c.args.self.now)

pub returns-clause-count : goal.returns-clause-count
returns-clause-count g c = omega (
  arith,
  count_listed c.in_ok-made.ensures.items c.push_rows.ensures,
  ap length c.joined_rows-rows.ensures,
  many c.args.self.now,
)

pub returns-clause-mapped : goal.returns-clause-mapped
returns-clause-mapped g c = λ h acts.
    mapped_listed c.in_ok-made.ensures.items c.push_rows.ensures (c.joined_rows-rows.ensures ∙ items_in_order c.args.self.now) h acts
