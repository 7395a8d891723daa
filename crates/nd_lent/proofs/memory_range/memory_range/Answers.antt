-- By the rule of contiguous layouts the places fill an interval or don't; it begins the low span below the start.
use Rattle.std.proofs.Common.{◌≡◌, ◌-◌, ℕ, false, sym, refl, ap, ◌∙◌}
use Rattle.ndarray_layout.specs.OneInterval.{FillsInterval}
use Rattle.ndarray_layout.specs.Size.{is_empty}
use Rattle.ndarray_layout.specs.Span.{low_span}
use Rattle.nd_lent.specs.SplitItems.{lowest}
use Rattle.nd_lent.proofs.MemoryRange.{fills_none, none_marked, range_marked}
use Rattle.nd_lent.proofs.memory_range.memory_range.Goals as goal

pub returns-then-is_empty-clause-found : goal.returns-then-is_empty-clause-found
returns-then-is_empty-clause-found g c =
    let view = c.args.view.now in
    (λ yes. fills_none view.shape view.strides (sym c.is_empty.ensures.empty ∙ c.if-is_empty.true), λ fills. refl)

pub returns-then-is_empty-clause-marked : goal.returns-then-is_empty-clause-marked
returns-then-is_empty-clause-marked g c = λ marks all. none_marked marks

pub returns-clause-marked : goal.returns-clause-marked
returns-clause-marked g c =
    let view = c.args.view.now in
    let some : is_empty view.shape ≡ false = sym c.is_empty.ensures.empty ∙ c.if-is_empty.false in
    let fills : FillsInterval view.shape view.strides =
    rw (← c.dim-dim.ensures.list, ← c.strides-strides.ensures.list)
    ((c.if-not-is_contiguous.ensures.exact (rw c.dim-dim.ensures.list some)).0 refl) in
    let low : c.offset_from_low_addr_ptr_to_logical_ptr-low.result ≡ low_span view.shape view.strides =
    rw (← c.dim-dim.ensures.list, ← c.strides-strides.ensures.list) c.offset_from_low_addr_ptr_to_logical_ptr-low.ensures in
    let start = c.start.result - c.offset_from_low_addr_ptr_to_logical_ptr-low.result in
    let first : start ≡ lowest view =
    ap (λ (n : ℕ). n - c.offset_from_low_addr_ptr_to_logical_ptr-low.result) c.start.ensures.place
    ∙ ap (λ (n : ℕ). view.start - n) low in
    range_marked view c.start.ensures.is_view some fills start c.len.result first c.len.ensures.size
