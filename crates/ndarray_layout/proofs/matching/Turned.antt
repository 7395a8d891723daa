-- What the matching says of axes as they are read, said of them in order.
use Rattle.std.proofs.Common.{◌≡◌, ℕ, ◌≤◌, false, List, length, map, sym, ap, ap₂, ◌∙◌, arith, subst, None}
use Rattle.nd_base.specs.declared.order.Order.{Order}
use Rattle.nd_base.proofs.Laws.Definitions.{below, as_read, all_signed, signed, is_empty, limit, nonzero_size, reach, span}
use Rattle.nd_base.proofs.Laws.Definitions.{IsValidLayout}
use Rattle.nd_base.proofs.Laws.NonzeroSize.{nonzero_size_of_nonempty}
use Rattle.nd_base.proofs.Laws.AsRead.{length-as_read, as_read-as_read, size-as_read, is_empty-as_read, map-as_read, sum_over_axes-as_read}
use Rattle.ndarray_layout.specs.reshape.ForcedStrides.{forced_strides, stride_at}
use Rattle.ndarray_layout.specs.reshape.SamePlaces.{Keeps}
use Rattle.ndarray_layout.specs.reshape.ReshapeFault.{reshape_fault, fault_as_read}
use Rattle.ndarray_layout.specs.private.ReshapeProgress.{CanMatch, Layouts, fault_of, layouts}
use Rattle.ndarray_layout.proofs.Laws.Keeps.{fault-exactly, forced-keeps}
use Rattle.ndarray_layout.proofs.matching.HasIndex.{HasIndex}

-- both as they are read
abbrev pub layouts_in : Order → List ℕ → List ℕ → List ℕ → Layouts
layouts_in order from strides to = layouts (as_read order from) (as_read order strides) (as_read order to)

-- a valid layout's numbers fit
pub can-match : (order : Order) {from : List ℕ} (strides to : List ℕ) → IsValidLayout from (all_signed strides) → is_empty from ≡ false
    → is_empty to ≡ false → nonzero_size to ≤ limit → CanMatch (layouts_in order from strides to)
can-match order {from} strides to valid some more fits =
    let count = valid.same_count in
    let size_fits = valid.size_fits in
    let span_fits = valid.span_fits in
    let from_count = length-as_read order from in
    let strides_count = length-as_read order (all_signed strides) in
    let turned = map-as_read order signed strides in
    let from_size = size-as_read order from in
    let to_size = size-as_read order to in
    let from_whole = nonzero_size_of_nonempty from some in
    let to_whole = nonzero_size_of_nonempty to more in
    let reached : span (as_read order from) (all_signed (as_read order strides)) ≡ span from (all_signed strides) =
    ap (span (as_read order from)) turned ∙ sum_over_axes-as_read order reach from (all_signed strides) count in
    record {
      same_count = from_count ∙ count ∙ sym strides_count ∙ sym (ap length turned);
      some = is_empty-as_read order from ∙ some;
      more = is_empty-as_read order to ∙ more;
      from_fits = omega arith;
      to_fits = omega arith;
      span_fits = omega arith;
    }

module _ {order read : Order} (from strides to : List ℕ) (is : order ≡ read) where
  pub fault-in : fault_of (layouts_in read from strides to) ≡ reshape_fault order from (all_signed strides) to
  fault-in = ap (λ ss. fault_as_read (as_read read from) ss (as_read read to)) (map-as_read read signed strides)
      ∙ sym (ap (λ o. reshape_fault o from (all_signed strides) to) is)

  pub strides-in : (out : List ℕ) → all_signed (as_read read out)
      ≡ map (stride_at (as_read read from) (all_signed (as_read read strides)) (as_read read to)) (below (length (as_read read to)))
      → all_signed out ≡ forced_strides order from (all_signed strides) to
  strides-in out made =
      sym (ap all_signed (as_read-as_read read out)) ∙ map-as_read read signed (as_read read out)
      ∙ ap (as_read read) (made ∙ ap₂ (λ ss n. map (stride_at (as_read read from) ss (as_read read to)) (below n))
      (map-as_read read signed strides) (length-as_read read to))
      ∙ sym (ap (λ o. forced_strides o from (all_signed strides) to) is)

-- layouts of equal lists are equal
pub layouts-same : {lens others news from strides to : List ℕ} → lens ≡ from → others ≡ strides → news ≡ to
    → layouts lens others news ≡ layouts from strides to
layouts-same e f g = λ i. layouts (e i) (f i) (g i)

-- strides that are those of the definition keep the places
pub keeps-filled : {order : Order} {read both : Layouts} (given : List ℕ) → read ≡ both → HasIndex both.from both.strides
    → is_empty both.to ≡ false → reshape_fault order read.from read.strides read.to ≡ None
    → all_signed given ≡ forced_strides order read.from read.strides read.to → Keeps order both.from both.strides both.to (all_signed given)
keeps-filled {order} {both = both} given e at more none made =
    let fault = subst (λ l. reshape_fault order l.from l.strides l.to ≡ None) e none in
    let forced = subst (λ l. all_signed given ≡ forced_strides order l.from l.strides l.to) e made in
    subst (Keeps order both.from both.strides both.to) (sym forced)
    (forced-keeps order both.to at more ((fault-exactly order both.from both.strides both.to).0 fault))
