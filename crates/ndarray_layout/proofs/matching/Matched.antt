-- A turn of the matching with what it writes, and all turns.
use Rattle.std.proofs.Common.{◌≡◌, ◌≢◌, ℕ, false, ◌*◌, ◌<◌, ◌≤◌, ℤ, List, [], ◌∷◌, ◌++◌, length, get_or, map}
use Rattle.std.proofs.Common.{append-nil, sym, ap, ◌∙◌, arith, subst, Some, None, length-append}
use Rattle.std.proofs.Math.Nat.{mul-le-mul_left}
use Rattle.std.proofs.lemmas.List.{append_assoc, length-map, map-append}
use Rattle.nd_base.specs.declared.error.ErrorKind.TheVariants.{IncompatibleShape}
use Rattle.nd_base.proofs.Laws.Definitions.{all_signed, below, is_empty, signed, size}
use Rattle.nd_base.proofs.Laws.Size.{size_of_nonempty}
use Rattle.ndarray_layout.specs.reshape.Joints.{has_bad_joint}
use Rattle.ndarray_layout.specs.private.ReshapeProgress.{CanMatch, GoesOn, IsBlock, IsTurn, Layouts, Writes, WritesBlock, block_strides}
use Rattle.ndarray_layout.specs.private.ReshapeProgress.{fault_of, forced, forced_at, with_from, with_to}
use Rattle.ndarray_layout.proofs.matching.BadJoints.{bad-single}
use Rattle.ndarray_layout.proofs.matching.Blocks.{length-block_strides, writes-none, writes-through}
use Rattle.ndarray_layout.proofs.matching.Faults.{fault-none, fault-shape}
use Rattle.ndarray_layout.proofs.matching.HasIndex.{is_empty-rest, some-len}
use Rattle.ndarray_layout.proofs.matching.Turns.{goes-through, turn-both, turn-from-one, turn-to-one}

-- ---- turns one after another
pub turn-through : {both middle rest : Layouts} {out next others : List ℕ} → IsTurn both out middle next → IsTurn middle next rest others
    → IsTurn both out rest others
turn-through {rest = rest} first next =
    let count = first.count in
    let more = next.count in
    let goes = goes-through first.goes_on next.goes_on in
    record {
      news = first.news ++ next.news;
      count = omega (arith, length-append first.news next.news);
      goes_on = record {
        can_match = goes.can_match;
        fault = goes.fault;
        strides = λ none. goes.strides none
            ∙ sym (ap (λ ss. ss ++ forced rest) (map-append signed first.news next.news)
            ∙ append_assoc (all_signed first.news) (all_signed next.news) (forced rest));
      };
      written = writes-through first.news next.news next.count first.written next.written;
    }

-- ---- one turn, by the first axes
module _ {both : Layouts} (can : CanMatch both) {out others : List ℕ} where
  pub both-read : {len new_len stride : ℕ} {from to : List ℕ} {strides : List ℤ} → both.from ≡ len ∷ from
      → both.strides ≡ signed stride ∷ strides
      → both.to ≡ new_len ∷ to → len ≡ new_len
      → {after : ℕ} → after ≡ length to → Writes after (stride ∷ []) out others
      → IsTurn both out (record { from = from; strides = strides; to = to }) others
  both-read {len} {stride = stride} {from} {to} {strides} e f g same at written =
      let rest : Layouts = record { from = from; strides = strides; to = to } in
      let split : both ≡ with_from len (signed stride) (with_to len rest) =
      λ i. record { from = e i; strides = f i; to = (g ∙ ap (λ n. n ∷ to) (sym same)) i } in
      subst (λ b. IsTurn b out rest others) (sym split) (record {
        news = stride ∷ [];
        count = omega arith;
        goes_on = turn-both (subst CanMatch split can);
        written = subst (λ n. Writes n (stride ∷ []) out others) at written;
      })

  pub to-read : {len : ℕ} {to : List ℕ} → both.to ≡ len ∷ to → len ≡ 1 → get_or both.from 0 0 ≢ 1
      → {after : ℕ} → after ≡ length to → Writes after (1 ∷ []) out others
      → IsTurn both out (record { from = both.from; strides = both.strides; to = to }) others
  to-read {to = to} g one longer at written =
      let rest : Layouts = record { from = both.from; strides = both.strides; to = to } in
      let split : both ≡ with_to 1 rest =
      λ i. record { from = both.from; strides = both.strides; to = (g ∙ ap (λ n. n ∷ to) one) i } in
      subst (λ b. IsTurn b out rest others) (sym split) (record {
        news = 1 ∷ [];
        count = omega arith;
        goes_on = turn-to-one {rest = rest} (subst CanMatch split can) longer;
        written = subst (λ n. Writes n (1 ∷ []) out others) at written;
      })

pub block-read : {both rest : Layouts} (stride : ℕ) {lens out others : List ℕ} {after : ℕ} (block : IsBlock both (signed stride) rest)
    → lens ≡ block.lens → after ≡ length rest.to → WritesBlock after (block_strides lens (signed stride)) out others
    → IsTurn both out rest others
block-read {rest = rest} stride {lens} {out} {others} block same at writes = record {
  news = writes.news;
  count =
      omega (
        arith,
        ap length block.front,
        length-append block.lens rest.to,
        ap length writes.strides_are,
        ap length same,
        length-map writes.news signed,
        length-block_strides lens (signed stride),
      );
  goes_on = record {
    can_match = block.goes_on.can_match;
    fault = block.goes_on.fault;
    strides = λ none. block.goes_on.strides none
        ∙ ap (λ ss. ss ++ forced rest) (sym (writes.strides_are ∙ ap (λ ns. block_strides ns (signed stride)) same));
  };
  written = subst (λ n. Writes n writes.news out others) at writes.written;
}

pub from-goes : {both : Layouts} {len : ℕ} {s : ℤ} {from : List ℕ} {strides : List ℤ} → CanMatch both → both.from ≡ len ∷ from
    → both.strides ≡ s ∷ strides → len ≡ 1 → get_or both.to 0 0 ≢ 1
    → GoesOn both (λ ss. ss) (record { from = from; strides = strides; to = both.to })
from-goes {both} {s = s} {from} {strides} can e f one longer =
    let rest : Layouts = record { from = from; strides = strides; to = both.to } in
    let split : both ≡ with_from 1 s rest = λ i. record { from = (e ∙ ap (λ n. n ∷ from) one) i; strides = f i; to = both.to } in
    subst (λ b. GoesOn b (λ ss. ss) rest) (sym split) (turn-from-one (subst CanMatch split can) longer)

-- where no axis of the new shape is read, none is written
pub turn-passed : {both rest : Layouts} (out : List ℕ) → both.to ≡ rest.to → GoesOn both (λ ss. ss) rest → IsTurn both out rest out
turn-passed out same goes = record { news = []; count = omega (arith, ap length same); goes_on = goes; written = writes-none out }

-- ---- one of the shapes is at its end
pub none-longer : {lens : List ℕ} → lens ≡ [] → get_or lens 0 0 ≢ 1
none-longer e one = let none = ap (λ xs. get_or xs 0 0) e in omega arith

-- and the other one has a longer axis
longer-size : {lens rest : List ℕ} {len : ℕ} → lens ≡ len ∷ rest → is_empty lens ≡ false → len ≢ 1 → 1 < size lens
longer-size {rest = rest} {len} e some longer =
    let filled : is_empty (len ∷ rest) ≡ false = sym (ap is_empty e) ∙ some in
    let here = some-len len rest filled in
    let more : len * 1 ≤ len * size rest = mul-le-mul_left len (size_of_nonempty rest (is_empty-rest len rest filled)) in
    omega (arith, ap size e, longer)

module _ {both : Layouts} (can : CanMatch both) {len : ℕ} {rest : List ℕ} where
  pub from-over-fault : both.from ≡ [] → both.to ≡ len ∷ rest → len ≢ 1 → fault_of both ≡ Some IncompatibleShape
  from-over-fault e g longer =
      let more = longer-size g can.more longer in
      let single : size both.from ≡ 1 = ap size e in
      fault-shape both.from both.strides both.to (ap (λ xs. has_bad_joint xs both.strides both.to) e) (λ same. omega arith)

  pub to-over-fault : both.to ≡ [] → both.from ≡ len ∷ rest → len ≢ 1 → fault_of both ≡ Some IncompatibleShape
  to-over-fault e g longer =
      let more = longer-size g can.some longer in
      let single : size both.to ≡ 1 = ap size e in
      fault-shape both.from both.strides both.to
      (bad-single both.from both.strides both.to (record { same_count = can.same_count; some = can.some }) single) (λ same. omega arith)

-- ---- both are at their ends
module _ {both rest : Layouts} {out others : List ℕ} (turn : IsTurn both out rest others) (e : rest.from ≡ []) (g : rest.to ≡ []) where
  pub all-fault : fault_of both ≡ None
  all-fault =
      turn.goes_on.fault ∙ fault-none rest.from rest.strides rest.to (ap size e ∙ sym (ap size g))
      (ap (λ xs. has_bad_joint xs rest.strides rest.to) e)

  pub all-strides : length out ≡ length both.to → all_signed others ≡ forced both
  all-strides room =
      let none : length rest.to ≡ 0 = ap length g in
      let count : length out ≡ length turn.news = omega (arith, turn.count) in
      ap all_signed (turn.written [] out [] (sym (append-nil out)) count (sym none) ∙ append-nil turn.news)
      ∙ sym (turn.goes_on.strides all-fault ∙ ap (λ to. all_signed turn.news ++ map (forced_at rest) (below (length to))) g
      ∙ append-nil (all_signed turn.news))
