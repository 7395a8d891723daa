-- Each slice that was read so far shares no index with the one; past where it stops none does.
use Rattle.std.proofs.Common.{◌<◌, ◌≤◌, inl, inr, length, map, sym, subst, ◌∙◌, below_more, arith}
use Rattle.std.specs.Prelude.{IsSomeAnd}
use Rattle.std.proofs.lemmas.Bool.{cases_lt, false≢true}
use Rattle.std.proofs.lemmas.List.{length-map}
use Rattle.nd_slice.proofs.Definitions.{AreApart, Intersect, slice_at, start_on}
use Rattle.nd_slice.proofs.Slices.{apart_in_order}
use Rattle.nd_slice.proofs.intersecting_pair.intersects_later.Goals as goal

pub returns-then-begins_past-clause-none : goal.returns-then-begins_past-clause-none
returns-then-begins_past-clause-none g c = λ k after below.
    let fit = c.args.fit in
    let shape = c.args.shape.now in
    let slices = map g.S.SliceElems.list c.args.slices.now in
    let backwards = g.R.Direction.backwards in
    let at = slice_at slices backwards k in
    let long : k < length slices = omega (arith, below, length-map c.args.slices.now g.S.SliceElems.list) in
    let past = subst (λ other. IsSomeAnd c.end_in_order-end.result (λ e. (e.0 < length shape) × (e.1 ≤ start_on fit shape e.0 other)))
    c.elems_at-other.ensures.slice (c.begins_past.ensures c.if-begins_past.true) in
    elim (cases_lt k c.loop-later.later) [
      | inl before ↦ c.loop-later.invariant k before after
      | inr from ↦ subst (λ slice. AreApart fit shape slice at) c.elems_at-slice.ensures.slice
          (apart_in_order fit shape slices backwards c.args.in_order c.end_in_order-end.result c.elems_at-slice.result.now
          c.loop-later.later k
          (record { order = c.requires.in_order; end_on_axis = c.end_in_order-end.ensures; past = past })
          (record { fits = c.elems_at-slice.ensures.fits fit shape c.requires.fit; none = c.requires.fit; after = from; below = long }))
    ]

pub loop-later-preserved : goal.loop-later-preserved
loop-later-preserved g c =
    let intersect = Intersect c.args.fit c.args.shape.now in
    below_more _ _ c.loop-later.invariant (λ after shared. false≢true (sym c.if-elems_intersect.false ∙ c.elems_intersect.ensures.1
    (subst (λ slice. intersect slice c.elems_at-other.result.now) (sym c.elems_at-slice.ensures.slice)
    (subst (intersect (slice_at (map g.S.SliceElems.list c.args.slices.now) g.R.Direction.backwards c.args.turn))
    (sym c.elems_at-other.ensures.slice) shared))))

pub returns-clause-none : goal.returns-clause-none
returns-clause-none g c = λ k after below. c.loop-later.invariant k (omega (arith, below, c.loop-later-test.false)) after
