-- Of the only layout no axis joins any more, so no longer row begins it.
use Rattle.std.proofs.Common.{◌≤◌, ℕ, [], ◌∷◌, get_or, refl, arith}
use Rattle.std.proofs.lemmas.List.{length-map}
use Rattle.nd_base.proofs.Laws.Definitions.{signed}
use Rattle.ndarray_layout.proofs.JoinedInAll.{BeginsLayout, HasPlaces-joined_axes, longest_of_all, of_one}
use Rattle.ndarray_layout.proofs.strided.rows.joined_axis.Goals as goal

pub returns-clause-places : goal.returns-clause-places
returns-clause-places c =
    let joined = c.joined_in_each-joined.ensures in
    HasPlaces-joined_axes c.as_one_axis.result joined.count (omega (arith, c.requires.same_count, length-map c.args.strides.now signed))
    c.as_one_axis.ensures (joined.joined 0 (omega (arith, joined.written)))

pub returns-clause-longest : goal.returns-clause-longest
returns-clause-longest c =
    let joined = c.joined_in_each-joined in
    let order = c.args.order in
    let lens = c.args.lens in
    let strides = λ (number : ℕ). get_or (c.args.strides.now ∷ []) number [] in
    λ start row v begins.
    let first : BeginsLayout order lens.now c.args.strides.now row.len =
    record { start = start; row = row; is_view = v; begins = begins; long = refl } in
    let few : row.len ≤ joined.result.1 = longest_of_all order lens strides joined.new.joined (omega (arith, joined.ensures.written))
    joined.ensures.joined joined.ensures.longest
    (λ number here. of_one (λ k. BeginsLayout order lens.now (strides k) row.len) first number
    (omega (arith, here, joined.ensures.written))) in
    omega (arith, few, c.as_one_axis.ensures.same_len)
