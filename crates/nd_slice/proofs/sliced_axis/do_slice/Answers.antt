use Rattle.std.proofs.Common.{rules, ◌≡◌, arith, ap, sym, ◌∙◌, length, pos, ℤ, ◌+ℤ◌, ◌*ℤ◌, to_z, of_z, w64}
use Rattle.std.proofs.lemmas.Int.{to_z-of_z}
use Rattle.nd_slice.proofs.Definitions.{first_offset, picked_stride, picks, signed}
use Rattle.nd_slice.proofs.Laws.SlicedAxis.{pick_offset}
use Rattle.nd_slice.proofs.Laws.Picks.{pick_below}
use Rattle.nd_slice.proofs.Laws.AxisFault.{fits_of_no_fault}
use Rattle.nd_slice.proofs.sliced_axis.do_slice.Goals as goal

pub returns-clause-steps : goal.returns-clause-steps
returns-clause-steps c j below =
    let fit = c.args.fit in
    let len = c.args.dim.now in
    let slice = c.args.slice in
    let s : ℤ = signed c.args.stride.now in
    let known = c.in_ok-picks.ensures in
    let at : ℤ = to_z w64 (of_z w64 c.offset-offset.result) in
    let offset : at ≡ first_offset (picks fit len slice) s = to_z-of_z w64 c.offset-offset.result (search rules)
    ∙ c.offset-offset.ensures
    ∙ ap (λ xs. first_offset xs s) known.picks in
    let stride : signed c.stride.result ≡ picked_stride (length (picks fit len slice)) s slice.step = c.stride.ensures
    ∙ ap (λ xs. picked_stride (length xs) s c.in_ok-picks.picks.step) known.picks
    ∙ ap (picked_stride (length (picks fit len slice)) s) known.step in
    pick_offset fit len slice j s (omega (arith, c.count.ensures, ap length known.picks))
    ∙ ap (λ x. x +ℤ (pos j *ℤ picked_stride (length (picks fit len slice)) s slice.step)) (sym offset)
    ∙ ap (λ x. at +ℤ (pos j *ℤ x)) (sym stride)

pub returns-clause-within : goal.returns-clause-within
returns-clause-within c j below =
    let known = c.in_ok-picks.ensures in
    pick_below c.args.fit c.args.dim.now c.args.slice j (fits_of_no_fault c.args.fit c.args.dim.now c.args.slice (sym known.fault))
    (omega (arith, c.count.ensures, ap length known.picks))
