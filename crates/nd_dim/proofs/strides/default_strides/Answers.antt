use Rattle.std.proofs.Common.{rules, ◌≡◌, length, reverse, sym, ap, subst, ◌∙◌, arith}
use Rattle.std.proofs.lemmas.List.{reverse-reverse}
use Rattle.nd_base.proofs.Laws.Definitions.{size}
use Rattle.nd_base.proofs.Laws.Size.{size-reverse}
use Rattle.nd_dim.specs.Strides.{default_strides, fortran_strides}
use Rattle.nd_dim.proofs.Laws.Strides.{default_by_fortran, default_count}
use Rattle.nd_dim.proofs.strides.default_strides.Goals as goal

pub write_strides-requires-clause-size_fits : goal.write_strides-requires-clause-size_fits
write_strides-requires-clause-size_fits g c =
    omega (arith, size-reverse c.slice.result.now, ap size c.slice.ensures.list, c.requires)

pub returns-clause-list : goal.returns-clause-list
returns-clause-list g c =
    let made = c.in_ok-strides.strides in
    let new = c.write_strides.new.strides.0.now in
    let lens = g.D.Lengths.list c.args.dim.now in
    let is =
    sym (reverse-reverse new)
    ∙ ap reverse c.write_strides.ensures.strides
    ∙ ap (λ xs. reverse (fortran_strides (reverse xs))) c.slice.ensures.list
    ∙ sym (default_by_fortran lens) in
    let count = ap length is ∙ default_count lens ∙ sym (ap length c.in_ok-strides.ensures.list) in
    subst (λ xs. g.D.Lengths.list (g.D.Lengths.with_list made xs) ≡ default_strides lens) (sym (search rules))
    (g.met.D.Lengths.list_of_with_list made new count ∙ is)
