use Rattle.std.proofs.Common.{◌≡◌, ◌||◌, length, ◌==◌, if◌then◌else◌, sym, ap, ◌∙◌}
use Rattle.std.proofs.lemmas.Bool.{or_left, cond-false, ne_eqb}
use Rattle.nd_base.specs.Signed.{all_signed}
use Rattle.nd_dim.specs.Contiguous.{is_packed, is_lone_reversed}
use Rattle.nd_dim.proofs.Packed.{default_test}
use Rattle.nd_dim.proofs.contiguous.is_contiguous.Goals as goal

pub returns-then-has_default_strides : goal.returns-then-has_default_strides
returns-then-has_default_strides c =
    let test = default_test c.args.lens.now c.args.strides.now c.has_default_strides.result c.type_inv.strides c.requires.size_fits
    c.has_default_strides.ensures in
    sym (or_left _ _ (test ∙ c.if-has_default_strides.true))

pub returns-else-lens-eq1 : goal.returns-else-lens-eq1
returns-else-lens-eq1 c =
    let lens = c.args.lens.now in
    let strides = all_signed c.args.strides.now in
    let test = default_test lens c.args.strides.now c.has_default_strides.result c.type_inv.strides c.requires.size_fits
    c.has_default_strides.ensures in
    let several : (if length lens == 1 then is_lone_reversed lens strides else is_packed lens strides) ≡ is_packed lens strides =
    cond-false _ _ _ (ne_eqb (length lens) 1 c.if-lens-eq1.false) in
    c.is_packed.ensures ∙ sym several
    ∙ sym (ap (λ b. b || (if length lens == 1 then is_lone_reversed lens strides else is_packed lens strides))
    (test ∙ c.if-has_default_strides.false))
