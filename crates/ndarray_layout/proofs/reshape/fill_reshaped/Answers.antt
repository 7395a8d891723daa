use Rattle.std.proofs.Common.{◌≡◌, subst, Some, None}
use Rattle.std.proofs.lemmas.Result.{on_ok_weaker}
use Rattle.std.specs.Prelude.{IfErr, OnOk}
use Rattle.nd_base.specs.declared.order.Order.TheVariants.{RowMajor, ColumnMajor}
use Rattle.ndarray_layout.proofs.matching.Turned.{can-match, fault-in, strides-in}
use Rattle.ndarray_layout.proofs.reshape.fill_reshaped.Goals as goal

pub fill-requires-clause-can_match : goal.fill-requires-clause-can_match
fill-requires-clause-can_match c =
    can-match RowMajor c.args.strides.now c.args.to.now c.requires.valid c.requires.from_some c.requires.to_some c.requires.to_fits

pub fill-requires-in-ColumnMajor-clause-can_match : goal.fill-requires-in-ColumnMajor-clause-can_match
fill-requires-in-ColumnMajor-clause-can_match c =
    can-match ColumnMajor c.args.strides.now c.args.to.now c.requires.valid c.requires.from_some c.requires.to_some c.requires.to_fits

pub returns-in-ColumnMajor-clause-fault : goal.returns-in-ColumnMajor-clause-fault
returns-in-ColumnMajor-clause-fault c = subst (λ fault. IfErr c.fill-in-ColumnMajor.result (λ kind. fault ≡ Some kind))
    (fault-in c.args.from.now c.args.strides.now c.args.to.now c.in-ColumnMajor.is) c.fill-in-ColumnMajor.ensures.fault

pub returns-in-ColumnMajor-clause-fits : goal.returns-in-ColumnMajor-clause-fits
returns-in-ColumnMajor-clause-fits c = subst (λ fault. OnOk c.fill-in-ColumnMajor.result (fault ≡ None))
    (fault-in c.args.from.now c.args.strides.now c.args.to.now c.in-ColumnMajor.is) c.fill-in-ColumnMajor.ensures.fits

pub returns-in-ColumnMajor-clause-strides : goal.returns-in-ColumnMajor-clause-strides
returns-in-ColumnMajor-clause-strides c =
    on_ok_weaker c.fill-in-ColumnMajor.result
    (strides-in c.args.from.now c.args.strides.now c.args.to.now c.in-ColumnMajor.is c.fill-in-ColumnMajor.new.out)
    c.fill-in-ColumnMajor.ensures.strides
