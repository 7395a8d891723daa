-- The strides that are kept, read as signed numbers, are those of the word.
use Rattle.std.proofs.Common.{sym, ap, ◌∙◌}
use Rattle.std.specs.Option.{option_map}
use Rattle.std.proofs.lemmas.Result.{IfOk-weaker}
use Rattle.ndarray_layout.specs.Dim.{lengths}
use Rattle.ndarray_layout.specs.Signed.{all_signed}
use Rattle.ndarray_layout.proofs.Laws.Options.{option_map-option_map}
use Rattle.ndl_session.proofs.KeptStrides.{strides_signed}
use Rattle.ndl_session.proofs.script.data_line.kept_strides.Goals as goal

pub returns : goal.returns
returns c =
    IfOk-weaker c.dimension.result _ _
    (λ found read. sym (option_map-option_map all_signed lengths found) ∙ ap (option_map all_signed) read ∙ strides_signed c.args.word.now)
    c.dimension.ensures
