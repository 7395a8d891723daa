use Rattle.std.proofs.Common.{◌≡◌, ap, length, subst, sym, ◌∙◌}
use Rattle.nd_base.proofs.Laws.Definitions.{all_signed}
use Rattle.ndarray_layout.specs.reshape.SamePlaces.{Keeps}
use Rattle.ndarray_layout.proofs.reshape.reshape_dim.Given.{Over}
use Rattle.ndarray_layout.proofs.matching.Turned.{keeps-filled, layouts-same}
use Rattle.ndarray_layout.proofs.matching.HasIndex.{has_index-of-valid}
use Rattle.ndarray_layout.proofs.Laws.Keeps.{fault-complete, keeps-agree}
use Rattle.ndarray_layout.proofs.reshape.reshape_dim.Goals as goal

pub returns-in_err-others-clause-complete : goal.returns-in_err-others-clause-complete
returns-in_err-others-clause-complete g c = fault-complete _ _ (has_index-of-valid c.requires.valid c.requires.from_some) c.requires.to_some

pub returns-in_err-others-clause-forced : goal.returns-in_err-others-clause-forced
returns-in_err-others-clause-forced g c = λ others.
    keeps-agree (has_index-of-valid c.requires.valid c.requires.from_some) c.requires.to_some

pub returns-in_err-fill_reshaped-clause-complete : goal.returns-in_err-fill_reshaped-clause-complete
returns-in_err-fill_reshaped-clause-complete g c =
    fault-complete _ _ (has_index-of-valid c.requires.valid c.requires.from_some) c.requires.to_some

pub returns-in_err-fill_reshaped-clause-forced : goal.returns-in_err-fill_reshaped-clause-forced
returns-in_err-fill_reshaped-clause-forced g c = λ others.
    keeps-agree (has_index-of-valid c.requires.valid c.requires.from_some) c.requires.to_some

pub returns-clause-complete : goal.returns-clause-complete
returns-clause-complete g c = fault-complete _ _ (has_index-of-valid c.requires.valid c.requires.from_some) c.requires.to_some

pub returns-clause-forced : goal.returns-clause-forced
returns-clause-forced g c = λ others.
    keeps-agree (has_index-of-valid c.requires.valid c.requires.from_some) c.requires.to_some

-- the strides that are written are those of the result
same-list : (g : Over) (c : goal.In_ok-fill_reshaped g)
    → g.E.Lengths.list (g.E.Lengths.with_list c.in_ok-others.others c.fill_reshaped.new.out) ≡ c.fill_reshaped.new.out
same-list g c = g.met.E.Lengths.list_of_with_list c.in_ok-others.others c.fill_reshaped.new.out
    (c.fill_reshaped.ensures.room ∙ ap length c.slice_mut.ensures.list)

pub returns-clause-keeps : goal.returns-clause-keeps
returns-clause-keeps g c =
    subst (λ given. Keeps c.args.order (g.D.Lengths.list c.args.from.now) (all_signed (g.D.Lengths.list c.args.strides.now))
    (g.E.Lengths.list c.args.to.now) (all_signed given)) (sym (same-list g c))
    (keeps-filled c.fill_reshaped.new.out (layouts-same c.slice.ensures.list c.slice-2.ensures.list c.slice-3.ensures.list)
    (has_index-of-valid c.requires.valid c.requires.from_some) c.requires.to_some
    c.in_ok-fill_reshaped.ensures.fits c.in_ok-fill_reshaped.ensures.strides)
