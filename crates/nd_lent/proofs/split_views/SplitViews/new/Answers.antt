-- The lower part has the items below the cut, and the other one the items from there on; a part without places needs none.
use Rattle.std.proofs.Common.{sym, ◌∙◌, arith}
use Rattle.nd_lent.proofs.SplitItems.{all_owned, lower_owned, lowest_within, none_owned, upper_owned}
use Rattle.nd_lent.proofs.split_views.SplitViews.new.Goals as goal

pub returns-then-is_empty-clause-first_owned : goal.returns-then-is_empty-clause-first_owned
returns-then-is_empty-clause-first_owned g c = none_owned 0 c.in_ok-first.ensures.first_kept c.requires
    (sym c.is_empty.ensures.empty ∙ c.if-is_empty.true)

pub returns-then-is_empty-clause-second_owned : goal.returns-then-is_empty-clause-second_owned
returns-then-is_empty-clause-second_owned g c = all_owned c.in_ok-first.ensures.second_kept c.requires

pub returns-then-is_empty-2-clause-first_owned : goal.returns-then-is_empty-2-clause-first_owned
returns-then-is_empty-2-clause-first_owned g c = all_owned c.in_ok-first.ensures.first_kept c.requires

pub returns-then-is_empty-2-clause-second_owned : goal.returns-then-is_empty-2-clause-second_owned
returns-then-is_empty-2-clause-second_owned g c =
    none_owned 0 c.in_ok-first.ensures.second_kept c.requires (sym c.is_empty-2.ensures.empty ∙ c.if-is_empty-2.true)

-- ---- the first part is the lower one
pub overflow_sub-count : goal.overflow_sub-count
overflow_sub-count g c =
    let kept = c.in_ok-first.ensures.second_kept in
    let below = lowest_within kept.is_view (sym c.is_empty-2.ensures.empty ∙ c.if-is_empty-2.false)
    (kept.in_bounds c.args.count c.requires.within) in
    omega (arith, below, c.in_ok-second_low.ensures.lowest)

pub returns-then-first_high-second_low-clause-cut : goal.returns-then-first_high-second_low-clause-cut
returns-then-first_high-second_low-clause-cut g c =
    let kept = c.in_ok-first.ensures.second_kept in
    let below = lowest_within kept.is_view (sym c.is_empty-2.ensures.empty ∙ c.if-is_empty-2.false)
    (kept.in_bounds c.args.count c.requires.within) in
    omega (arith, below, c.in_ok-second_low.ensures.lowest)

pub returns-then-first_high-second_low-clause-first_owned : goal.returns-then-first_high-second_low-clause-first_owned
returns-then-first_high-second_low-clause-first_owned g c =
    lower_owned c.in_ok-second_low.second_low c.in_ok-first.ensures.first_kept c.requires
    (omega (arith, c.if-first_high-second_low.true, c.in_ok-first_low.ensures.highest))

pub returns-then-first_high-second_low-clause-second_owned : goal.returns-then-first_high-second_low-clause-second_owned
returns-then-first_high-second_low-clause-second_owned g c =
    upper_owned c.in_ok-second_low.second_low _ c.in_ok-first.ensures.second_kept c.requires c.in_ok-second.ensures.moved
    c.in_ok-second.ensures.is_view
    c.in_ok-second.ensures.within

-- ---- the second part is the lower one
pub overflow_sub-count-then-second_high-first_low : goal.overflow_sub-count-then-second_high-first_low
overflow_sub-count-then-second_high-first_low g c =
    let kept = c.in_ok-first.ensures.first_kept in
    let below = lowest_within kept.is_view (sym c.is_empty.ensures.empty ∙ c.if-is_empty.false)
    (kept.in_bounds c.args.count c.requires.within) in
    omega (arith, below, c.in_ok-first_low.ensures.lowest)

pub returns-then-second_high-first_low-clause-cut : goal.returns-then-second_high-first_low-clause-cut
returns-then-second_high-first_low-clause-cut g c =
    let kept = c.in_ok-first.ensures.first_kept in
    let below = lowest_within kept.is_view (sym c.is_empty.ensures.empty ∙ c.if-is_empty.false)
    (kept.in_bounds c.args.count c.requires.within) in
    omega (arith, below, c.in_ok-first_low.ensures.lowest)

pub returns-then-second_high-first_low-clause-second_owned : goal.returns-then-second_high-first_low-clause-second_owned
returns-then-second_high-first_low-clause-second_owned g c =
    lower_owned c.in_ok-first_low.first_low c.in_ok-first.ensures.second_kept c.requires
    (omega (arith, c.if-second_high-first_low.true, c.in_ok-second_low.ensures.highest))

pub returns-then-second_high-first_low-clause-first_owned : goal.returns-then-second_high-first_low-clause-first_owned
returns-then-second_high-first_low-clause-first_owned g c =
    upper_owned c.in_ok-first_low.first_low _ c.in_ok-first.ensures.first_kept c.requires c.in_ok-first-2.ensures.moved
    c.in_ok-first-2.ensures.is_view
    c.in_ok-first-2.ensures.within
