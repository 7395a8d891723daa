-- The first slice that doesn't fit ends the count with its error.
use Rattle.std.proofs.Common.{rules, ◌≡◌, ◌+◌, ◌&&◌, Some, length, map, drop, sym, ap, ◌∙◌}
use Rattle.std.proofs.lemmas.Bool.{eq-eqb, ne_eqb}
use Rattle.std.specs.List.{list_all}
use Rattle.std.specs.Option.{option_or}
use Rattle.std.specs.Result.{result_err}
use Rattle.nd_owned.specs.MultiSet.{has_count, slices_fault, write_of}
use Rattle.nd_owned.proofs.Faults.{next_count, next_fault, none_more}
use Rattle.nd_lent.proofs.Laws.Lists.{IsItem}
use Rattle.nd_owned.proofs.multi_set.have_counts.Goals as goal
use Rattle.nd_owned.proofs.multi_set.have_counts.Goals.{then-branch-len, else-branch-len}

pub returns-in_err-picked-clause-fault : goal.returns-in_err-picked-clause-fault
returns-in_err-picked-clause-fault g c =
    let i = c.loop-slice.slice-index in
    let shape = c.args.view.now.shape in
    let kind = c.in_err-picked.field-0.0 in
    let same : result_err c.from_residual.result ≡ Some kind = search rules in
    same ∙ sym (next_fault write_of shape c.args.writes.now i c.loop-slice-test.true c.loop-slice-item.is c.loop-slice.invariant.fault
    ∙ ap (λ first. option_or first (slices_fault shape (drop (i + 1) (map write_of c.args.writes.now))))
    (sym c.in_err-picked.ensures.fault))

pub loop-slice-preserved : goal.loop-slice-preserved
loop-slice-preserved g c =
    let i = c.loop-slice.slice-index in
    let item = c.loop-slice-item.result in
    let shape = c.args.view.now.shape in
    let writes = c.args.writes.now in
    let have = c.loop-slice.have in
    let after = list_all (has_count shape) (drop (i + 1) (map write_of writes)) in
    let at : IsItem writes i item = record { below = c.loop-slice-test.true; is = c.loop-slice-item.is } in
    record {
      fault =
          next_fault write_of shape writes i c.loop-slice-test.true c.loop-slice-item.is c.loop-slice.invariant.fault
          ∙ ap (λ first. option_or first (slices_fault shape (drop (i + 1) (map write_of writes)))) (sym c.in_ok-picked.ensures.fault);
      counts = elim c.if-branch-len.branch [
        | then-branch-len w ↦ next_count write_of shape have at
            (ne_eqb (length item.1.items) _ (λ same. w.if-branch-len.true (c.in_ok-picked.ensures.size ∙ sym same ∙ sym item.1.ok.0
            ∙ sym c.len.ensures))) c.loop-slice.invariant.counts
            ∙ none_more have after
            ∙ ap (λ b. b && after) (sym w.have-is)
        | else-branch-len w ↦ next_count write_of shape have at
            (eq-eqb (length item.1.items) _ (sym item.1.ok.0 ∙ sym c.len.ensures ∙ sym w.if-branch-len.false ∙ c.in_ok-picked.ensures.size))
            c.loop-slice.invariant.counts
            ∙ ap (λ b. b && after) (sym w.have-is)
      ];
    }
