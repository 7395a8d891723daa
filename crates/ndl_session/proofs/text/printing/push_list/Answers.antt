-- No number, or the first one, and then those of the loop.
use Rattle.std.proofs.Common.{[], ◌∷◌, append_assoc, codes, refl, rules, subst}
use Rattle.std.specs.Iterator.{Yields}
use Rattle.ndl_session.proofs.text_lemmas.Appended.{where_appended}
use Rattle.ndl_session.proofs.text.printing.push_list.Goals as goal

pub returns-in_default-clause-list : goal.returns-in_default-clause-list
returns-in_default-clause-list g c =
    where_appended c.extend_from_slice.result c.extend_from_slice.new.self.items c.args.text.now.items (codes "-")
    c.extend_from_slice.ensures.items
    (λ e. ([], (c.next.new.self, (c.args.numbers, refl, c.in_default.ensures.steps)), e))

pub returns-clause-list : goal.returns-clause-list
returns-clause-list g c =
    let others =
    subst (λ rest. Yields g.I.Iterator.next_gives rest c.loop-number.yielded c.loop-number.number-iterator)
    c.into_iter-number-iterator.ensures.into_iter_gives c.loop-number.yielded_by in (
      c.in-Some.first ∷ c.loop-number.yielded,
      (
        c.next-in-loop-number.new.self,
        (c.loop-number.number-iterator, (c.next.new.self, c.in-Some.ensures.steps, others), c.in-None.ensures.steps),
      ),
      search (rules, append_assoc),
    )
