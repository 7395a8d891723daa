-- No place, or the first one, and then those of the loop.
use Rattle.std.proofs.Common.{[], ◌∷◌, ◌++◌, ap, append_assoc, codes, decimal, map, refl, subst, ◌∙◌}
use Rattle.std.specs.Iterator.{Yields}
use Rattle.std.specs.List.{flat_map}
use Rattle.ndl_session.proofs.text_lemmas.Appended.{one_after_another, where_appended}
use Rattle.ndl_session.proofs.text.printing.push_places.Goals as goal

pub returns-in_default : goal.returns-in_default
returns-in_default g c =
    where_appended c.extend_from_slice-in_default.result c.extend_from_slice-in_default.new.self.items
    c.extend_from_slice.new.self.items (codes " -\n") c.extend_from_slice-in_default.ensures.items
    (λ e. (
      [],
      (c.next.new.self, (c.args.places, refl, c.in_default.ensures.steps)),
      e ∙ ap (λ t. t ++ codes " -\n") c.in_ok-extend_from_slice.ensures.items
          ∙ append_assoc c.args.text.now.items (codes "places") (codes " -\n"),
    ))

pub returns : goal.returns
returns g c =
    let others =
    subst (λ rest. Yields g.I.Iterator.next_gives rest c.loop-place.yielded c.loop-place.place-iterator)
    c.into_iter-place-iterator.ensures.into_iter_gives c.loop-place.yielded_by in
    let first = codes " " ++ decimal c.in-Some.first in
    let more = flat_map (λ another. codes " " ++ another) (map decimal c.loop-place.yielded) in
    where_appended c.extend_from_slice-2.result c.extend_from_slice-2.new.self.items c.loop-place.text.items (codes "\n")
    c.extend_from_slice-2.ensures.items
    (λ e. (
      c.in-Some.first ∷ c.loop-place.yielded,
      (
        c.next-in-loop-place.new.self,
        (c.loop-place.place-iterator, (c.next.new.self, c.in-Some.ensures.steps, others), c.in-None.ensures.steps),
      ),
      e ∙ ap (λ t. t ++ codes "\n") (c.loop-place.invariant
          ∙ ap (λ t. t ++ more) (c.in_ok-push_place.ensures ∙ ap (λ t. t ++ first) c.in_ok-extend_from_slice.ensures.items))
          ∙ one_after_another c.args.text.now.items (codes "places") first more (codes "\n"),
    ))
