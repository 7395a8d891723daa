-- The item at the next place is read, and those at the others are left.
use Rattle.std.proofs.Common.{◌<◌, pos, Some, [], ◌∷◌, ◌++◌, length, map, append_assoc, sym, ap, subst, ◌∙◌, arith}
use Rattle.std.specs.List.{All}
use Rattle.std.proofs.lemmas.List.{map-append}
use Rattle.std.proofs.lemmas.List.Elements.{All-head, All-tail}
use Rattle.std.proofs.lemmas.Option.{slice_get-get_or}
use Rattle.ndarray_layout.specs.Bounds.{IsInBounds}
use Rattle.nd_lent.specs.Items.{item_at_place}
use Rattle.nd_owned.proofs.rows.read_places.Goals as goal

pub offset_bounds-stored-place : goal.offset_bounds-stored-place
offset_bounds-stored-place g c =
    let count = length c.args.stored.now in
    let under : c.in-Some.place < count =
    All-head (IsInBounds count) (pos c.in-Some.place) _
    (subst (All (IsInBounds count)) c.in-Some.ensures.steps c.loop-place.invariant.in_bounds) in
    omega arith

pub loop-place-preserved : goal.loop-place-preserved
loop-place-preserved g c =
    let stored = c.args.stored.now in
    let got = item_at_place stored in
    let old = c.loop-place.items.items in
    let place = c.in-Some.place in
    let item = c.index-stored-place.result in
    let others = c.next.new.self in
    let steps = c.in-Some.ensures.steps in
    let in_bounds = subst (All (IsInBounds (length stored))) steps c.loop-place.invariant.in_bounds in
    let under : place < length stored = All-head (IsInBounds (length stored)) (pos place) others in_bounds in
    record {
      items = ap (λ items. map Some items ++ map got others) c.push_reserved.ensures.items
          ∙ ap (λ items. items ++ map got others) (map-append Some old (item ∷ []))
          ∙ append_assoc (map Some old) (Some item ∷ []) (map got others)
          ∙ ap (λ here. map Some old ++ here ∷ map got others)
          (ap Some c.index-stored-place.is ∙ sym (slice_get-get_or stored place item under))
          ∙ ap (λ places. map Some old ++ map got places) (sym steps)
          ∙ c.loop-place.invariant.items;
      in_bounds = All-tail (IsInBounds (length stored)) (pos place) others in_bounds;
      room = omega (
        arith,
        c.loop-place.invariant.room,
        c.push_reserved.ensures.len,
        c.push_reserved.ensures.capacity,
        ap length steps,
      );
    }
