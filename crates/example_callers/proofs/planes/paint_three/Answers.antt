-- The parts are taken of what those before leave, and what they wrote is put back, last taken first.
use Rattle.std.proofs.Common.{rules, ◌≡◌, sym, subst, length, replicate, true, Option, Some, Bool, List, ℕ}
use Rattle.ndarray_layout.specs.View.{View}
use Rattle.nd_lent.specs.Cells.{without}
use Rattle.nd_lent.specs.Part.{IsPart, marks_of}
use Rattle.nd_lent.proofs.Laws.Marks.{owned_beside, part_beside}
use Rattle.nd_lent.specs.HasItems.{HasItemsOf}
use Rattle.nd_lent.proofs.Laws.PutBackItems.{part_put_back}
use Rattle.example_callers.proofs.planes.paint_three.Goals as goal
use Rattle.nd_lent.specs.Lent.{access_of}

pub take-green_part-requires : goal.take-green_part-requires
take-green_part-requires c =
    let n : ℕ = length c.args.pixels.now in
    let left : without (marks_of n c.args.red.0) (replicate n true) ≡ c.take-red_part.new.self.access.marks = search rules in
    subst (λ (marks : List Bool). IsPart marks c.args.green.0) left
    (owned_beside n c.args.red.0 c.args.green.0 c.requires.red c.requires.green c.requires.red_and_green)

pub take-blue_part-requires : goal.take-blue_part-requires
take-blue_part-requires c =
    let n : ℕ = length c.args.pixels.now in
    let marks : List Bool = c.take-red_part.new.self.access.marks in
    let left : without (marks_of n c.args.red.0) (replicate n true) ≡ marks = search rules in
    subst (λ (others : List Bool). IsPart others c.args.blue.0) (sym c.take-green_part.ensures.rest_marks)
    (part_beside marks c.args.green.0 c.args.blue.0
    (subst (λ (others : List Bool). IsPart others c.args.green.0) left
    (owned_beside n c.args.red.0 c.args.green.0 c.requires.red c.requires.green c.requires.red_and_green))
    (subst (λ (others : List Bool). IsPart others c.args.blue.0) left
    (owned_beside n c.args.red.0 c.args.blue.0 c.requires.red c.requires.blue c.requires.red_and_blue))
    c.requires.green_and_blue)

-- a list that is the last one has its items
as_last : {given : List ℕ → Option ℕ} {view : View} {before now last : List ℕ} → now ≡ last
    → HasItemsOf given (record { items = before; view = view }) (record { items = last; view = view })
    → HasItemsOf given (record { items = before; view = view }) (record { items = now; view = view })
as_last {given} {view} {before} same has =
    subst (λ items. HasItemsOf given (record { items = before; view = view }) (record { items = items; view = view })) (sym same) has

pub returns : goal.returns
returns c =
    let n : ℕ = length c.args.pixels.now in
    let first : List ℕ = c.take-blue_part.new.self.items in
    let one : List ℕ = c.put_back.new.self.items in
    let other : List ℕ = c.put_back-2.new.self.items in
    let last : List ℕ = c.put_back-3.new.self.items in
    let rest : first ≡ c.args.pixels.now = search rules in
    let blue_view : c.take-blue_part.result.0.view ≡ c.args.blue.0 = search rules in
    let green_view : c.take-green_part.result.0.view ≡ c.args.green.0 = search rules in
    let red_view : c.take-red_part.result.0.view ≡ c.args.red.0 = search rules in
    let blue_marks : (access_of c.paint_plane-3.new.part).marks ≡ marks_of n c.args.blue.0 = search rules in
    let green_marks : (access_of c.paint_plane-2.new.part).marks ≡ marks_of n c.args.green.0 = search rules in
    let red_marks : (access_of c.paint_plane.new.part).marks ≡ marks_of n c.args.red.0 = search rules in
    let blue = part_put_back n c.args.blue.0 (access_of c.paint_plane-3.new.part).marks first one c.paint_plane-3.ensures.painted
    c.requires.blue.within blue_view (search rules) (search rules) blue_marks c.put_back.ensures.items in
    let green = part_put_back n c.args.green.0 (access_of c.paint_plane-2.new.part).marks one other c.paint_plane-2.ensures.painted
    c.requires.green.within green_view (search rules) blue.0 green_marks c.put_back-2.ensures.items in
    let red = part_put_back n c.args.red.0 (access_of c.paint_plane.new.part).marks other last c.paint_plane.ensures.painted
    c.requires.red.within red_view (search rules) green.0 red_marks c.put_back-3.ensures.items in
    let end : c.close.new.self.items.now ≡ last = c.close.ensures.items in (
      one,
      other,
      subst (λ items. HasItemsOf (λ index. Some c.args.blue.1) (record { items = items; view = c.args.blue.0 })
          (record { items = one; view = c.args.blue.0 })) rest blue.1,
      green.1,
      as_last (search (rules, end)) red.1,
    )
