-- Each row that comes is appended; in the end none is left.
use Rattle.std.proofs.Common.{◌^◌, pos, map, length, ◌++◌, refl, sym, ap, subst, ◌∙◌, arith}
use Rattle.std.specs.List.{All}
use Rattle.std.proofs.lemmas.List.{append-nil}
use Rattle.nd_base.proofs.Laws.Definitions.{IsInBounds}
use Rattle.ndarray_layout.specs.Rows.{rows_places}
use Rattle.ndarray_layout.proofs.RowSteps.{IsFirstRow, append-first, in_bounds-first, length-first}
use Rattle.ndarray_layout.proofs.strided.places.push_rows.Goals as goal

pub loop-row-init : goal.loop-row-init
loop-row-init c =
    let same = c.into_iter-row-iterator.ensures.into_iter_gives in
    let count = ap (λ rows. length (rows_places rows)) same in
    record {
      items = ap (λ rows. map pos c.args.places.items ++ rows_places rows) same;
      len = omega (arith, count);
      capacity = refl;
      in_bounds = subst (λ rows. All (IsInBounds (2 ^ 63)) (rows_places rows)) (sym same) c.requires.in_bounds;
      few = omega (arith, count, c.requires.few);
    }

pub push_row-places-requires : goal.push_row-places-requires
push_row-places-requires c =
    let first : IsFirstRow c.loop-row.row-iterator c.in-Some.row _ = record { is = c.in-Some.ensures.steps } in
    let count = length-first first in
    record {
      in_bounds = (in_bounds-first first c.loop-row.invariant.in_bounds).0;
      few = omega (arith, count, c.loop-row.invariant.few);
      room = omega (arith, count, c.loop-row.invariant.len, c.loop-row.invariant.capacity, c.requires.room);
    }

pub loop-row-preserved : goal.loop-row-preserved
loop-row-preserved c =
    let first : IsFirstRow c.loop-row.row-iterator c.in-Some.row _ = record { is = c.in-Some.ensures.steps } in
    let count = length-first first in
    record {
      items = append-first first (map pos c.loop-row.places.items) c.push_row-places.ensures.items c.loop-row.invariant.items;
      len = omega (arith, count, c.push_row-places.ensures.len, c.loop-row.invariant.len);
      capacity = c.push_row-places.ensures.capacity ∙ c.loop-row.invariant.capacity;
      in_bounds = (in_bounds-first first c.loop-row.invariant.in_bounds).1;
      few = omega (arith, count, c.loop-row.invariant.few);
    }

pub returns : goal.returns
returns c =
    let none = ap rows_places c.in-None.ensures.steps.0 in
    record {
      items = sym (append-nil (map pos c.loop-row.places.items))
          ∙ ap (λ xs. map pos c.loop-row.places.items ++ xs) (sym none)
          ∙ c.loop-row.invariant.items;
      len = omega (arith, ap length none, c.loop-row.invariant.len);
      capacity = c.loop-row.invariant.capacity;
    }
