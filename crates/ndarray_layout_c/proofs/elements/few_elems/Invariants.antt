-- The elements so far have their meanings.
use Rattle.std.proofs.Common.{◌≡◌, length, take, map}
use Rattle.ndarray_layout_c.specs.Elements.{elem_named}
use Rattle.ndarray_layout_c.proofs.elements.few_elems.Given as goal

abbrev pub invariant-loop-place : goal.invariant-loop-place
invariant-loop-place l = (length l.elems ≡ 4) × (take l.place l.elems ≡ map elem_named (take l.place l.raws))
