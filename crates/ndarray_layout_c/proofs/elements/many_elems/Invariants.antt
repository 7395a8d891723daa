-- The elements so far have their meanings.
use Rattle.std.proofs.Common.{◌≡◌, take, map}
use Rattle.ndarray_layout_c.specs.Elements.{elem_named}
use Rattle.ndarray_layout_c.proofs.elements.many_elems.Given as goal

abbrev pub invariant-loop-raw : goal.invariant-loop-raw
invariant-loop-raw l = l.elems.items ≡ map elem_named (take l.raw-index l.raws)
