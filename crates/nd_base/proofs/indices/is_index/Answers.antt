use Rattle.std.proofs.Common.{rules, ◌≡◌, ℕ, ◌<◌, length, Bool, List, ◌∙◌, sym}
use Rattle.std.specs.Prelude.{IsTrue, slice_index, ◌↔◌}
use Rattle.std.proofs.lemmas.Bool.{ne_eqb}
use Rattle.std.proofs.lemmas.Bool.Decides.{same_from_decides}
use Rattle.nd_base.specs.Indices.{is_index as is_index_of_shape}
use Rattle.nd_base.proofs.Laws.IsIndex.{is_index_from_coordinates, coordinate_of_index}
use Rattle.nd_base.proofs.IndexOffsets.{is_index_of_count}
use Rattle.nd_base.proofs.indices.is_index.Goals as goal

-- a test that passes exactly where each coordinate is below its length answers what the definition does
by_coordinates : (shape index : List ℕ) (test : Bool) → length shape ≡ length index
    → (IsTrue test ↔ ((axis : ℕ) → axis < length shape → slice_index index axis < slice_index shape axis))
    → test ≡ is_index_of_shape shape index
by_coordinates shape index test e h =
    same_from_decides {P = (axis : ℕ) → axis < length shape → slice_index index axis < slice_index shape axis} test
    (is_index_of_shape shape index) h
    (λ here axis l. coordinate_of_index shape index axis here l, λ f. is_index_from_coordinates shape index (sym e) f)

pub returns-then-shape-index : goal.returns-then-shape-index
returns-then-shape-index c =
    by_coordinates c.args.shape.now c.args.index.now c.all.result c.if-shape-index.true (search rules)

pub returns-else-shape-index : goal.returns-else-shape-index
returns-else-shape-index c =
    ne_eqb _ _ c.if-shape-index.false ∙ sym (is_index_of_count c.args.shape.now c.args.index.now c.if-shape-index.false)
