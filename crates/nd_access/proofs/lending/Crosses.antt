-- Cells may cross threads as their items may, and a reader as a `&` to an item may.
use base.Shift.{Keyless}
use denote.Exit.{Exit, hidden, leaves, unchanged, under}
use denote.Param.Send.{AllSend, IsSend, IsSync, Quiet, owning_send, part_keyless, sendable, struct_send, struct_sync}
use denote.RawPtr.{in_block}
use denote.Struct.Owning.{fields, shape, to}
use denote.Struct.Struct.{exits_of}
use Rattle.std.specs.Prelude.{Bool, List, false, true, [], ◌++◌, ◌∷◌}
use Rattle.nd_access.specs.Cells.{cell_if, cells_where, lent_if, lent_where}
use Rattle.nd_access.specs.contracts.cells.Cells as C-type
use Rattle.nd_access.specs.contracts.cells.Reader as R-type
use Rattle.nd_access.proofs.Laws.lending.Steps.{Fml, Lft, NamedLft, Ptr, RattleType, block_of, block_ptr, count_of, ftrue, full_share}
use Rattle.nd_access.proofs.Laws.lending.Steps.{lies_at, mem, null_ptr, ◌+ₚ◌}

quiet : {D X : Type 0} (f : D → X) (e : Exit X) → Quiet e → Quiet (hidden (under f e))
quiet f unchanged q = λ x w. tt
quiet f (leaves L l S s r₀) q = λ d. q (f d)

lies : (R : RattleType) → IsSend R → (p : Ptr) (x : R.Denot) → Keyless (lies_at R full_share p x)
lies R s (block_ptr b o) x = part_keyless R s full_share x b o
lies R s null_ptr x = tt

cell_keyless : (R : RattleType) → IsSend R → (p : Ptr) (mine : Bool) (x : R.Denot) → Keyless (cell_if R p mine x)
cell_keyless R s p true x = lies R s p x
cell_keyless R s p false x = tt

cells_keyless : (R : RattleType) → IsSend R → (p : Ptr) (marks : List Bool) (items : List R.Denot) → Keyless (cells_where R p marks items)
cells_keyless R s p [] [] = tt
cells_keyless R s p [] (x ∷ items) = tt
cells_keyless R s p (m ∷ marks) [] = tt
cells_keyless R s p (m ∷ marks) (x ∷ items) = (cell_keyless R s p m x, cells_keyless R s (p +ₚ (mem R).size) marks items)

pub cells_send : (κ : NamedLft) (V : RattleType) → IsSend V → IsSend (C-type.the_row κ V)
cells_send κ V s =
    let O = C-type.the_type κ V in
    let all : AllSend (fields O) = (search sendable, (search sendable, tt)) in
    owning_send O all (λ d. ((tt, (tt, (tt, tt))), (tt, λ ws. (cells_keyless V s d.first d.marks ws, tt))))
    (λ k. quiet (to O) (exits_of k (fields O)) ((struct_send (shape O) all).leaving k))

inside : (p : Ptr) (F : Fml) → Keyless F → Keyless (in_block p F)
inside (block_ptr b o) F k = k
inside null_ptr F k = tt

lent_keyless : (R : RattleType) → IsSync R → (p : Ptr) (mine : Bool) (x : R.Denot) (κ : Lft) → Keyless (lent_if R p mine x κ)
lent_keyless R s p true x κ = (inside p ftrue tt, s.shared x (block_of p) (count_of p) κ)
lent_keyless R s p false x κ = tt

seen_keyless : (R : RattleType) → IsSync R → (p : Ptr) (marks : List Bool) (items : List R.Denot) (κ : Lft)
    → Keyless (lent_where R p marks items κ)
seen_keyless R s p [] items κ = tt
seen_keyless R s p (m ∷ marks) [] κ = tt
seen_keyless R s p (m ∷ marks) (x ∷ items) κ = (lent_keyless R s p m x κ, seen_keyless R s (p +ₚ (mem R).size) marks items κ)

pub cells_sync : (κ : NamedLft) (V : RattleType) → IsSync V → IsSync (C-type.the_row κ V)
cells_sync κ V s =
    let O = C-type.the_type κ V in
    record {
      shared = λ d b o l. (
        (struct_sync (shape O) (search sendable, (search sendable, tt))).shared (to O d) b o l,
        ((tt, (tt, (tt, tt))), seen_keyless V s d.first d.marks d.items (l ++ κ.lft)),
      );
    }

pub reader_send : (κ : NamedLft) (V : RattleType) → IsSync V → IsSend (R-type.the_row κ V)
reader_send κ V s =
    let O = R-type.the_type κ V in
    let all : AllSend (fields O) = (search sendable, (search sendable, tt)) in
    owning_send O all (λ d. ((tt, (tt, (tt, tt))), seen_keyless V s d.first d.marks d.items κ.lft))
    (λ k. quiet (to O) (exits_of k (fields O)) ((struct_send (shape O) all).leaving k))

pub reader_sync : (κ : NamedLft) (V : RattleType) → IsSync V → IsSync (R-type.the_row κ V)
reader_sync κ V s =
    let O = R-type.the_type κ V in
    record {
      shared = λ d b o l. (
        (struct_sync (shape O) (search sendable, (search sendable, tt))).shared (to O d) b o l,
        ((tt, (tt, (tt, tt))), seen_keyless V s d.first d.marks d.items κ.lft),
      );
    }
