-- A `&` to it gives a `&` to each element that has a mark. Assumes `Logic`.
use mathlib.Core.List.{[], ◌++◌}
use base.Fml.{Lft, Incl, Incl-trans}
use contract.BorrowLft.{meet_⊑_left, meet_⊑_right}
use denote.Param.Laws.{Laws}
use denote.Param.Shared.{copy_shared}
use denote.RattleType.{RattleType}
use denote.Ref.{NamedLft, MutRef}
use denote.Sharing.{said, within}
use denote.SharingLaws.{beside_shr_laws, said_shr_laws, within_shr_laws}
use denote.Struct.Field.{RawPtr-field}
use denote.Struct.Laws.{field_copy, RawPtr-copy}
use denote.Struct.Lending.{of_Lends}
use Rattle.std.specs.contracts.marker.PhantomData as marker
use Rattle.nd_access.specs.Cells.{known, lent_where}
use Rattle.nd_access.specs.contracts.cells.Cells as C
use Rattle.nd_access.proofs.lending.Shared.{lent_where_laws, cells_lent}
use Rattle.nd_access.proofs.cells.Cells.TheLaw.Statement.{statement}

-- the lifetimes of the struct's type are within those that its reference names
lives_within : (κ : NamedLft) (V : RattleType) → Incl (C.the_row κ V).lives (κ.lft ++ V.lives)
lives_within κ V =
    let both : Lft = κ.lft ++ V.lives in
    Incl-trans (meet_⊑_right (V.lives ++ []) (both ++ [] ++ [] ++ []))
    (Incl-trans (meet_⊑_left (both ++ [] ++ []) []) (Incl-trans (meet_⊑_left (both ++ []) []) (meet_⊑_left both [])))

pub shares : (κ : NamedLft) (V : RattleType) (L : Laws V) → statement κ V L
shares κ V L =
    let R : RattleType = MutRef κ.mir κ.lft V in
    of_Lends (C.struct κ V) (C.the_codes V.Denot V.coded (marker.the_row R).coded) (C.the_heap κ.lft V) (C.the_lent κ.lft V)
    (λ d p. beside_shr_laws (said (known V d.first d.marks d.items)) (within κ.lft (lent_where V d.first d.marks d.items))
    (said_shr_laws (known V d.first d.marks d.items) (tt, (tt, (tt, tt))))
    (within_shr_laws κ.lft (lent_where V d.first d.marks d.items) (lent_where_laws V L.shr_laws d.first d.marks d.items)))
    (copy_shared RawPtr-field RawPtr-copy, (copy_shared (marker.the_field R) (field_copy (marker.the_type R) tt), tt))
    (λ M 𝓤 𝓛 d p κ₀ ts inc sp. cells_lent 𝓛 V V.lives (L.shares 𝓛) κ.lft d.name d.first d.marks d.items κ₀ ts
    (Incl-trans inc (lives_within κ V)) sp)
