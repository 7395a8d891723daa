-- A `&` to a reader gives a `&` to each element that has a mark, for the reader's time. Assumes `Logic`.
use denote.Param.Laws.{Laws}
use denote.Param.Shared.{copy_shared}
use denote.RattleType.{RattleType}
use denote.Ref.{NamedLft, ShrRef}
use denote.SharingLaws.{held_shr_laws}
use denote.Struct.Field.{RawPtr-field}
use denote.Struct.Laws.{field_copy, RawPtr-copy}
use denote.Struct.Lending.{of_Lends}
use Rattle.std.specs.contracts.marker.PhantomData as marker
use Rattle.nd_access.specs.Reader.{reads_cells}
use Rattle.nd_access.specs.contracts.cells.Reader as C
use Rattle.nd_access.proofs.lending.Read.{reads_laws, Lends-held}
use Rattle.nd_access.proofs.cells.Reader.TheLaw.Statement.{statement}

pub shares : (κ : NamedLft) (V : RattleType) (L : Laws V) → statement κ V L
shares κ V L =
    let R : RattleType = ShrRef κ.mir κ.lft V in
    of_Lends (C.struct κ V) (C.the_codes V.Denot V.coded (marker.the_row R).coded) (C.the_heap κ.lft V) (C.the_lent κ.lft V)
    (λ d p. held_shr_laws κ.lft (reads_cells V d.first d.marks d.items) (reads_laws V L.shr_laws d.first d.marks d.items))
    (copy_shared RawPtr-field RawPtr-copy, (copy_shared (marker.the_field R) (field_copy (marker.the_type R) tt), tt))
    (λ M 𝓤 𝓛 d p κ₀ ts inc sp. Lends-held 𝓛 (reads_cells V d.first d.marks d.items) (reads_laws V L.shr_laws d.first d.marks d.items)
    κ.lft (C.the_row κ V).lives κ₀ ts inc sp)
