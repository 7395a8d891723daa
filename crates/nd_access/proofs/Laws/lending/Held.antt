-- A value of `Cells` and one of `Reader`: the machine value, and what it holds. Assumes `Logic`.
--     word p           the machine value where the first element lies at p.        word_typed     it has its type
--     fields, Words    what such a value has, and the same as a type: a pointer and a mark
--     cells_had        a proof's step: of cells to their machine value and to what they hold.        cells_made, reader_made     from that
--     opened           the same through a `&mut`, which is open then
use base.Fml.{fobor}
use denote.Struct.Struct.{Shape, Struct}
use mir.Syntax.{tcons, tnil, ty_ptr, ty_struct}
use Rattle.std.specs.contracts.marker.PhantomData as marker
use Rattle.nd_access.specs.Cells.{holds_cells, known}
use Rattle.nd_access.specs.Reader.{reads_cells}
use Rattle.nd_access.specs.CellsType as C
use Rattle.nd_access.specs.ReaderType as R
use Rattle.nd_access.specs.declared.cells.Cells.{Cells}
use Rattle.nd_access.specs.declared.cells.Reader.{Reader}
use Rattle.nd_access.proofs.Laws.lending.Steps
use Steps.{Borrowed, Goal, Item, Lft, List, Logic, MutBor, MutRef, NamedLft, Ptr, RattleType, RawPtr, Seq, Share, ShrRef, Soaks, Step, Sym}
use Steps.{T, Ura, Val, WT, block_ptr, cell_at, drop, emp, ent, fauth, feq_l, fjoin, flft, fobs, fpick, fsplit, fsplit3, full_share, has_ty}
use Steps.{lit<, makes_shadow, mem, move, named, null_ptr, of_list, opens, ptr_val, pure_i, pure_l, refl, rewrite, sem, shadow, step, use0}
use Steps.{vcons, vnil, vstruct, [], ‵, ◌$◌, ◌++◌, ◌∙◌, ◌∷◌, ◌≡◌}

abbrev pub word : Ptr → Val
word p = vstruct (vcons (ptr_val p) (vcons (vstruct vnil) vnil))

pub ptr_typed : (p : Ptr) → T (has_ty ty_ptr (ptr_val p)) × WT (ptr_val p)
ptr_typed (block_ptr b o) = (tt, tt)
ptr_typed null_ptr = (tt, record { fits = lit< tt })

-- (the type's names don't count)
pub word_typed : (p : Ptr) → T (has_ty (ty_struct [] (tcons ty_ptr (tcons (ty_struct [] tnil) tnil))) (word p)) × WT (word p)
word_typed (block_ptr b o) = (tt, (tt, (tt, tt)))
word_typed null_ptr = (tt, (record { fits = lit< tt }, (tt, tt)))

module _ (ν : Sym) (V P : RattleType) where
  abbrev pub fields : Shape
  fields = record { name = ν; args = named 1 ∷ []; types = V ∷ []; fields = RawPtr ∷ (marker.the_field P).row ∷ [] }

  abbrev pub Words : RattleType
  Words = Struct fields

  made : {M : Type 1} {𝓤 : Ura M} (𝓛 : Logic 𝓤) (p : Ptr) → ent 𝓤 (emp 𝓤) (sem 𝓛 (Words.own_val (p, (tt, tt)) (word p ∷ [])))
  made 𝓛 p = makes_shadow 𝓛 (Words.own_val (p, (tt, tt)) (word p ∷ []))
      (λ vss. (tt, (tt, ((λ uss. (tt, tt)), tt)))) ((ptr_val p ∷ [], (vstruct vnil ∷ [], tt)), (refl, (refl, ((tt, (refl, tt)), tt))))

module _ (κ : NamedLft) (V : RattleType) where
  abbrev pub It : RattleType
  It = C.the_row κ V

  abbrev pub Reading : RattleType
  Reading = R.the_row κ V

module _ {M : Type 1} {𝓤 : Ura M} {𝓛 : Logic 𝓤} {K : Type 0} {Γ : List (Item 𝓤)} {G : Goal 𝓤 𝓛.H} where
  pub cells_made : K → (κ : NamedLft) (V : RattleType) (c : Cells V.Denot)
      → Step K 𝓛 (‵ ((It κ V).own_val c (word c.first ∷ [])) ∷ Γ) G (‵ (holds_cells κ.lft V c.name c.first c.marks c.items) ∷ Γ) G
  cells_made t κ V c = let P = MutRef κ.mir κ.lft V in let ν = (C.struct κ V).name in
      step (λ s. use0 𝓛 (‵ ((Words ν V P).own_val (c.first, (tt, tt)) (word c.first ∷ []))) (made ν V P 𝓛 c.first) $ fjoin t $ s)

  pub reader_made : K → (κ : NamedLft) (V : RattleType) (r : Reader V.Denot)
      → Step K 𝓛 (‵ ((Reading κ V).own_val r (word r.first ∷ [])) ∷ Γ) G (‵ (reads_cells V r.first r.marks r.items κ.lft) ∷ Γ) G
  reader_made t κ V r = let P = ShrRef κ.mir κ.lft V in let ν = (R.struct κ V).name in
      step (λ s. use0 𝓛 (‵ ((Words ν V P).own_val (r.first, (tt, tt)) (word r.first ∷ []))) (made ν V P 𝓛 r.first) $ fjoin t $ s)

  pub cells_had : K → (κ : NamedLft) (V : RattleType) (c : Cells V.Denot) (vs : List Val)
      → (vs ≡ word c.first ∷ [] → Seq K 𝓛 (‵ (holds_cells κ.lft V c.name c.first c.marks c.items) ∷ Γ) G)
      → Seq K 𝓛 (‵ ((It κ V).own_val c vs) ∷ Γ) G
  cells_had t κ V c vs k = fsplit t $ fpick t (λ vss. fsplit t $ feq_l t (λ e. fsplit t $ feq_l t (λ here. fsplit t $
      fpick t (λ uss. fsplit t $ feq_l t (λ mark.
      drop t $ drop t $ k (e ∙ (λ i. vstruct (of_list (here i ++ (mark i ++ []))) ∷ [])))))))

module _ {M : Type 1} {𝓤 : Ura M} {𝓛 : Logic 𝓤} {K : Type 0} {Γ : List (Item 𝓤)} {G : Goal 𝓤 𝓛.H} where
  -- [the machine value; what they hold; the open borrow; its name]
  pub opened : K → Soaks G → {κ : Lft} {q : Share} {us : List Val} (a : NamedLft) (V : RattleType) (self : MutBor (Cells V.Denot))
      → let c = self.now in let Self = It a V in let b = self.ref_ptr.0 in let o = self.ref_ptr.1 in let γ = self.ghost_name in
      (shadow (known V c.first c.marks c.items) → Seq K 𝓛 (‵ (cell_at full_share Self.mir (word c.first ∷ []) b o)
      ∷ ‵ (holds_cells a.lft V c.name c.first c.marks c.items) ∷ ‵ (fobor κ q (Borrowed (mem Self) b o γ)) ∷ ‵ (fobs γ (Self.coded.code c))
      ∷ ‵ (fauth γ (Self.coded.code c)) ∷ Γ) G)
      → Seq K 𝓛 (‵ ((MutRef (named 0) κ Self).own_val self us) ∷ ‵ (flft κ q) ∷ Γ) G
  opened t z a V self k = let c = self.now in let Self = It a V in let b = self.ref_ptr.0 in let o = self.ref_ptr.1 in
      fsplit3 t $ drop t $ move t (0 ∷ 1 ∷ 2 ∷ []) $ opens t z Self {h = c} b o (λ vs. move t (1 ∷ []) $ cells_had t a V c vs (λ told.
      fsplit t $ pure_l t (known V c.first c.marks c.items) (λ k₀.
      pure_i t (known V c.first c.marks c.items) (tt, (tt, (tt, tt))) k₀ $ fjoin t $
      move t (1 ∷ []) $ rewrite t 0 (λ (us : List Val). ‵ (cell_at full_share Self.mir us b o)) told refl $ k k₀)))
