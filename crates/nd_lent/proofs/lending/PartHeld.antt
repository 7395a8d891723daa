-- A value of `ArrayViewMut`: its machine value and what it holds. Assumes `Logic`.
--     Bound                what the type of the view's shape brings
--     part_word p us       the machine value of a part whose first element lies at p, and whose view is us
--     part_had             a proof's step: of a value to its machine value and to what it holds.        part_made     the other way
--     part_opened          the same through a `&mut`, which is open then
use base.Fml.{fobor}
use denote.Struct.Declared.{shape}
use denote.Struct.Field.{Field}
use denote.Struct.Struct.{within}
use Rattle.ndarray_layout.specs.contracts.strided.Strided as V-type
use Rattle.ndarray_layout.specs.declared.FixedCount as fixed
use Rattle.ndarray_layout.specs.declared.Lengths as lengths
use Rattle.std.specs.declared.cmp.PartialEq as eq
use Rattle.std.specs.declared.fmt.Debug as debug
use Rattle.std.specs.declared.ops.Index as index
use Rattle.nd_access.specs.Cells.{holds_cells, known}
use Rattle.nd_lent.specs.contracts.array_view_mut.ArrayViewMut as P-type
use Rattle.nd_lent.specs.declared.array_view_mut.ArrayViewMut.{ArrayViewMut}
use Rattle.nd_access.proofs.Laws.lending.Held.{cells_had, cells_made, word}
use Rattle.nd_access.proofs.Laws.lending.Steps
use Steps.{Borrowed, Goal, Item, Lft, List, Logic, MutBor, MutRef, NamedLft, Ptr, RattleType, Seq, Share, Soaks, Step, Ura, Val, Valss}
use Steps.{cell_at, drop, fauth, feq_i, feq_l, fjoin, flft, fobs, fpack, fpick, fsplit, fsplit3, full_share, mem, move, named, nothing}
use Steps.{of_list, opens, pure_i, pure_l, refl, rewrite, shadow, step, vstruct, [], ‵, ℕ, ◌$◌, ◌++◌, ◌∙◌, ◌∷◌, ◌≡◌}

-- what the type of the view's shape brings
pub record Bound (D : Type 0) : Type 1 where
  pub lens : lengths.Ghosts D
  pub count : fixed.Ghosts D
  pub same : eq.Ghosts D
  pub text : debug.Ghosts D
  pub at : index.Ghosts D ℕ ℕ

abbrev pub Part : Type 0 → (D : Type 0) → Bound D → Type 0
Part T D g = ArrayViewMut T D g.lens g.count g.same g.text g.at

abbrev pub part_word : Ptr → List Val → Val
part_word p us = vstruct (of_list ((word p ∷ []) ++ (us ++ [])))

module _ (κ : NamedLft) (R D : RattleType) (g : Bound D.Denot) where
  abbrev pub ItsPart : RattleType
  ItsPart = P-type.the_row κ R D g.lens g.count g.same g.text g.at

module _ (D : RattleType) (g : Bound D.Denot) where
  abbrev pub ViewField : Field
  ViewField = V-type.the_field D g.lens g.count g.same g.text g.at

  abbrev pub ItsView : RattleType
  ItsView = V-type.the_row D g.lens g.count g.same g.text g.at

module _ {M : Type 1} {𝓤 : Ura M} {𝓛 : Logic 𝓤} {K : Type 0} {Γ : List (Item 𝓤)} {G : Goal 𝓤 𝓛.H} where
  pub part_made : K → (κ : NamedLft) (R D : RattleType) (g : Bound D.Denot) (p : Part R.Denot D.Denot g) (us : List Val)
      → Step K 𝓛 (‵ ((ItsPart κ R D g).own_val p (part_word p.cells.first us ∷ [])) ∷ Γ) G
      (‵ (holds_cells κ.lft R p.cells.name p.cells.first p.cells.marks p.cells.items) ∷ ‵ ((ItsView D g).own_val p.view us) ∷ Γ) G
  part_made t κ R D g p us =
      step (λ s. cells_made t κ R p.cells $ nothing t $ move t (2 ∷ 0 ∷ []) $ fjoin t $ move t (1 ∷ 0 ∷ []) $ fjoin t $
      feq_i t (List Val) (part_word p.cells.first us ∷ []) (part_word p.cells.first us ∷ []) refl $ fjoin t $
      let S = shape (P-type.the_type κ R D g.lens g.count g.same g.text g.at) in
      fpack t (Valss S.fields) (within S (p.cells, ((ViewField D g).into p.view, tt)) (part_word p.cells.first us ∷ []))
      (word p.cells.first ∷ [], (us, tt)) $ s)

  pub part_had : K → (κ : NamedLft) (R D : RattleType) (g : Bound D.Denot) (p : Part R.Denot D.Denot g) (vs : List Val)
      → ((us : List Val) → vs ≡ part_word p.cells.first us ∷ []
      → Seq K 𝓛 (‵ (holds_cells κ.lft R p.cells.name p.cells.first p.cells.marks p.cells.items)
      ∷ ‵ ((ItsView D g).own_val p.view us) ∷ Γ) G)
      → Seq K 𝓛 (‵ ((ItsPart κ R D g).own_val p vs) ∷ Γ) G
  part_had t κ R D g p vs k = fpick t (λ vss. fsplit t $ feq_l t (λ e. fsplit t $ cells_had t κ R p.cells vss.0 (λ is.
      move t (1 ∷ []) $ fsplit t $ move t (1 ∷ []) $ drop t $ move t (1 ∷ 0 ∷ []) $
      k vss.1.0 (e ∙ (λ i. vstruct (of_list (is i ++ (vss.1.0 ++ []))) ∷ [])))))

module _ {M : Type 1} {𝓤 : Ura M} {𝓛 : Logic 𝓤} {K : Type 0} {Γ : List (Item 𝓤)} {G : Goal 𝓤 𝓛.H} where
  -- [the machine value; what it holds; what the view owns; the open borrow; its name]
  pub part_opened : K → Soaks G → {κ : Lft} {q : Share} {vs : List Val} (a : NamedLft) (V D : RattleType) (g : Bound D.Denot)
      (self : MutBor (Part V.Denot D.Denot g))
      → let p = self.now in let c = p.cells in let Self = ItsPart a V D g in let b = self.ref_ptr.0 in let o = self.ref_ptr.1 in
      let γ = self.ghost_name in
      ((us : List Val) → shadow (known V c.first c.marks c.items) → Seq K 𝓛 (‵ (cell_at full_share Self.mir (part_word c.first us ∷ []) b o)
      ∷ ‵ (holds_cells a.lft V c.name c.first c.marks c.items) ∷ ‵ ((ItsView D g).own_val p.view us)
      ∷ ‵ (fobor κ q (Borrowed (mem Self) b o γ)) ∷ ‵ (fobs γ (Self.coded.code p)) ∷ ‵ (fauth γ (Self.coded.code p)) ∷ Γ) G)
      → Seq K 𝓛 (‵ ((MutRef (named 0) κ Self).own_val self vs) ∷ ‵ (flft κ q) ∷ Γ) G
  part_opened t z a V D g self k = let p = self.now in let c = p.cells in let Self = ItsPart a V D g in
      let b = self.ref_ptr.0 in let o = self.ref_ptr.1 in
      fsplit3 t $ drop t $ move t (0 ∷ 1 ∷ 2 ∷ []) $ opens t z Self {h = p} b o (λ vs. move t (1 ∷ []) $ part_had t a V D g p vs (λ us told.
      fsplit t $ pure_l t (known V c.first c.marks c.items) (λ k₀.
      pure_i t (known V c.first c.marks c.items) (tt, (tt, (tt, tt))) k₀ $ fjoin t $
      move t (2 ∷ 0 ∷ 1 ∷ []) $ rewrite t 0 (λ (ws : List Val). ‵ (cell_at full_share Self.mir ws b o)) told refl $ k us k₀)))
