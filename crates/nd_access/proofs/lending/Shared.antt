-- Some elements of a slice, seen through a `&`. Assumes `Logic`.
--     lent_where_laws      what such a `&` holds can be copied, and used for a shorter time
--     cells_lent           a borrow of the right to them becomes what a `&` to it holds
use denote.Shares.{Shares, peels}
use denote.SharingLaws.{beside_shr_laws, nothing_shr_laws}
use denote.Struct.Lending.{Lends, Lends-both, Lends-lies, Lends-nothing, Lends-said, lent_at_shr_laws}
use ghost.Rules.{span}
use Rattle.nd_access.specs.Cells.{CellsWhere, cell_if, cells_where, holds_cells, known, lent_if, lent_where}
use Rattle.nd_access.proofs.Laws.lending.Steps
use Steps.{Bool, Borrowed as Body, Fml, GName, Incl, Incl-trans, Lft, List, Logic, Ptr, RattleType, RowLaws, ShrLaws, T, Ura, arith}
use Steps.{at_once, await, beside, block_ptr, by, coded_list, done, drop, ent, false, fbor, fobs, fsep, fsplit, ftrue, get_or, keep, later}
use Steps.{length, lfts, meet_⊑_left, meet_⊑_right, mem, nth, qed, raw, said, sem, sep, shared_of, suc, true, updating, use1, use2, within}
use Steps.{zero, !, [], ‵, ℕ, ⊑_meet, ◌$◌, ◌++◌, ◌+ₚ◌, ◌+◌, ◌∵◌, ◌∷◌, ◌≡◌, ◌⊛◌}

module _ (V : RattleType) (L : RowLaws V) where
  lent_if_laws : (p : Ptr) (mine : Bool) (x : V.Denot) → ShrLaws (lent_if V p mine x)
  lent_if_laws p true x = lent_at_shr_laws V L p x
  lent_if_laws p false x = nothing_shr_laws

  pub lent_where_laws : (p : Ptr) (marks : List Bool) (items : List V.Denot) → ShrLaws (lent_where V p marks items)
  lent_where_laws p [] items = nothing_shr_laws
  lent_where_laws p (m ∷ marks) [] = nothing_shr_laws
  lent_where_laws p (m ∷ marks) (x ∷ items) =
      beside_shr_laws (lent_if V p m x) (lent_where V (p +ₚ (mem V).size) marks items) (lent_if_laws p m x)
      (lent_where_laws (p +ₚ (mem V).size) marks items)

module _ {M : Type 1} {𝓤 : Ura M} (𝓛 : Logic 𝓤) (V : RattleType) (l : Lft) (s : Shares 𝓛 V l) where
  open 𝓛 use {H, A}

  if_lent : (p : Ptr) (mine : Bool) (x : V.Denot) → Lends 𝓛 (cell_if V p mine x) (lent_if V p mine x) l
  if_lent p true x = Lends-lies 𝓛 V l p x (s x)
  if_lent p false x = Lends-nothing 𝓛 ftrue l

  where_lent : (p : Ptr) (marks : List Bool) (items : List V.Denot) → Lends 𝓛 (cells_where V p marks items) (lent_where V p marks items) l
  where_lent p [] items = Lends-nothing 𝓛 (cells_where V p [] items) l
  where_lent p (m ∷ marks) [] = Lends-nothing 𝓛 (cells_where V p (m ∷ marks) []) l
  where_lent p (m ∷ marks) (x ∷ items) =
      Lends-both 𝓛 (cell_if V p m x) (cells_where V (p +ₚ (mem V).size) marks items) (lent_if V p m x)
      (lent_where V (p +ₚ (mem V).size) marks items) l
      (if_lent p m x) (where_lent (p +ₚ (mem V).size) marks items)

module _ {M : Type 1} {𝓤 : Ura M} (𝓛 : Logic 𝓤) (V : RattleType) (l : Lft) (s : Shares 𝓛 V l) (κ' : Lft) (name : GName) (p : Ptr)
    (marks : List Bool)
    (items : List V.Denot) where
  open 𝓛 use {H, A}

  abbrev Kept : Fml
  Kept = fsep (fobs name ((coded_list V.coded).code items)) (fbor κ' (Body (CellsWhere V p marks) 0 0 name))

  inner_lent : Lends 𝓛 Kept (within κ' (lent_where V p marks items)) (κ' ++ l)
  inner_lent κ ts inc sp =
      let sm : Incl (span ts) (κ ++ κ') = ⊑_meet (span ts) κ κ' sp (Incl-trans inc (meet_⊑_left κ' l)) in
      qed 𝓛 (‵ (fbor κ Kept) ∷ raw (lfts 𝓛 ts) ∷ []) {P = H.⇛ (sep 𝓤 (sem 𝓛 (within κ' (lent_where V p marks items) κ)) (lfts 𝓛 ts))} (
      updating ! $ use1 𝓛 (‵ (fbor (κ ++ κ') Kept)) (𝓛.bors.bor_shorten κ (κ ++ κ') Kept (meet_⊑_left κ κ')) $
      use2 𝓛 (later (‵ (fbor (κ ++ κ') (cells_where V p marks items)) ⊛ raw (lfts 𝓛 ts)))
      (peels 𝓛 (CellsWhere V p marks) (κ ++ κ') κ' ts sm name items 0 0 (meet_⊑_right κ κ')) $ await ! tt $
      use1 𝓛 (later (‵ (lent_where V p marks items (κ ++ κ')) ⊛ raw (lfts 𝓛 ts)))
      (where_lent 𝓛 V l s p marks items (κ ++ κ') ts (Incl-trans inc (meet_⊑_right κ' l)) sm) $ await ! tt $ at_once ! $ done !)

  pub cells_lent : Lends 𝓛 (holds_cells κ' V name p marks items)
      (beside (said (known V p marks items)) (within κ' (lent_where V p marks items))) (κ' ++ l)
  cells_lent = Lends-both 𝓛 (known V p marks items) Kept (said (known V p marks items)) (within κ' (lent_where V p marks items)) (κ' ++ l)
      (Lends-said 𝓛 (known V p marks items) (tt, (tt, (tt, tt))) (κ' ++ l)) inner_lent

-- one element of those that have a mark
module _ {M : Type 1} {𝓤 : Ura M} (𝓛 : Logic 𝓤) (V : RattleType) (b : ℕ) (κ : Lft) where
  pub lent_one : (k : ℕ) (marks : List Bool) (items : List V.Denot) (d : V.Denot) (o : ℕ) → T (get_or marks k false)
      → length items ≡ length marks
      → ent 𝓤 (sem 𝓛 (lent_where V (block_ptr b o) marks items κ)) (sem 𝓛 (shared_of V (get_or items k d) b (nth (mem V).size o k) κ))
  lent_one k [] items d o h e = absurd h
  lent_one k (m ∷ marks) [] d o h e = absurd (let never : zero ≡ suc (length marks) = e in let no : ⊥ = omega arith in no)
  lent_one zero (true ∷ marks) (x ∷ items) d o h e =
      qed 𝓛 (‵ (lent_where V (block_ptr b o) (true ∷ marks) (x ∷ items) κ) ∷ []) ∵ fsplit ! $ fsplit ! $ drop ! $ keep ! (0 ∷ []) $ done !
  lent_one zero (false ∷ marks) (x ∷ items) d o h e = absurd h
  lent_one (suc k) (m ∷ marks) (x ∷ items) d o h e =
      qed 𝓛 (‵ (lent_where V (block_ptr b o) (m ∷ marks) (x ∷ items) κ) ∷ []) ∵ fsplit ! $ drop ! $
      by ! (lent_one k marks items d (o + (mem V).size) h (omega arith))
