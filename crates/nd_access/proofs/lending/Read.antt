-- Elements of a slice that are lent to be read. Assumes `Logic`.
--     reads_laws      what a reader holds can be copied, and used for a shorter time
--     Lends-held      a borrow of what can be copied gives it for its own time
--     all_lent        what a `&` to a slice holds is a `&` to all of them
--     row_lent        of a stretch that is marked it is what a `&` to a slice holds
use base.Logic.{apply∗, wand}
use denote.SharingLaws.{beside_shr_laws, contraction, said_shr_laws}
use denote.Slice.{elements_shared}
use denote.Struct.Lending.{Lends}
use Rattle.nd_access.specs.Cells.{are_within, known, lent_where, span_of}
use Rattle.nd_access.specs.Reader.{reads_cells}
use Rattle.nd_access.proofs.lending.Shared.{lent_where_laws}
use Rattle.nd_access.proofs.Laws.lending.Steps
use Steps.{Bool, Fml, Lft, List, Logic, Ptr, RattleType, RowLaws, ShrLaws, T, Ura, arith, at_once, await, block_ptr, by, done, drop, drop_l}
use Steps.{emp, ent, false, fbor, fjoin, fsplit, ftrue, held, id⊢, later, length, lfts, mem, move, nth, qed, raw, replicate, said, sem, sep}
use Steps.{shared_of, split, suc, take, true, updating, use0, use1, use2, zero, !, [], ‵, ℕ, ◌$◌, ◌+◌, ◌∵◌, ◌∷◌, ◌≡◌, ◌≤◌, ◌⊛◌}

pub reads_laws : (V : RattleType) → RowLaws V → (p : Ptr) (marks : List Bool) (items : List V.Denot)
    → ShrLaws (reads_cells V p marks items)
reads_laws V L p marks items = beside_shr_laws (said (known V p marks items)) (lent_where V p marks items)
    (said_shr_laws (known V p marks items) (tt, (tt, (tt, tt)))) (lent_where_laws V L p marks items)

module _ {M : Type 1} {𝓤 : Ura M} (𝓛 : Logic 𝓤) where
  open 𝓛 use {H, A}

  pub Lends-held : (t : Lft → Fml) → ShrLaws t → (κ' l : Lft) → Lends 𝓛 (t κ') (held κ' t) l
  Lends-held t laws κ' l κ ts inc sp =
      let Back = H.⇛ (sep 𝓤 (A.bor κ (t κ')) (lfts 𝓛 ts)) in
      qed 𝓛 (‵ (fbor κ (t κ')) ∷ raw (lfts 𝓛 ts) ∷ []) {P = H.⇛ (sep 𝓤 (sem 𝓛 (t κ')) (lfts 𝓛 ts))} (
      updating ! $ use2 𝓛 (later (‵ (t κ') ⊛ raw (wand 𝓤 (sem 𝓛 (t κ')) Back))) (𝓛.more.bor_acc_by κ ts (t κ') sp) $ await ! tt $ split ! $
      use1 𝓛 (‵ (t κ') ⊛ ‵ (t κ')) (contraction 𝓛 t laws κ') $ split ! $ move ! (0 ∷ 2 ∷ []) $
      use2 𝓛 (later (‵ (fbor κ (t κ')) ⊛ raw (lfts 𝓛 ts))) (apply∗ 𝓤 (sem 𝓛 (t κ')) Back) $ await ! tt $ split ! $ drop ! $
      move ! (1 ∷ 0 ∷ []) $ at_once ! $ done !)

module _ {M : Type 1} {𝓤 : Ura M} (𝓛 : Logic 𝓤) (V : RattleType) (b : ℕ) (κ : Lft) where
  pub all_lent : (xs : List V.Denot) (o : ℕ)
      → ent 𝓤 (sem 𝓛 (elements_shared V xs b o κ)) (sem 𝓛 (lent_where V (block_ptr b o) (replicate (length xs) true) xs κ))
  all_lent [] o = id⊢ 𝓤 (emp 𝓤)
  all_lent (x ∷ xs) o =
      qed 𝓛 (‵ (shared_of V x b o κ) ∷ ‵ (elements_shared V xs b (o + (mem V).size) κ) ∷ []) ∵
      use0 𝓛 (‵ ftrue) (id⊢ 𝓤 (emp 𝓤)) $ fjoin ! $ move ! (1 ∷ []) $
      use1 𝓛 (‵ (lent_where V (block_ptr b (o + (mem V).size)) (replicate (length xs) true) xs κ)) (all_lent xs (o + (mem V).size)) $
      move ! (1 ∷ 0 ∷ []) $ fjoin ! $ done !

  pub row_lent : (start len : ℕ) (marks : List Bool) (items : List V.Denot) (o : ℕ)
      → T (are_within (span_of start len marks) marks) → start + len ≤ length marks → length items ≡ length marks
      → ent 𝓤 (sem 𝓛 (lent_where V (block_ptr b o) marks items κ))
      (sem 𝓛 (elements_shared V (take len (drop_l start items)) b (nth (mem V).size o start) κ))
  row_lent zero zero marks items o h f e = qed 𝓛 (‵ (lent_where V (block_ptr b o) marks items κ) ∷ []) ∵ drop ! $ done !
  row_lent zero (suc len) [] items o h f e = absurd (let no : ⊥ = omega arith in no)
  row_lent zero (suc len) (m ∷ marks) [] o h f e = absurd (let no : ⊥ = omega arith in no)
  row_lent zero (suc len) (false ∷ marks) (x ∷ items) o h f e = absurd h
  row_lent zero (suc len) (true ∷ marks) (x ∷ items) o h f e =
      qed 𝓛 (‵ (lent_where V (block_ptr b o) (true ∷ marks) (x ∷ items) κ) ∷ []) ∵ fsplit ! $ fsplit ! $ drop ! $ move ! (1 ∷ []) $
      use1 𝓛 (‵ (elements_shared V (take len items) b (o + (mem V).size) κ))
      (row_lent zero len marks items (o + (mem V).size) h (omega arith) (omega arith)) $ move ! (1 ∷ 0 ∷ []) $ fjoin ! $ done !
  row_lent (suc start) len [] items o h f e = absurd (let no : ⊥ = omega arith in no)
  row_lent (suc start) len (m ∷ marks) [] o h f e = absurd (let no : ⊥ = omega arith in no)
  row_lent (suc start) len (m ∷ marks) (x ∷ items) o h f e =
      qed 𝓛 (‵ (lent_where V (block_ptr b o) (m ∷ marks) (x ∷ items) κ) ∷ []) ∵ fsplit ! $ drop ! $
      by ! (row_lent start len marks items (o + (mem V).size) h (omega arith) (omega arith))
