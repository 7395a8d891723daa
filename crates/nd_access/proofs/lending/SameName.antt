-- What a borrow holds is replaced by what holds as much, under the same name. Assumes `Logic`.
use base.Logic.{upd_i}
use base.Stored.{Coded}
use Rattle.std.specs.Prelude.{replicate}
use Rattle.nd_access.specs.Cells.{CellsWhere, cells_where}
use Rattle.nd_access.proofs.Laws.lending.Where.{all_of_where, where_of_all}
use Rattle.nd_access.proofs.Laws.lending.Steps
use Steps.{Arr, Borrowed as Body, Fml, GName, Lft, List, Logic, RattleType, SemTy, Share, Ura, assume, at_once, block_ptr, bor_open, by}
use Steps.{cells, done, emp, ent, fauth, fbor, fdead, feq_i, feq_l, fex, fjoin, flft, fpack, fpick, fsep, fseps, fsplit, fsplit3, ftrue}
use Steps.{fupd, fwand, given, id⊢, keep, learn, length, mem, move, nothing, obor_alter, qed, raw, refl, rewrite, sem, sep, split, suffices}
use Steps.{true, updating, use0, use1, !, [], ‵, ℕ, ◌$◌, ◌∵◌, ◌∷◌, ◌≡◌, ◌⊛◌}

module _ {M : Type 1} {𝓤 : Ura M} (𝓛 : Logic 𝓤) (D : Type 0) (c : Coded D) (γ : GName) where
  open 𝓛 use {H, A}

  abbrev Held : (D → Fml) → Fml
  Held P = fex D (λ x. fsep (P x) (fauth γ (c.code x)))

  held : (P Q : D → Fml) → ((x : D) → ent 𝓤 (sem 𝓛 (P x)) (sem 𝓛 (Q x))) → ent 𝓤 (sem 𝓛 (Held P)) (sem 𝓛 (Held Q))
  held P Q h = qed 𝓛 (‵ (Held P) ∷ []) ∵ fpick ! (λ x. fsplit ! $ use1 𝓛 (‵ (Q x)) (h x) $ fjoin ! $
      fpack ! D (λ z. fsep (Q z) (fauth γ (c.code z))) x $ done !)

  module _ (κ : Lft) (q : Share) (P Q : D → Fml) (forth : (x : D) → ent 𝓤 (sem 𝓛 (P x)) (sem 𝓛 (Q x)))
      (back : (x : D) → ent 𝓤 (sem 𝓛 (Q x)) (sem 𝓛 (P x))) where
    abbrev Way : Fml
    Way = fwand (fsep (fdead κ) (fseps (Held Q ∷ []))) (fupd (Held P))

    way : ent 𝓤 (emp 𝓤) (sem 𝓛 Way)
    unfolding fseps
    way = qed 𝓛 [] ∵ assume ! (‵ (fsep (fdead κ) (fsep (Held Q) ftrue))) $ suffices ! (sem 𝓛 (Held P)) (upd_i 𝓤 (sem 𝓛 (Held P))) $
        fsplit3 ! $ keep ! (1 ∷ []) $ by ! (held Q P back)

    pub turned : ent 𝓤 (sep 𝓤 (A.bor κ (Held P)) (A.lft κ q)) (H.⇛ (sep 𝓤 (A.bor κ (Held Q)) (A.lft κ q)))
    unfolding fseps
    turned = qed 𝓛 (‵ (fbor κ (Held P)) ∷ ‵ (flft κ q) ∷ []) ∵ updating ! $ bor_open ! tt $ move ! (1 ∷ []) $
        use1 𝓛 (‵ (Held Q)) (held P Q forth) $ use0 𝓛 (‵ Way) way $ nothing ! $ move ! (2 ∷ 0 ∷ []) $ fjoin ! $ move ! (2 ∷ 0 ∷ 1 ∷ []) $
        obor_alter ! tt (Held Q ∷ []) $ use1 𝓛 (‵ (fbor κ (Held Q)) ⊛ raw (emp 𝓤)) (id⊢ 𝓤 _) $ split ! $ at_once ! $
        keep ! (0 ∷ 2 ∷ []) $ done !

module _ {M : Type 1} {𝓤 : Ura M} (𝓛 : Logic 𝓤) (V : RattleType) (κ : Lft) (q : Share) (n b o : ℕ) (γ : GName) where
  open 𝓛 use {H, A}

  abbrev pub All : SemTy
  All = Arr (mem V) n

  abbrev pub Apart : SemTy
  Apart = CellsWhere V (block_ptr b o) (replicate n true)

  apart : (xs : List V.Denot) → ent 𝓤 (sem 𝓛 (All.own_at xs b o)) (sem 𝓛 (Apart.own_at xs 0 0))
  apart xs = qed 𝓛 (‵ (All.own_at xs b o) ∷ []) ∵ fsplit ! $ feq_l ! (λ e.
      use1 𝓛 (‵ (cells_where V (block_ptr b o) (replicate (length xs) true) xs)) (where_of_all 𝓛 V xs b o) $
      rewrite ! 0 (λ (m : ℕ). ‵ (cells_where V (block_ptr b o) (replicate m true) xs)) e refl $ done !)

  together : (xs : List V.Denot) → ent 𝓤 (sem 𝓛 (Apart.own_at xs 0 0)) (sem 𝓛 (All.own_at xs b o))
  together xs = qed 𝓛 (‵ (Apart.own_at xs 0 0) ∷ []) ∵
      use1 𝓛 (given (length xs ≡ n) (‵ (cells (mem V) xs b o))) (all_of_where 𝓛 V n xs b o) $
      learn ! (λ e. feq_i ! ℕ (length xs) n e $ fjoin ! $ done !)

  pub to_cells : ent 𝓤 (sep 𝓤 (A.bor κ (Body All b o γ)) (A.lft κ q)) (H.⇛ (sep 𝓤 (A.bor κ (Body Apart 0 0 γ)) (A.lft κ q)))
  to_cells = turned 𝓛 (List V.Denot) All.coded γ κ q (λ xs. All.own_at xs b o) (λ xs. Apart.own_at xs 0 0) apart together

  pub to_slice : ent 𝓤 (sep 𝓤 (A.bor κ (Body Apart 0 0 γ)) (A.lft κ q)) (H.⇛ (sep 𝓤 (A.bor κ (Body All b o γ)) (A.lft κ q)))
  to_slice = turned 𝓛 (List V.Denot) All.coded γ κ q (λ xs. Apart.own_at xs 0 0) (λ xs. All.own_at xs b o) together apart
