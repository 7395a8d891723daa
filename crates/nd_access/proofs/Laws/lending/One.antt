-- One of some elements of a slice is taken out, and another item is put back. Assumes `Logic`.
use Rattle.nd_access.specs.Cells.{cell_if, cells_where}
use Rattle.nd_access.proofs.Laws.lending.Steps
use Steps.{Bool, Fml, List, Logic, RattleType, T, Ura, arith, block_ptr, done, ent, false, fjoin, fsep, fsplit, ftrue, get_or, length, mem}
use Steps.{move, never_e, nth, qed, sem, sep, set, split, suc, true, use1, use2, zero, !, [], ‵, ℕ, ◌$◌, ◌+◌, ◌∵◌, ◌∷◌, ◌≡◌, ◌⊛◌}

-- what is left without the element at a place
abbrev pub others : (V : RattleType) → ℕ → ℕ → ℕ → List Bool → List V.Denot → Fml
others V k b o [] items = ftrue
others V k b o (m ∷ marks) [] = ftrue
others V zero b o (m ∷ marks) (item ∷ items) = cells_where V (block_ptr b (o + (mem V).size)) marks items
others V (suc k) b o (m ∷ marks) (item ∷ items) = fsep (cell_if V (block_ptr b o) m item) (others V k b (o + (mem V).size) marks items)

module _ {M : Type 1} {𝓤 : Ura M} (𝓛 : Logic 𝓤) (V : RattleType) (b : ℕ) where
  abbrev s : ℕ
  s = (mem V).size

  pub cell_out : (k : ℕ) (marks : List Bool) (xs : List V.Denot) (d : V.Denot) (o : ℕ) → T (get_or marks k false)
      → ent 𝓤 (sem 𝓛 (cells_where V (block_ptr b o) marks xs))
      (sep 𝓤 (sem 𝓛 ((mem V).own_at (get_or xs k d) b (nth s o k))) (sem 𝓛 (others V k b o marks xs)))
  cell_out k [] [] d o h = absurd h
  cell_out k [] (x ∷ xs) d o h = never_e 𝓤 _
  cell_out k (m ∷ marks) [] d o h = never_e 𝓤 _
  cell_out zero (true ∷ marks) (x ∷ xs) d o h = qed 𝓛 (‵ (cells_where V (block_ptr b o) (true ∷ marks) (x ∷ xs)) ∷ []) ∵ fsplit ! $ done !
  cell_out zero (false ∷ marks) (x ∷ xs) d o h = absurd h
  cell_out (suc k) (m ∷ marks) (x ∷ xs) d o h =
      qed 𝓛 (‵ (fsep (cell_if V (block_ptr b o) m x) (cells_where V (block_ptr b (o + s)) marks xs)) ∷ []) ∵ fsplit ! $ move ! (1 ∷ []) $
      use1 𝓛 (‵ ((mem V).own_at (get_or xs k d) b (nth s (o + s) k)) ⊛ ‵ (others V k b (o + s) marks xs))
      (cell_out k marks xs d (o + s) h) $
      split ! $
      move ! (2 ∷ 1 ∷ []) $ fjoin ! $ move ! (1 ∷ []) $ done !

  pub cell_in : (k : ℕ) (marks : List Bool) (xs : List V.Denot) (y : V.Denot) (o : ℕ) → T (get_or marks k false) → length xs ≡ length marks
      → ent 𝓤 (sep 𝓤 (sem 𝓛 ((mem V).own_at y b (nth s o k))) (sem 𝓛 (others V k b o marks xs)))
      (sem 𝓛 (cells_where V (block_ptr b o) marks (set xs k y)))
  cell_in k [] xs y o h e = absurd h
  cell_in k (m ∷ marks) [] y o h e = absurd (let never : zero ≡ suc (length marks) = e in let no : ⊥ = omega arith in no)
  cell_in zero (true ∷ marks) (x ∷ xs) y o h e =
      qed 𝓛 (‵ ((mem V).own_at y b o) ∷ ‵ (cells_where V (block_ptr b (o + s)) marks xs) ∷ []) ∵ fjoin ! $ done !
  cell_in zero (false ∷ marks) (x ∷ xs) y o h e = absurd h
  cell_in (suc k) (m ∷ marks) (x ∷ xs) y o h e =
      qed 𝓛 (‵ ((mem V).own_at y b (nth s (o + s) k)) ∷ ‵ (fsep (cell_if V (block_ptr b o) m x) (others V k b (o + s) marks xs)) ∷ []) ∵
      move ! (1 ∷ []) $ fsplit ! $
      move ! (2 ∷ 1 ∷ []) $ use2 𝓛 (‵ (cells_where V (block_ptr b (o + s)) marks (set xs k y)))
      (cell_in k marks xs y (o + s) h (omega arith)) $ move ! (1 ∷ 0 ∷ []) $ fjoin ! $ done !
