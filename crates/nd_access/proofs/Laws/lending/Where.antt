-- Some elements of a slice. Assumes `Logic`.
--     where_of_all, all_of_where      all elements of a slice are the cells where each has a mark, and the other way
--     where_cut, where_joined         cells are those at some of the marks and those at the others, and the other way with items of both
use Rattle.std.specs.Prelude.{replicate}
use Rattle.nd_access.specs.Cells.{are_within, cell_if, cells_where, chosen_of, without}
use Rattle.nd_access.proofs.Laws.lending.Steps
use Steps.{Bool, Fml, List, Logic, Ptr, RattleType, T, Ura, ap, block_ptr, cells, check, done, drop, emp, ent, false, ffalse, fjoin, fsep}
use Steps.{fsplit, fst∗, ftrue, full_share, given, guard, guard_i, id⊢, keep, learn, length, lies_at, mem, move, never_e, nothing, qed}
use Steps.{refl, sem, sep, snd∗, split, suc, true, use1, use2, via, zero, !, [], ‵, ℕ, ◌$◌, ◌+ₚ◌, ◌+◌, ◌∵◌, ◌∷◌, ◌≡◌, ◌⊛◌}

module _ {M : Type 1} {𝓤 : Ura M} (𝓛 : Logic 𝓤) (V : RattleType) where
  pub where_of_all : (xs : List V.Denot) (b o : ℕ)
      → ent 𝓤 (sem 𝓛 (cells (mem V) xs b o)) (sem 𝓛 (cells_where V (block_ptr b o) (replicate (length xs) true) xs))
  where_of_all [] b o = id⊢ 𝓤 (emp 𝓤)
  where_of_all (x ∷ xs) b o = qed 𝓛 (‵ ((mem V).own_at x b o) ∷ ‵ (cells (mem V) xs b (o + (mem V).size)) ∷ []) ∵ move ! (1 ∷ []) $
      use1 𝓛 (‵ (cells_where V (block_ptr b (o + (mem V).size)) (replicate (length xs) true) xs)) (where_of_all xs b (o + (mem V).size)) $
      move ! (1 ∷ 0 ∷ []) $ fjoin ! $ done !

  pub all_of_where : (n : ℕ) (xs : List V.Denot) (b o : ℕ)
      → ent 𝓤 (sem 𝓛 (cells_where V (block_ptr b o) (replicate n true) xs)) (guard 𝓤 (length xs ≡ n) (sem 𝓛 (cells (mem V) xs b o)))
  all_of_where zero [] b o = guard_i 𝓤 _ (emp 𝓤) refl
  all_of_where zero (x ∷ xs) b o = never_e 𝓤 _
  all_of_where (suc n) [] b o = never_e 𝓤 _
  all_of_where (suc n) (x ∷ xs) b o =
      qed 𝓛 (‵ (lies_at V full_share (block_ptr b o) x) ∷ ‵ (cells_where V (block_ptr b (o + (mem V).size)) (replicate n true) xs) ∷ []) ∵
      move ! (1 ∷ []) $ use1 𝓛 (given (length xs ≡ n) (‵ (cells (mem V) xs b (o + (mem V).size))))
      (all_of_where n xs b (o + (mem V).size)) $
      learn ! (λ e. move ! (1 ∷ 0 ∷ []) $ fjoin ! $ check ! (ap suc e) $ done !)

  -- one cell beside a row that is cut: it goes with the first part or with the second
  module _ (F P Q R : Fml) (rest : ent 𝓤 (sem 𝓛 P) (sep 𝓤 (sem 𝓛 Q) (sem 𝓛 R))) where
    pub cut_here : ent 𝓤 (sem 𝓛 (fsep F P)) (sep 𝓤 (sem 𝓛 (fsep F Q)) (sem 𝓛 (fsep ftrue R)))
    cut_here = qed 𝓛 (‵ (fsep F P) ∷ []) ∵ fsplit ! $ move ! (1 ∷ []) $ use1 𝓛 (‵ Q ⊛ ‵ R) rest $ split ! $ move ! (2 ∷ 0 ∷ []) $ fjoin ! $
        move ! (1 ∷ []) $ nothing ! $ fjoin ! $ move ! (1 ∷ []) $ done !

    cut_there : ent 𝓤 (sem 𝓛 (fsep F P)) (sep 𝓤 (sem 𝓛 (fsep ftrue Q)) (sem 𝓛 (fsep F R)))
    cut_there = qed 𝓛 (‵ (fsep F P) ∷ []) ∵ fsplit ! $ move ! (1 ∷ []) $ use1 𝓛 (‵ Q ⊛ ‵ R) rest $ split ! $ nothing ! $ fjoin ! $
        move ! (2 ∷ 1 ∷ []) $ fjoin ! $ move ! (1 ∷ []) $ done !

  module _ (F P Q R : Fml) (rest : ent 𝓤 (sep 𝓤 (sem 𝓛 Q) (sem 𝓛 R)) (sem 𝓛 P)) where
    pub join_here : (G : Fml) → ent 𝓤 (sep 𝓤 (sem 𝓛 (fsep F Q)) (sem 𝓛 (fsep G R))) (sem 𝓛 (fsep F P))
    join_here G = qed 𝓛 (‵ (fsep F Q) ∷ ‵ (fsep G R) ∷ []) ∵ fsplit ! $ move ! (2 ∷ []) $ fsplit ! $ move ! (3 ∷ 1 ∷ []) $
        use2 𝓛 (‵ P) rest $ move ! (2 ∷ 0 ∷ []) $ fjoin ! $ keep ! (0 ∷ []) $ done !

    join_there : (G : Fml) → ent 𝓤 (sep 𝓤 (sem 𝓛 (fsep G Q)) (sem 𝓛 (fsep F R))) (sem 𝓛 (fsep F P))
    join_there G = qed 𝓛 (‵ (fsep G Q) ∷ ‵ (fsep F R) ∷ []) ∵ fsplit ! $ move ! (2 ∷ []) $ fsplit ! $ move ! (3 ∷ 1 ∷ []) $
        use2 𝓛 (‵ P) rest $ move ! (1 ∷ 0 ∷ []) $ fjoin ! $ keep ! (0 ∷ []) $ done !

  abbrev rest : List Bool → List V.Denot → Ptr → Fml
  rest marks xs p = cells_where V (p +ₚ (mem V).size) marks xs

  -- the cells at some of the marks, and those at the others
  pub where_cut : (chosen marks : List Bool) (xs : List V.Denot) (p : Ptr) → T (are_within chosen marks)
      → ent 𝓤 (sem 𝓛 (cells_where V p marks xs))
      (sep 𝓤 (sem 𝓛 (cells_where V p chosen xs)) (sem 𝓛 (cells_where V p (without chosen marks) xs)))
  where_cut [] [] [] p h = qed 𝓛 (‵ ftrue ∷ []) ∵ nothing ! $ done !
  where_cut [] [] (x ∷ xs) p h = never_e 𝓤 _
  where_cut [] (m ∷ marks) xs p h = absurd h
  where_cut (true ∷ chosen) [] xs p h = absurd h
  where_cut (false ∷ chosen) [] xs p h = absurd h
  where_cut (true ∷ chosen) (m ∷ marks) [] p h = never_e 𝓤 _
  where_cut (false ∷ chosen) (m ∷ marks) [] p h = never_e 𝓤 _
  where_cut (true ∷ chosen) (false ∷ marks) (x ∷ xs) p h = absurd h
  where_cut (true ∷ chosen) (true ∷ marks) (x ∷ xs) p h =
      cut_here (cell_if V p true x) (rest marks xs p) (rest chosen xs p) (rest (without chosen marks) xs p)
      (where_cut chosen marks xs (p +ₚ (mem V).size) h)
  where_cut (false ∷ chosen) (true ∷ marks) (x ∷ xs) p h =
      cut_there (cell_if V p true x) (rest marks xs p) (rest chosen xs p) (rest (without chosen marks) xs p)
      (where_cut chosen marks xs (p +ₚ (mem V).size) h)
  where_cut (false ∷ chosen) (false ∷ marks) (x ∷ xs) p h =
      cut_there ftrue (rest marks xs p) (rest chosen xs p) (rest (without chosen marks) xs p)
      (where_cut chosen marks xs (p +ₚ (mem V).size) h)

  never_left : (P Q : Fml) → ent 𝓤 (sep 𝓤 (sem 𝓛 ffalse) (sem 𝓛 P)) (sem 𝓛 Q)
  never_left P Q = via 𝓤 _ (fst∗ 𝓤 (sem 𝓛 ffalse) (sem 𝓛 P)) (never_e 𝓤 (sem 𝓛 Q))

  pub never_right : (P Q : Fml) → ent 𝓤 (sep 𝓤 (sem 𝓛 P) (sem 𝓛 ffalse)) (sem 𝓛 Q)
  never_right P Q = via 𝓤 _ (snd∗ 𝓤 (sem 𝓛 P) (sem 𝓛 ffalse)) (never_e 𝓤 (sem 𝓛 Q))

  abbrev now : List Bool → List V.Denot → Ptr → Fml
  now marks xs p = cells_where V p marks xs

  -- and the other way, with the items of both
  pub where_joined : (chosen marks : List Bool) (xs ys : List V.Denot) (p : Ptr) → T (are_within chosen marks)
      → ent 𝓤 (sep 𝓤 (sem 𝓛 (cells_where V p chosen xs)) (sem 𝓛 (cells_where V p (without chosen marks) ys)))
      (sem 𝓛 (cells_where V p marks (chosen_of chosen xs ys)))
  where_joined [] [] [] [] p h = qed 𝓛 (‵ ftrue ∷ ‵ ftrue ∷ []) ∵ drop ! $ done !
  where_joined [] [] [] (y ∷ ys) p h = never_right ftrue ftrue
  where_joined [] [] (x ∷ xs) ys p h = never_left (now [] ys p) ftrue
  where_joined [] (m ∷ marks) xs ys p h = absurd h
  where_joined (true ∷ chosen) [] xs ys p h = absurd h
  where_joined (false ∷ chosen) [] xs ys p h = absurd h
  where_joined (true ∷ chosen) (m ∷ marks) [] ys p h = never_left (now (without (true ∷ chosen) (m ∷ marks)) ys p) (now (m ∷ marks) [] p)
  where_joined (false ∷ chosen) (m ∷ marks) [] ys p h = never_left (now (without (false ∷ chosen) (m ∷ marks)) ys p) (now (m ∷ marks) [] p)
  where_joined (true ∷ chosen) (m ∷ marks) (x ∷ xs) [] p h =
      never_right (now (true ∷ chosen) (x ∷ xs) p) (now (m ∷ marks) (chosen_of (true ∷ chosen) (x ∷ xs) []) p)
  where_joined (false ∷ chosen) (m ∷ marks) (x ∷ xs) [] p h =
      never_right (now (false ∷ chosen) (x ∷ xs) p) (now (m ∷ marks) (chosen_of (false ∷ chosen) (x ∷ xs) []) p)
  where_joined (true ∷ chosen) (false ∷ marks) (x ∷ xs) (y ∷ ys) p h = absurd h
  where_joined (true ∷ chosen) (true ∷ marks) (x ∷ xs) (y ∷ ys) p h =
      join_here (cell_if V p true x) (rest marks (chosen_of chosen xs ys) p) (rest chosen xs p) (rest (without chosen marks) ys p)
      (where_joined chosen marks xs ys (p +ₚ (mem V).size) h) ftrue
  where_joined (false ∷ chosen) (true ∷ marks) (x ∷ xs) (y ∷ ys) p h =
      join_there (cell_if V p true y) (rest marks (chosen_of chosen xs ys) p) (rest chosen xs p) (rest (without chosen marks) ys p)
      (where_joined chosen marks xs ys (p +ₚ (mem V).size) h) ftrue
  where_joined (false ∷ chosen) (false ∷ marks) (x ∷ xs) (y ∷ ys) p h =
      join_there ftrue (rest marks (chosen_of chosen xs ys) p) (rest chosen xs p) (rest (without chosen marks) ys p)
      (where_joined chosen marks xs ys (p +ₚ (mem V).size) h) ftrue

  -- there are as many of them as there are marks
  pub where_counted : (marks : List Bool) (xs : List V.Denot) (p : Ptr)
      → ent 𝓤 (sem 𝓛 (cells_where V p marks xs)) (guard 𝓤 (length xs ≡ length marks) (sem 𝓛 (cells_where V p marks xs)))
  where_counted [] [] p = guard_i 𝓤 _ (emp 𝓤) refl
  where_counted [] (x ∷ xs) p = never_e 𝓤 _
  where_counted (m ∷ marks) [] p = never_e 𝓤 _
  where_counted (m ∷ marks) (x ∷ xs) p = qed 𝓛 (‵ (cell_if V p m x) ∷ ‵ (rest marks xs p) ∷ []) ∵ move ! (1 ∷ []) $
      use1 𝓛 (given (length xs ≡ length marks) (‵ (rest marks xs p))) (where_counted marks xs (p +ₚ (mem V).size)) $
      learn ! (λ e. move ! (1 ∷ 0 ∷ []) $ fjoin ! $ check ! (ap suc e) $ done !)

-- as many marks are chosen, and left, as there are
pub within-length : (chosen marks : List Bool) → T (are_within chosen marks) → length chosen ≡ length marks
within-length [] [] h = refl
within-length [] (m ∷ marks) h = absurd h
within-length (true ∷ chosen) [] h = absurd h
within-length (false ∷ chosen) [] h = absurd h
within-length (true ∷ chosen) (true ∷ marks) h = ap suc (within-length chosen marks h)
within-length (true ∷ chosen) (false ∷ marks) h = absurd h
within-length (false ∷ chosen) (m ∷ marks) h = ap suc (within-length chosen marks h)

pub without-length : (chosen marks : List Bool) → T (are_within chosen marks) → length (without chosen marks) ≡ length marks
without-length [] [] h = refl
without-length [] (m ∷ marks) h = absurd h
without-length (true ∷ chosen) [] h = absurd h
without-length (false ∷ chosen) [] h = absurd h
without-length (true ∷ chosen) (true ∷ marks) h = ap suc (without-length chosen marks h)
without-length (true ∷ chosen) (false ∷ marks) h = absurd h
without-length (false ∷ chosen) (m ∷ marks) h = ap suc (without-length chosen marks h)
