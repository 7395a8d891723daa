-- A stretch of the elements that have a mark is taken out, and put back with other items. Assumes `Logic`.
use Rattle.nd_access.specs.Cells.{are_within, cell_if, cells_where, span_of, without, written_at}
use Rattle.nd_access.proofs.Laws.lending.Where.{cut_here, join_here, never_right}
use Rattle.nd_access.proofs.Laws.lending.Steps
use Steps.{Bool, Fml, List, Logic, RattleType, T, Ura, arith, block_ptr, by, cells, done, drop, drop_l, ent, false, ffalse, fjoin, fsep}
use Steps.{fsplit, ftrue, id⊢, length, mem, move, never_e, nothing, nth, qed, sem, sep, split, suc, take, true, use1, use2, zero, !, [], ‵}
use Steps.{ℕ, ◌$◌, ◌+◌, ◌∵◌, ◌∷◌, ◌≡◌, ◌≤◌, ◌⊛◌}

module _ {M : Type 1} {𝓤 : Ura M} (𝓛 : Logic 𝓤) (V : RattleType) (b : ℕ) where
  abbrev s : ℕ
  s = (mem V).size

  abbrev where_at : List Bool → List V.Denot → ℕ → Fml
  where_at marks xs o = cells_where V (block_ptr b o) marks xs

  abbrev row_at : List V.Denot → ℕ → Fml
  row_at xs o = cells (mem V) xs b o

  -- the head stays where it is
  module _ (F P Q R : Fml) (rest : ent 𝓤 (sem 𝓛 P) (sep 𝓤 (sem 𝓛 Q) (sem 𝓛 R))) where
    head_stays : ent 𝓤 (sem 𝓛 (fsep F P)) (sep 𝓤 (sem 𝓛 Q) (sem 𝓛 (fsep F R)))
    head_stays = qed 𝓛 (‵ (fsep F P) ∷ []) ∵ fsplit ! $ move ! (1 ∷ []) $ use1 𝓛 (‵ Q ⊛ ‵ R) rest $ split ! $ move ! (2 ∷ 1 ∷ []) $
        fjoin ! $ move ! (1 ∷ []) $ done !

  head_kept : (F P Q : Fml) → ent 𝓤 (sem 𝓛 P) (sem 𝓛 Q) → ent 𝓤 (sem 𝓛 (fsep F P)) (sem 𝓛 (fsep F Q))
  head_kept F P Q rest = qed 𝓛 (‵ (fsep F P) ∷ []) ∵ fsplit ! $ move ! (1 ∷ []) $ use1 𝓛 (‵ Q) rest $ move ! (1 ∷ 0 ∷ []) $ fjoin ! $ done !

  pub stretch_out : (start len : ℕ) (marks : List Bool) (xs : List V.Denot) (o : ℕ) → T (are_within (span_of start len marks) marks)
      → ent 𝓤 (sem 𝓛 (where_at marks xs o))
      (sep 𝓤 (sem 𝓛 (row_at (take len (drop_l start xs)) (nth s o start)))
      (sem 𝓛 (where_at (without (span_of start len marks) marks) xs o)))
  stretch_out (suc start) zero [] [] o h = qed 𝓛 (‵ ftrue ∷ []) ∵ nothing ! $ done !
  stretch_out (suc start) (suc len) [] [] o h = qed 𝓛 (‵ ftrue ∷ []) ∵ nothing ! $ done !
  stretch_out zero zero [] [] o h = qed 𝓛 (‵ ftrue ∷ []) ∵ nothing ! $ done !
  stretch_out zero (suc len) [] [] o h = qed 𝓛 (‵ ftrue ∷ []) ∵ nothing ! $ done !
  stretch_out start len [] (x ∷ xs) o h = never_e 𝓤 _
  stretch_out (suc start) len (m ∷ marks) [] o h = never_e 𝓤 _
  stretch_out zero (suc len) (m ∷ marks) [] o h = never_e 𝓤 _
  stretch_out zero zero (m ∷ marks) [] o h = never_e 𝓤 _
  stretch_out (suc start) len (true ∷ marks) (x ∷ xs) o h =
      head_stays (cell_if V (block_ptr b o) true x) (where_at marks xs (o + s)) (row_at (take len (drop_l start xs)) (nth s (o + s) start))
      (where_at (without (span_of start len marks) marks) xs (o + s)) (stretch_out start len marks xs (o + s) h)
  stretch_out (suc start) len (false ∷ marks) (x ∷ xs) o h =
      head_stays ftrue (where_at marks xs (o + s)) (row_at (take len (drop_l start xs)) (nth s (o + s) start))
      (where_at (without (span_of start len marks) marks) xs (o + s)) (stretch_out start len marks xs (o + s) h)
  stretch_out zero (suc len) (false ∷ marks) (x ∷ xs) o h = absurd h
  stretch_out zero (suc len) (true ∷ marks) (x ∷ xs) o h =
      cut_here 𝓛 V (cell_if V (block_ptr b o) true x) (where_at marks xs (o + s)) (row_at (take len xs) (o + s))
      (where_at (without (span_of zero len marks) marks) xs (o + s)) (stretch_out zero len marks xs (o + s) h)
  stretch_out zero zero (true ∷ marks) (x ∷ xs) o h =
      head_stays (cell_if V (block_ptr b o) true x) (where_at marks xs (o + s)) ftrue
      (where_at (without (span_of zero zero marks) marks) xs (o + s)) (stretch_out zero zero marks xs (o + s) h)
  stretch_out zero zero (false ∷ marks) (x ∷ xs) o h =
      head_stays ftrue (where_at marks xs (o + s)) ftrue (where_at (without (span_of zero zero marks) marks) xs (o + s))
      (stretch_out zero zero marks xs (o + s) h)

  -- where none is taken out, all are left
  none_out : (marks : List Bool) (xs : List V.Denot) (o : ℕ)
      → ent 𝓤 (sem 𝓛 (where_at (without (span_of 0 0 marks) marks) xs o)) (sem 𝓛 (where_at marks xs o))
  none_out [] xs o = id⊢ 𝓤 _
  none_out (true ∷ marks) [] o = id⊢ 𝓤 _
  none_out (false ∷ marks) [] o = id⊢ 𝓤 _
  none_out (true ∷ marks) (x ∷ xs) o =
      head_kept (cell_if V (block_ptr b o) true x) (where_at (without (span_of 0 0 marks) marks) xs (o + s)) (where_at marks xs (o + s))
      (none_out marks xs (o + s))
  none_out (false ∷ marks) (x ∷ xs) o =
      head_kept ftrue (where_at (without (span_of 0 0 marks) marks) xs (o + s)) (where_at marks xs (o + s)) (none_out marks xs (o + s))

  -- the head comes from where it stayed
  module _ (F P Q R : Fml) (rest : ent 𝓤 (sep 𝓤 (sem 𝓛 Q) (sem 𝓛 R)) (sem 𝓛 P)) where
    from_stay : ent 𝓤 (sep 𝓤 (sem 𝓛 Q) (sem 𝓛 (fsep F R))) (sem 𝓛 (fsep F P))
    from_stay = qed 𝓛 (‵ Q ∷ ‵ (fsep F R) ∷ []) ∵ move ! (1 ∷ []) $ fsplit ! $ move ! (2 ∷ 1 ∷ []) $ use2 𝓛 (‵ P) rest $
        move ! (1 ∷ 0 ∷ []) $ fjoin ! $ done !

  pub stretch_in : (start len : ℕ) (marks : List Bool) (ws xs : List V.Denot) (o : ℕ) → T (are_within (span_of start len marks) marks)
      → length ws ≡ len → start + len ≤ length marks
      → ent 𝓤 (sep 𝓤 (sem 𝓛 (row_at ws (nth s o start))) (sem 𝓛 (where_at (without (span_of start len marks) marks) xs o)))
      (sem 𝓛 (where_at marks (written_at start ws xs) o))
  stretch_in (suc start) len [] ws xs o h e l = absurd (let no : ⊥ = omega arith in no)
  stretch_in zero (suc len) [] ws xs o h e l = absurd (let no : ⊥ = omega arith in no)
  stretch_in zero zero [] ws [] o h e l = qed 𝓛 (‵ (row_at ws o) ∷ ‵ ftrue ∷ []) ∵ drop ! $ done !
  stretch_in zero zero [] ws (x ∷ xs) o h e l = never_right 𝓛 V (row_at ws o) (where_at [] (written_at 0 ws (x ∷ xs)) o)
  stretch_in (suc start) len (m ∷ marks) ws [] o h e l = never_right 𝓛 V (row_at ws (nth s (o + s) start)) ffalse
  stretch_in zero (suc len) (m ∷ marks) ws [] o h e l = never_right 𝓛 V (row_at ws o) ffalse
  stretch_in zero zero (m ∷ marks) ws [] o h e l = never_right 𝓛 V (row_at ws o) ffalse
  stretch_in (suc start) len (true ∷ marks) ws (x ∷ xs) o h e l =
      from_stay (cell_if V (block_ptr b o) true x) (where_at marks (written_at start ws xs) (o + s)) (row_at ws (nth s (o + s) start))
      (where_at (without (span_of start len marks) marks) xs (o + s)) (stretch_in start len marks ws xs (o + s) h e (omega arith))
  stretch_in (suc start) len (false ∷ marks) ws (x ∷ xs) o h e l =
      from_stay ftrue (where_at marks (written_at start ws xs) (o + s)) (row_at ws (nth s (o + s) start))
      (where_at (without (span_of start len marks) marks) xs (o + s)) (stretch_in start len marks ws xs (o + s) h e (omega arith))
  stretch_in zero (suc len) (false ∷ marks) ws (x ∷ xs) o h e l = absurd h
  stretch_in zero (suc len) (true ∷ marks) [] (x ∷ xs) o h e l = absurd (let never : zero ≡ suc len = e in let no : ⊥ = omega arith in no)
  stretch_in zero (suc len) (true ∷ marks) (w ∷ ws) (x ∷ xs) o h e l =
      join_here 𝓛 V (cell_if V (block_ptr b o) true w) (where_at marks (written_at zero ws xs) (o + s)) (row_at ws (o + s))
      (where_at (without (span_of zero len marks) marks) xs (o + s))
      (stretch_in zero len marks ws xs (o + s) h (omega arith) (omega arith)) ftrue
  stretch_in zero zero (m ∷ marks) [] (x ∷ xs) o h e l =
      qed 𝓛 (‵ ftrue ∷ ‵ (where_at (without (span_of zero zero (m ∷ marks)) (m ∷ marks)) (x ∷ xs) o) ∷ []) ∵ drop ! $
      by ! (none_out (m ∷ marks) (x ∷ xs) o)
  stretch_in zero zero (m ∷ marks) (w ∷ ws) (x ∷ xs) o h e l =
      absurd (let never : suc (length ws) ≡ zero = e in let no : ⊥ = omega arith in no)
