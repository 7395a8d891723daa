-- `finish` hands the cells at all places of a slice back as the slice, under their name. Assumes `Logic`.
use denote.FollowSlice.{slice_of}
use Rattle.nd_access.specs.Cells.{CellsWhere, known}
use Rattle.nd_access.specs.contracts.cells.Cells.finish as f
use Rattle.nd_access.specs.declared.cells.Cells.{Cells}
use Rattle.nd_access.proofs.cells.Cells.finish.Code as code
use Rattle.nd_access.proofs.cells.Cells.finish.Statement.{statement}
use Rattle.nd_access.proofs.Laws.lending.Held.{It, cells_had, word, word_typed}
use Rattle.nd_access.proofs.lending.SameName.{All, to_slice}
use Rattle.nd_access.proofs.Laws.lending.Walk.{all_dropped, ends, quiet, shown_at}
use Rattle.nd_access.proofs.Laws.lending.Steps
use Steps.{Body, Bool, Borrowed, List, MutBor, MutSlice, Ptr, RattleType, SProp, Val, WpFn, a_type, agg, alloc_all, and_then, ap, assign}
use Steps.{at_ret, await, block_of, block_ptr, blocks, by, copy, count_of, emp, enter, env, exec, fact_i, fbor, first, fld, flft, free_all}
use Steps.{fsplit, fsplit3, get, get_in, inst_fn, join, keep, later, layouts, length, look_at, move, named, named_lft, no_more, nothing}
use Steps.{of_opd, owns, pass_all, place, prop, pure_l, qed, raw, refl, regoal, replicate, return, returns, rewrite, rv_opd, seq, sets}
use Steps.{sets_last, slice_val, split, stop, sub, sym, tables, toks, true, uint_Tells, use2, usize, vint, w64, walk_of, whole, !, [], ‵, ℕ}
use Steps.{◌$◌, ◌++◌, ◌∙◌, ◌∵◌, ◌∷◌, ◌≡◌, ◌⊛◌}

abbrev rest : Body
rest = seq (assign (place 0 []) (rv_opd (copy (place 3 [])))) return

pub finish_spec : {M : Type 1} → statement M
finish_spec 𝓤 𝓛 𝓜 𝓡 wired X L =
    let T = f.ended X in let c = f.clauses X 𝓛 𝓜.mem 𝓡.returns in let 𝓣 = tables 𝓤 𝓛.H 𝓜 𝓡 𝓡.env in
    let args = layouts (a_type ∷ []) (X, tt) in let fn = inst_fn args code.function in
    shown_at 𝓛 T (all_dropped T) (quiet 𝓛 T.signature.params T.kept ((λ κs x w. refl), ((λ κs x w. refl), tt))) c 𝓜 𝓡
    (f.Key.name args) fn (code.unfolded 𝓤 𝓛.H 𝓜 𝓡 wired (X, tt)) 1 (λ κs. κs.1) (X.lives, tt)
    (λ y. let c = y.0.3.0 in (y.0.3.1.0 ≡ length c.marks) × (c.marks ≡ replicate (length c.marks) true)) (λ y. refl) (λ y are asked.
    let Post : Val → SProp 𝓤 = (walk_of 𝓛 T (all_dropped T) c).post y in let V : RattleType = f.T-row X in
    let at = named_lft 2 0 tt y.0.0 in let κ = at.lft in let q = y.0.1.0 in let len : ℕ = y.0.3.1.0 in
    let cells : Cells V.Denot = y.0.3.0 in let γ = cells.name in let n : ℕ = length cells.items in
    let hb : ℕ = block_of cells.first in let ho : ℕ = count_of cells.first in
    let Same = All 𝓛 V κ q n hb ho γ in
    qed 𝓛 ((‵ (flft κ q) ⊛ raw (toks 𝓛 1 y.0.0.1 y.0.1.1)) ∷ ‵ (owns (It at V ∷ usize ∷ []) (cells, (len, tt)) y.0.4) ∷ []) ∵
    split ! $ move ! (2 ∷ []) $ fsplit ! $ cells_had ! at V cells y.0.4.0 (λ told. fsplit3 ! $
    pure_l ! (known V cells.first cells.marks cells.items) (λ k.
    let all : cells.marks ≡ replicate n true = asked.1 ∙ ap (λ (m : ℕ). replicate m true) (sym k.1.0) in
    let many : n ≡ len = k.1.0 ∙ sym asked.0 in
    let r : MutBor (List V.Denot) = record { ref_ptr = (hb, ho); ghost_name = γ; now = cells.items } in
    let was = told ∙ ap (λ (p : Ptr). word p ∷ []) k.0 in let is = uint_Tells w64 len y.0.4.1.0 are.1.0 in
    -- [their name, their borrow; true; the token; the others]
    regoal ! (λ (vs : List Val). prop (WpFn 𝓤 𝓛.H 𝓣.C 𝓣.Λ fn vs Post)) (λ i. was i ++ (is i ++ [])) refl $
    enter ! 𝓣.C 𝓣.Λ fn (word (block_ptr hb ho) ∷ vint w64 len ∷ []) Post $
    alloc_all ! (λ l. pass_all ! refl (word_typed (block_ptr hb ho), ((tt, record { fits = are.1.0.1 }), tt)) $
    rewrite ! 1 (λ (p : Ptr). ‵ (fbor κ (Borrowed (CellsWhere V p cells.marks) 0 0 γ))) k.0 refl $
    rewrite ! 1 (λ (m : List Bool). ‵ (fbor κ (Borrowed (CellsWhere V (block_ptr hb ho) m) 0 0 γ))) all refl $ move ! (1 ∷ 3 ∷ []) $
    use2 𝓛 (later (‵ (fbor κ (Borrowed Same hb ho γ)) ⊛ ‵ (flft κ q))) (to_slice 𝓛 V κ q n hb ho γ) $ await ! tt $
    split ! $ move ! (2 ∷ 0 ∷ []) $
    use2 𝓛 (‵ ((MutSlice (named 0) κ V).own_val r (slice_val (hb, ho) n ∷ []))) (slice_of 𝓛 V (named 0) κ hb ho γ cells.items k.1.1) $
    rewrite ! 0 (λ (m : ℕ). ‵ ((MutSlice (named 0) κ V).own_val r (slice_val (hb, ho) m ∷ []))) many refl $ first ! $ blocks ! $
    sets_last ! (agg ! (and_then ! (get_in ! (fld ! refl (stop !)) (sub ! 0 refl (whole !))) (and_then ! (get ! refl) (no_more !)))) refl
    (tt, (tt, (record { fits = are.1.0.1 }, tt))) $
    exec ! 𝓣.C 𝓣.Λ (env fn.locals l) rest (at_ret (env fn.locals l) Post) $
    sets ! (of_opd ! (get ! refl)) refl (tt, (tt, (record { fits = are.1.0.1 }, tt))) $
    returns ! (look_at ! 0 refl) $ free_all ! refl $ move ! (1 ∷ 3 ∷ []) $ join ! $ nothing ! $ keep ! (1 ∷ 2 ∷ 0 ∷ []) $
    by ! (ends 𝓛 T c y (slice_val (hb, ho) len) r (tt, (tt, tt)) (emp 𝓤) (fact_i 𝓤 _ _ (refl, refl)))))))
