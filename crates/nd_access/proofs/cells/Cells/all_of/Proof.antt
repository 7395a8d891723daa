-- `all_of` hands a slice's borrow on as the cells at all its places, under its name. Assumes `Logic`.
use denote.FollowSlice.{heres_id}
use denote.Slice.{mut_slice_Tells, mut_slice_vals}
use lib.ListN.{length-replicate}
use mir.Syntax.{mut}
use Rattle.nd_access.specs.Cells.{known}
use Rattle.nd_access.specs.contracts.cells.Cells.{struct}
use Rattle.nd_access.specs.contracts.cells.Cells.all_of as f
use Rattle.nd_access.specs.declared.cells.Cells.{Cells}
use Rattle.nd_access.proofs.cells.Cells.all_of.Code as code
use Rattle.nd_access.proofs.cells.Cells.all_of.Statement.{statement}
use Rattle.nd_access.proofs.Laws.lending.Held.{It, cells_made, word}
use Rattle.nd_access.proofs.lending.OfSlice.{all_taken}
use Rattle.nd_access.proofs.lending.SameName.{All, Apart, to_cells}
use Rattle.nd_access.proofs.Laws.lending.Walk.{all_dropped, ends, quiet, shown_free}
use Rattle.nd_access.proofs.Laws.lending.Steps
use Steps.{Bool, Borrowed, List, MutRef, MutSlice, Ptr, RattleType, a_type, at_once, await, block_ptr, done, drop, emp, fact_i, fbor, fjoin}
use Steps.{flft, fobs, fsplit, fsplit3, inst_fn, join, later, layouts, length, move, named, named_lft, owns, pure_i, qed, raw, refl}
use Steps.{replicate, rewrite, sem, sep, split, sym, tables, toks, true, updating, use2, !, [], ‵, ℕ, ◌$◌, ◌∵◌, ◌∷◌, ◌⊛◌}

pub all_of_spec : {M : Type 1} → statement M
all_of_spec 𝓤 𝓛 𝓜 𝓡 wired X L =
    let T = f.ended X in let c = f.clauses X 𝓛 𝓜.mem 𝓡.returns in let 𝓣 = tables 𝓤 𝓛.H 𝓜 𝓡 𝓡.env in
    let args = layouts (a_type ∷ []) (X, tt) in
    shown_free 𝓛 T (all_dropped T) (quiet 𝓛 T.signature.params T.kept ((λ κs x w. refl), tt)) c 𝓜 𝓡
    (f.Key.name args) (inst_fn args code.function) (code.unfolded 𝓤 𝓛.H 𝓜 𝓡 wired (X, tt)) 1 (λ κs. κs.1) (X.lives, tt)
    (λ κs. (mut_slice_vals, tt)) (λ κs. (mut_slice_Tells (named 0) κs.0 (f.T-row X), tt)) (ends 𝓛 T c) (λ y. refl)
    (λ κs qs bounds a g are out. let V : RattleType = f.T-row X in let at = named_lft 2 0 tt κs in let κ = κs.0 in let q = qs.0 in
    let γ = a.0.ghost_name in let b = a.0.ref_ptr.0 in let o = a.0.ref_ptr.1 in let xs : List V.Denot = a.0.now in
    let p : Ptr = block_ptr b o in let rm = are.0.0.1 in let n : ℕ = length xs in
    let cells : Cells V.Denot = record { first = p; mark = record {}; name = γ; marks = replicate n true; items = xs } in
    all_taken (struct at V).name V (MutRef (named 0) κ V) mut 𝓛 𝓣.C 𝓣.Λ b o n rm.0 _ _
    (sep 𝓤 (toks 𝓛 2 κs qs) (sep 𝓤 (sem 𝓛 ((It at V).own_val cells (word p ∷ []))) (emp 𝓤)))
    (qed 𝓛 ((‵ (flft κ q) ⊛ raw (toks 𝓛 1 κs.1 qs.1)) ∷ ‵ (owns (MutSlice (named 0) κ V ∷ []) (a.0, tt) (mut_slice_vals a.0, tt)) ∷ []) ∵
    updating ! $ split ! $ move ! (2 ∷ []) $ fsplit ! $ fsplit3 ! $ drop ! $
    -- [the slice's name, its borrow; true; the token; the others]
    rewrite ! 0 (λ (zs : List V.Denot). ‵ (fobs γ ((All 𝓛 V κ q n b o γ).coded.code zs))) (heres_id V xs) refl $ move ! (1 ∷ 3 ∷ []) $
    use2 𝓛 (later (‵ (fbor κ (Borrowed (Apart 𝓛 V κ q n b o γ) 0 0 γ)) ⊛ ‵ (flft κ q))) (to_cells 𝓛 V κ q n b o γ) $
    await ! tt $ split ! $ move ! (2 ∷ 0 ∷ []) $ fjoin ! $
    pure_i ! (known V p cells.marks xs) (tt, (tt, (tt, tt))) (refl, (sym (length-replicate {A = Bool} n true), rm)) $ fjoin ! $
    cells_made ! at V cells $ at_once ! $ move ! (1 ∷ 3 ∷ []) $ join ! $ done !)
    (out (word p) cells (tt, tt) (emp 𝓤) (fact_i 𝓤 _ _ (refl, refl, refl))))
