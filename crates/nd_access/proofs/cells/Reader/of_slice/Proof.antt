-- `of_slice` lends all elements of a slice. Assumes `Logic`.
use denote.Slice.{ShrSlice, shr_slice_Tells, shr_slice_vals}
use lib.ListN.{length-replicate}
use mir.Syntax.{imm}
use Rattle.nd_access.specs.Cells.{known, lent_where}
use Rattle.nd_access.specs.contracts.cells.Reader.{struct}
use Rattle.nd_access.specs.contracts.cells.Reader.of_slice as f
use Rattle.nd_access.specs.declared.cells.Reader.{Reader}
use Rattle.nd_access.proofs.cells.Reader.of_slice.Code as code
use Rattle.nd_access.proofs.cells.Reader.of_slice.Statement.{statement}
use Rattle.nd_access.proofs.Laws.lending.Held.{Reading, reader_made, word}
use Rattle.nd_access.proofs.lending.OfSlice.{all_taken}
use Rattle.nd_access.proofs.lending.Read.{all_lent}
use Rattle.nd_access.proofs.Laws.lending.Walk.{all_dropped, ends, quiet, shown_free}
use Rattle.nd_access.proofs.Laws.lending.Steps
use Steps.{Bool, List, Ptr, RattleType, ShrRef, a_type, at_once, block_ptr, done, drop, emp, fact_i, fjoin, fsplit, inst_fn, layouts}
use Steps.{length, move, named, named_lft, owns, pure_i, qed, raw, refl, replicate, sem, sep, sym, tables, toks, true, unhide, updating}
use Steps.{use1, !, [], ‵, ◌$◌, ◌∵◌, ◌∷◌}

pub of_slice_spec : {M : Type 1} → statement M
of_slice_spec 𝓤 𝓛 𝓜 𝓡 wired X L =
    let T = f.ended X in let c = f.clauses X 𝓛 𝓜.mem 𝓡.returns in let 𝓣 = tables 𝓤 𝓛.H 𝓜 𝓡 𝓡.env in
    let args = layouts (a_type ∷ []) (X, tt) in
    shown_free 𝓛 T (all_dropped T) (quiet 𝓛 T.signature.params T.kept ((λ κs x w. refl), tt)) c 𝓜 𝓡
    (f.Key.name args) (inst_fn args code.function) (code.unfolded 𝓤 𝓛.H 𝓜 𝓡 wired (X, tt)) 1 (λ κs. κs.1) (X.lives, tt)
    (λ κs. (shr_slice_vals, tt)) (λ κs. (shr_slice_Tells (named 0) κs.0 (f.T-row X), tt)) (ends 𝓛 T c) (λ y. refl)
    (λ κs qs bounds a g are out. let V : RattleType = f.T-row X in let at = named_lft 2 0 tt κs in let Q = ShrRef (named 0) κs.0 V in
    let b = a.0.ref_ptr.0 in let o = a.0.ref_ptr.1 in let xs : List V.Denot = a.0.now in let p : Ptr = block_ptr b o in
    let rm = are.0.0.1 in let r : Reader V.Denot = record { first = p; mark = record {}; marks = replicate (length xs) true; items = xs } in
    all_taken (struct at V).name V Q imm 𝓛 𝓣.C 𝓣.Λ b o (length xs) rm.0 _ _
    (sep 𝓤 (toks 𝓛 2 κs qs) (sep 𝓤 (sem 𝓛 ((Reading at V).own_val r (word p ∷ []))) (emp 𝓤)))
    (qed 𝓛 (raw (toks 𝓛 2 κs qs) ∷ ‵ (owns (ShrSlice (named 0) κs.0 V ∷ []) (a.0, tt) (shr_slice_vals a.0, tt)) ∷ []) ∵
    updating ! $ at_once ! $ move ! (1 ∷ []) $ fsplit ! $ fsplit ! $ drop ! $ unhide ! $
    use1 𝓛 (‵ (lent_where V p r.marks xs κs.0)) (all_lent 𝓛 V b κs.0 xs o) $
    pure_i ! (known V p r.marks xs) (tt, (tt, (tt, tt))) (refl, (sym (length-replicate {A = Bool} (length xs) true), rm)) $ fjoin ! $
    reader_made ! at V r $ move ! (2 ∷ 0 ∷ 1 ∷ []) $ done !) (out (word p) r (tt, tt) (emp 𝓤) (fact_i 𝓤 _ _ (refl, refl))))
