-- `take_part` hands out the cells that are chosen, and leaves the others. Assumes `Logic`.
use Rattle.std.specs.Prelude.{IsTrue}
use Rattle.nd_access.specs.Cells.{are_within, chosen_of, holds_cells, without}
use Rattle.nd_access.specs.contracts.cells.Cells.take_part as f
use Rattle.nd_access.specs.declared.cells.Cells.{Cells}
use Rattle.nd_access.proofs.cells.Cells.take_part.Code as code
use Rattle.nd_access.proofs.cells.Cells.take_part.Statement.{statement}
use Rattle.nd_access.proofs.Laws.lending.Held.{It, cells_made, opened, ptr_typed, word, word_typed}
use Rattle.nd_access.proofs.lending.Parted.{parted}
use Rattle.nd_access.proofs.Laws.lending.Walk.{first_ends, first_stays, quiet, shown, tail}
use Rattle.nd_access.proofs.Laws.lending.Steps
use Steps.{Array, Bool, GName, Goes-ref, List, MutRef, RattleType, ShrRef, T, Val, a_type, agg, alloc_all, and_then, await, by, closes}
use Steps.{done, drop, enter, feq_i, fjoin3, fld, flft, follows_both, free_all, fsplit, get, group, inst_fn, keep, later, layouts, load}
use Steps.{look_at, look_in, move, mut_Tells, mut_vals, named, named_lft, no_more, of_opd, owns, param, pass_all, pick, plain, qed, raw}
use Steps.{refl, returns, says, sem, sets, shr_Tells, shr_vals, some, split, split3, stop, sub, subst, sym, tables, through, toks, use2}
use Steps.{vptr, whole, !, [], ‵, ◌$◌, ◌∵◌, ◌∷◌, ◌⊛◌}

pub take_part_spec : {M : Type 1} → statement M
take_part_spec 𝓤 𝓛 𝓜 𝓡 wired X W L LW =
    let T' = f.ended X W in let c = f.clauses X W 𝓛 𝓜.mem 𝓡.returns in let 𝓣 = tables 𝓤 𝓛.H 𝓜 𝓡 𝓡.env in
    let args = layouts (a_type ∷ a_type ∷ []) (X, (W, tt)) in let fn = inst_fn args code.function in let V : RattleType = param 0 X in
    let s = plain (λ κs. It (named_lft 5 1 tt κs) V) in let ss = tail T'.signature.params in let ks = T'.kept.1 in
    shown 𝓛 T' (first_stays 𝓛 T' s tt ss ks) (Goes-ref 𝓛 5 0 tt s, quiet 𝓛 ss ks ((λ κs x w. refl), tt)) c 𝓜 𝓡
    (f.Key.name args) fn (code.unfolded 𝓤 𝓛.H 𝓜 𝓡 wired (X, (W, tt))) 2 (λ κs. κs.1.1.1) (X.lives, (W.lives, tt))
    (λ κs. (mut_vals, (shr_vals, tt)))
    (λ κs. (mut_Tells (named 0) κs.0 (It (named_lft 5 1 tt κs) V), (shr_Tells (named 2) κs.1.1.0 (param 1 W), tt)))
    (first_ends 𝓛 T' s tt ss ks c) (λ y. IsTrue (are_within y.1 y.0.3.0.now.marks)) (λ y. refl) (λ κs qs bounds a chosen are h out.
    let at = named_lft 5 1 tt κs in let κ = κs.0 in let κ' = at.lft in let q' = qs.1.0 in let Rest = toks 𝓛 3 κs.1.1 qs.1.1 in
    let cells : Cells V.Denot = a.0.now in let left : List Bool = without chosen cells.marks in
    let vs = vptr a.0.ref_ptr.0 a.0.ref_ptr.1 ∷ vptr a.1.0.ref_ptr.0 a.1.0.ref_ptr.1 ∷ [] in
    let Both = λ (γs : GName × GName). follows_both (Array V 0) (Array V 0) (Array V 0) cells.name γs.0 γs.1 (chosen_of chosen) in
    let Held = owns (MutRef (named 0) κ (It at V) ∷ ShrRef (named 2) κs.1.1.0 (param 1 W) ∷ []) a (mut_vals a.0, (shr_vals a.1.0, tt)) in
    qed 𝓛 ((‵ (flft κ qs.0) ⊛ ‵ (flft κ' q') ⊛ raw Rest) ∷ ‵ Held ∷ []) ∵
    split3 ! $ move ! (3 ∷ []) $ fsplit ! $ move ! (1 ∷ []) $ drop ! $
    -- [the reference; its token; the token of 'a; the others]
    enter ! 𝓣.C 𝓣.Λ fn vs _ $ alloc_all ! (λ l. pass_all ! refl ((tt, tt), ((tt, tt), tt)) $ opened ! tt at V a.0 (λ k.
    sets ! (of_opd ! (load ! (through ! refl (fld ! refl (stop !))) (look_in ! 0 (sub ! 0 refl (whole !))))) refl (ptr_typed cells.first) $
    sets ! (agg ! (no_more !)) refl (tt, tt) $
    sets ! (agg ! (and_then ! (get ! refl) (and_then ! (get ! refl) (no_more !)))) refl (word_typed cells.first) $
    move ! (1 ∷ 5 ∷ []) $
    use2 𝓛 (later (some (λ (γs : GName × GName). ‵ (holds_cells κ' V γs.0 cells.first chosen cells.items)
    ⊛ ‵ (holds_cells κ' V γs.1 cells.first left cells.items) ⊛ ‵ (flft κ' q') ⊛ ‵ (Both γs))))
    (parted 𝓛 V κ' q' cells.first cells.name chosen cells.marks cells.items (subst (λ (y : Bool). T y) (sym h) tt)) $
    await ! tt $ pick ! (λ γs.
    let one : Cells V.Denot = record cells { name = γs.0; marks = chosen } in
    let other : Cells V.Denot = record cells { name = γs.1; marks = left } in
    -- [the chosen ones; the others; the token of 'a, and what follows; the struct; the open borrow, its name; the other tokens]
    split3 ! $ cells_made ! at V one $ move ! (1 ∷ []) $ cells_made ! at V other $ move ! (3 ∷ 0 ∷ 4 ∷ 5 ∷ 6 ∷ []) $
    closes ! tt (It at V) other (word cells.first ∷ []) a.0.ref_ptr.0 a.0.ref_ptr.1 $
    feq_i ! (List Val) (mut_vals a.0) (mut_vals a.0) refl $ fjoin3 ! $ move ! (3 ∷ []) $ split ! $
    -- [the token of 'a; what follows; the reference; its token; the chosen ones; the other tokens]
    returns ! (look_at ! 0 refl) $ free_all ! refl $ keep ! (3 ∷ 0 ∷ 5 ∷ 2 ∷ 4 ∷ 1 ∷ []) $ group ! 3 $
    by ! (out (word cells.first) one other (tt, tt) (sem 𝓛 (Both γs))
    (qed 𝓛 (‵ (Both γs) ∷ []) ∵ says ! (refl, refl, refl, refl) $ done !))))))
