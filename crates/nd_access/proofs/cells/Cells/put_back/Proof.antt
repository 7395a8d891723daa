-- `put_back` puts a part and the rest together, under the name that they had before. Assumes `Logic`.
use Rattle.nd_access.specs.Cells.{chosen_of, holds_cells}
use Rattle.nd_access.specs.Right.{Right}
use Rattle.nd_access.specs.Rights.{right_of}
use Rattle.nd_access.specs.contracts.cells.Cells.put_back as f
use Rattle.nd_access.specs.declared.cells.Cells.{Cells}
use Rattle.nd_access.specs.declared.cells.taken.Taken.{Taken}
use Rattle.nd_access.proofs.cells.Cells.put_back.Code as code
use Rattle.nd_access.proofs.cells.Cells.put_back.Statement.{statement}
use Rattle.nd_access.proofs.Laws.lending.Held.{It, cells_had, cells_made, opened, word, word_typed}
use Rattle.nd_access.proofs.lending.HeldSlot.{Ticket, mark_word, ticket_had}
use Rattle.nd_access.proofs.lending.Lent.{merged}
use Rattle.nd_access.proofs.Laws.lending.Walk.{first_ends, first_stays, quiet, shown_at, tail}
use Rattle.nd_access.proofs.Laws.lending.Steps
use Steps.{Bool, Goes-ref, List, MutRef, Ptr, RattleType, SProp, T, Val, WpFn, a_type, alloc_all, ap, await, by, cell_at, closes, emp}
use Steps.{enter, fact_i, feq_i, feq_l, fjoin3, flft, free_all, fsplit, fsplit3, full_share, group, inst_fn, keep, later, layouts, look_at}
use Steps.{move, mut_vals, named, named_lft, nothing, of_opd, owns, param, pass_all, plain, prop, qed, raw, refl, regoal, returns, rewrite}
use Steps.{sets, split, split3, subst, sym, tables, toks, unit_lit, use1, vptr, vunit, walk_of, !, [], ‵, ◌$◌, ◌++◌, ◌∙◌, ◌∵◌, ◌∷◌, ◌≡◌}
use Steps.{◌⊛◌}

pub put_back_spec : {M : Type 1} → statement M
put_back_spec 𝓤 𝓛 𝓜 𝓡 wired X L =
    let T' = f.ended X in let c = f.clauses X 𝓛 𝓜.mem 𝓡.returns in let 𝓣 = tables 𝓤 𝓛.H 𝓜 𝓡 𝓡.env in
    let args = layouts (a_type ∷ []) (X, tt) in let fn = inst_fn args code.function in let V : RattleType = param 0 X in
    let s = plain (λ κs. It (named_lft 3 1 tt κs) V) in let ss = tail T'.signature.params in let ks = T'.kept.1 in
    let hs = first_stays 𝓛 T' s tt ss ks in
    shown_at 𝓛 T' hs (Goes-ref 𝓛 3 0 tt s, quiet 𝓛 ss ks ((λ κs x w. refl), ((λ κs x w. refl), tt))) c 𝓜 𝓡
    (f.Key.name args) fn (code.unfolded 𝓤 𝓛.H 𝓜 𝓡 wired (X, tt)) 1 (λ κs. κs.1.1) (X.lives, tt)
    (λ y. (right_of y.0.3.0.now ≡ y.0.3.1.1.0.rest) × (right_of y.0.3.1.0 ≡ y.0.3.1.1.0.part)) (λ y. refl) (λ y are asked.
    let Post : Val → SProp 𝓤 = (walk_of 𝓛 T' hs c).post y in let κs = y.0.0 in let qs = y.0.1 in let at = named_lft 3 1 tt κs in
    let κ = κs.0 in let κ' = at.lft in let q' = qs.1.0 in let Rest = toks 𝓛 1 κs.1.1 qs.1.1 in
    let self = y.0.3.0 in let b = self.ref_ptr.0 in let o = self.ref_ptr.1 in
    let cells : Cells V.Denot = self.now in let part : Cells V.Denot = y.0.3.1.0 in let ticket : Taken V.Denot = y.0.3.1.1.0 in
    let home : Right = ticket.home in let chosen : List Bool = ticket.part.marks in
    let items : List V.Denot = chosen_of chosen part.items cells.items in
    let new : Cells V.Denot = record { first = home.first; mark = record {}; name = home.name; marks = home.marks; items = items } in
    let Held = owns (MutRef (named 0) κ (It at V) ∷ It at V ∷ Ticket at V ∷ []) y.0.3 y.0.4 in
    qed 𝓛 ((‵ (flft κ qs.0) ⊛ ‵ (flft κ' q') ⊛ raw Rest) ∷ ‵ Held ∷ []) ∵
    split3 ! $ move ! (3 ∷ []) $ fsplit3 ! $ move ! (1 ∷ []) $ cells_had ! at V part y.0.4.1.0 (λ told. move ! (2 ∷ []) $ fsplit ! $
    ticket_had ! at V ticket y.0.4.1.1.0 (λ told'. move ! (3 ∷ 4 ∷ 2 ∷ 0 ∷ 5 ∷ 6 ∷ []) $
    -- [the reference, its token; the part; the slot; the token of 'a; the other tokens]
    regoal ! (λ (vs : List Val). prop (WpFn 𝓤 𝓛.H 𝓣.C 𝓣.Λ fn vs Post)) (λ i. are.0.0 i ++ (told i ++ (told' i ++ []))) refl $
    enter ! 𝓣.C 𝓣.Λ fn (vptr b o ∷ word part.first ∷ mark_word ∷ []) Post $
    alloc_all ! (λ l. pass_all ! refl ((tt, tt), (word_typed part.first, ((tt, (tt, tt)), tt))) $ opened ! tt at V self (λ k.
    -- [the struct; what it holds; the open borrow, its name; the part; the slot; the token of 'a; the other tokens]
    move ! (6 ∷ []) $ fsplit ! $ fsplit3 ! $ feq_l ! (λ inside. feq_l ! (λ left. fsplit ! $ feq_l ! (λ first₁. feq_l ! (λ first₂.
    let Cell = λ (vs : List Val). ‵ (cell_at full_share (It at V).mir vs b o) in
    rewrite ! 6 (λ (r : Right). ‵ (holds_cells κ' V r.name r.first r.marks part.items)) asked.1 refl $
    rewrite ! 6 (λ (p : Ptr). ‵ (holds_cells κ' V ticket.part.name p chosen part.items)) first₁ refl $
    rewrite ! 2 (λ (r : Right). ‵ (holds_cells κ' V r.name r.first r.marks cells.items)) asked.0 refl $
    rewrite ! 2 (λ (p : Ptr). ‵ (holds_cells κ' V ticket.rest.name p ticket.rest.marks cells.items)) first₂ refl $
    rewrite ! 2 (λ (m : List Bool). ‵ (holds_cells κ' V ticket.rest.name home.first m cells.items)) left refl $
    rewrite ! 1 Cell (ap (λ (r : Right). word r.first ∷ []) asked.0 ∙ ap (λ (p : Ptr). word p ∷ []) first₂) refl $
    move ! (6 ∷ 2 ∷ 0 ∷ 7 ∷ []) $ group ! 4 $
    use1 𝓛 (later (‵ (holds_cells κ' V home.name home.first home.marks items) ⊛ ‵ (flft κ' q')))
    (merged 𝓛 V κ' q' home.first home.name chosen home.marks (subst (λ (y : Bool). T y) (sym inside) tt)
    ticket.part.name ticket.rest.name part.items cells.items) $ await ! tt $ split ! $
    cells_made ! at V new $ move ! (2 ∷ 0 ∷ 3 ∷ 4 ∷ 5 ∷ []) $ closes ! tt (It at V) new (word home.first ∷ []) b o $
    feq_i ! (List Val) y.0.4.0 (mut_vals self) are.0.0 $ fjoin3 ! $
    -- [the reference; its token; the token of 'a; the other tokens]
    sets ! (of_opd ! (unit_lit !)) refl (tt, tt) $
    returns ! (look_at ! 0 refl) $ free_all ! refl $ nothing ! $ feq_i ! (List Val) (vunit ∷ []) (vunit ∷ []) refl $
    keep ! (3 ∷ 4 ∷ 5 ∷ 2 ∷ 0 ∷ 1 ∷ []) $ group ! 3 $
    by ! (first_ends 𝓛 T' s tt ss ks c y vunit tt new (tt, (tt, tt)) (emp 𝓤)
    (fact_i 𝓤 _ _ (refl, ap (λ (r : Right). chosen_of r.marks part.items cells.items) (sym asked.1)))))))))))))
