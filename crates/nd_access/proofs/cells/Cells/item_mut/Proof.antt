-- `item_mut` lends one of the cells. Assumes `Logic`.
use Rattle.std.proofs.lemmas.Option.{slice_get-get_or}
use Rattle.std.specs.Prelude.{IsTrue, false}
use Rattle.nd_access.specs.LendingCells.{LendsCell}
use Rattle.nd_access.specs.contracts.cells.Cells.item_mut as f
use Rattle.nd_access.specs.declared.cells.Cells.{Cells}
use Rattle.nd_access.proofs.cells.Cells.item_mut.Code as code
use Rattle.nd_access.proofs.cells.Cells.item_mut.Statement.{statement}
use Rattle.nd_access.proofs.lending.CellLends.{Seat, back, out, with_all}
use Rattle.nd_access.proofs.Laws.lending.Held.{It, cells_made, opened, word}
use Rattle.nd_access.proofs.Laws.lending.Lends.{lends_one}
use Rattle.nd_access.proofs.Laws.lending.Places.{first_item, marked_below, place_fits, times_size}
use Rattle.nd_access.proofs.Laws.lending.Walk.{all_dropped, ends, quiet, shown}
use Rattle.nd_access.proofs.Laws.lending.Steps
use Steps.{Body, Bool, GName, List, MutBor, MutRef, Ptr, RattleType, T, Val, Valss, a_type, addr, alloc_all, ap, arith, assign, at_ret}
use Steps.{await, bin, block_of, blocks, by, cell_at, closes, copy, count_of, done, drop, enter, env, exec, first, fld, flft, free_all}
use Steps.{fsplit, full_share, get, get_or, group, inst_fn, join, keep, later, layouts, length, load, look_at, look_in, mem, move}
use Steps.{mut_Tells, mut_vals, named, named_lft, nth, of_opd, owns, param, pass_all, pick, place, place_is, qed, raw, refl, return}
use Steps.{returns, rewrite, rv_opd, says, sem, seq, sets, sets_last, some, split, split3, stop, sub, subst, sym, tables, through, toks}
use Steps.{uint_Tells, uint_vals, use1, usize, vint, vptr, w64, walk_of, whole, !, [], ‵, ℕ, ◌$◌, ◌*◌, ◌+◌, ◌<◌, ◌^◌, ◌∵◌, ◌∷◌, ◌⊛◌}

abbrev rest : Body
rest = seq (assign (place 0 []) (rv_opd (copy (place 3 [])))) return

pub item_mut_spec : {M : Type 1} → statement M
item_mut_spec 𝓤 𝓛 𝓜 𝓡 wired X L =
    let T' = f.ended X in let c = f.clauses X 𝓛 𝓜.mem 𝓡.returns in let 𝓣 = tables 𝓤 𝓛.H 𝓜 𝓡 𝓡.env in
    let args = layouts (a_type ∷ []) (X, tt) in let fn = inst_fn args code.function in let V : RattleType = param 0 X in
    shown 𝓛 T' (all_dropped T') (quiet 𝓛 T'.signature.params T'.kept ((λ κs x w. refl), ((λ κs x w. refl), tt))) c 𝓜 𝓡
    (f.Key.name args) fn (code.unfolded 𝓤 𝓛.H 𝓜 𝓡 wired (X, tt)) 1 (λ κs. κs.1.1) (X.lives, tt)
    (λ κs. (mut_vals, (uint_vals w64, tt))) (λ κs. (mut_Tells (named 0) κs.0 (It (named_lft 3 1 tt κs) V), (uint_Tells w64, tt)))
    (ends 𝓛 T' c) (λ y. IsTrue (get_or y.0.3.0.now.marks y.0.3.1.0 false)) (λ y. refl) (λ κs qs bounds a g are marked exits.
    let at = named_lft 3 1 tt κs in let κ = κs.0 in let q = qs.0 in let Rest = toks 𝓛 2 κs.1 qs.1 in let Self = It at V in
    let b = a.0.ref_ptr.0 in let o = a.0.ref_ptr.1 in let γ = a.0.ghost_name in let cells : Cells V.Denot = a.0.now in let i : ℕ = a.1.0 in
    let mine : T (get_or cells.marks i false) = subst (λ (y : Bool). T y) (sym marked) tt in
    let ns : Valss (usize ∷ []) = (vint w64 i ∷ [], tt) in let vs = vptr b o ∷ vint w64 i ∷ [] in
    let Post = (walk_of 𝓛 T' (all_dropped T') c).post ((κs, qs, bounds, a, (mut_vals a.0, ns)), g) in
    let s : ℕ = (mem V).size in let hb : ℕ = block_of cells.first in let ho : ℕ = count_of cells.first in
    qed 𝓛 ((‵ (flft κ q) ⊛ raw Rest) ∷ ‵ (owns (MutRef (named 0) κ Self ∷ usize ∷ []) a (mut_vals a.0, ns)) ∷ []) ∵
    split ! $ move ! (2 ∷ []) $ fsplit ! $ move ! (1 ∷ []) $ drop ! $
    -- [the reference; its token; the others]
    enter ! 𝓣.C 𝓣.Λ fn vs Post $ alloc_all ! (λ l. pass_all ! refl ((tt, tt), ((tt, record { fits = are.1.0.1 }), tt)) $
    opened ! tt at V a.0 (λ k.
    let below : i < length cells.items = let lies = marked_below i cells.marks mine in omega (arith, lies, k.1.0) in
    let fs : i * s < 2 ^ 64 = place_fits i (length cells.items) s (omega (arith, below)) k.1.1.1 in
    let Cell = λ (us : List Val). ‵ (cell_at full_share Self.mir us b o) in
    rewrite ! 0 Cell (ap (λ (p : Ptr). word p ∷ []) k.0) refl $ first ! $ blocks ! $
    sets ! (of_opd ! (load ! (through ! refl (fld ! refl (stop !))) (look_in ! 0 (sub ! 0 refl (whole !))))) refl (tt, tt) $
    sets ! (times_size ! i (get ! refl) fs) refl (tt, record { fits = fs }) $
    sets ! (bin ! (get ! refl) (get ! refl) tt) refl (tt, tt) $
    sets_last ! (addr ! (through ! refl (stop !))) refl (tt, tt) $
    exec ! 𝓣.C 𝓣.Λ (env fn.locals l) rest (at_ret (env fn.locals l) Post) $
    sets ! (of_opd ! (get ! refl)) refl (tt, tt) $
    rewrite ! 0 Cell (ap (λ (p : Ptr). word p ∷ []) (sym k.0)) refl $ move ! (1 ∷ []) $ cells_made ! at V cells $
    move ! (1 ∷ 0 ∷ 2 ∷ 3 ∷ 4 ∷ []) $ closes ! tt Self cells (word cells.first ∷ []) b o $ group ! 3 $
    let d : V.Denot = first_item i cells.items below in
    let r : GName → ℕ → MutBor V.Denot = λ γ' z. record { ref_ptr = (hb, z); ghost_name = γ'; now = get_or cells.items i d } in
    use1 𝓛 (later (some (λ (γ' : GName). ‵ ((MutRef (named 0) κ V).own_val (r γ' (nth s ho i)) (vptr hb (nth s ho i) ∷ []))
    ⊛ ‵ (flft κ q) ⊛ ‵ (LendsCell V a.0 i (r γ' (nth s ho i))))))
    (lends_one 𝓛 Self V κ at.lft bounds.0 q b o γ cells.name cells.first cells.marks cells cells.items (with_all 𝓛 at V b o cells)
    (Seat 𝓛 at V b o cells) (out 𝓛 at V b o cells) (back 𝓛 at V b o cells) k (named 0) i mine hb ho k.0 d) $ await ! tt $ pick ! (λ γ'.
    split3 ! $ rewrite ! 0 (λ (z : ℕ). ‵ ((MutRef (named 0) κ V).own_val (r γ' z) (vptr hb z ∷ []))) (place_is s ho i) refl $
    -- [the reference; the token; what follows; the others]
    returns ! (look_at ! 0 refl) $ free_all ! refl $ keep ! (1 ∷ 3 ∷ 0 ∷ 2 ∷ []) $ join ! $
    by ! (exits (vptr hb (i * s + ho)) (r γ' (i * s + ho)) (tt, (tt, tt)) (sem 𝓛 (LendsCell V a.0 i (r γ' (nth s ho i))))
    (qed 𝓛 (‵ (LendsCell V a.0 i (r γ' (nth s ho i))) ∷ []) ∵ says ! (slice_get-get_or cells.items i d below, k.1.0) $ done !))))))
