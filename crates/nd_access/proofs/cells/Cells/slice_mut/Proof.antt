-- `slice_mut` lends a stretch of the cells. Assumes `Logic`.
use Rattle.std.specs.Prelude.{IsTrue}
use Rattle.nd_access.specs.Cells.{are_within, span_of}
use Rattle.nd_access.specs.LendingCells.{LendsStretch}
use Rattle.nd_access.specs.contracts.cells.Cells.slice_mut as f
use Rattle.nd_access.specs.declared.cells.Cells.{Cells}
use Rattle.nd_access.proofs.cells.Cells.slice_mut.Code as code
use Rattle.nd_access.proofs.cells.Cells.slice_mut.Statement.{statement}
use Rattle.nd_access.proofs.lending.CellLends.{Seat, back, out, with_all}
use Rattle.nd_access.proofs.lending.StretchLends.{lends_stretch}
use Rattle.nd_access.proofs.lending.Taken.{row-length}
use Rattle.nd_access.proofs.Laws.lending.Held.{It, cells_made, opened, word}
use Rattle.nd_access.proofs.Laws.lending.Places.{place_fits, times_size}
use Rattle.nd_access.proofs.Laws.lending.Walk.{all_dropped, ends, quiet, shown}
use Rattle.nd_access.proofs.Laws.lending.Steps
use Steps.{Body, Bool, GName, List, MutBor, MutRef, MutSlice, Ptr, RattleType, T, Val, Valss, a_type, agg, alloc_all, and_then, ap, arith}
use Steps.{assign, at_ret, await, bin, block_of, blocks, by, cell_at, closes, copy, count_of, done, drop, drop_l, enter, env, exec, first}
use Steps.{fld, flft, free_all, fsplit, full_share, get, group, inst_fn, join, keep, later, layouts, length, load, look_at, look_in, mem}
use Steps.{move, mut_Tells, mut_vals, named, named_lft, no_more, nth, of_opd, owns, param, pass_all, pick, place, place_is, qed, raw, refl}
use Steps.{return, returns, rewrite, rv_opd, says, sem, seq, sets, sets_last, slice_val, some, split, split3, stop, sub, subst, sym, tables}
use Steps.{take, through, toks, uint_Tells, uint_vals, use1, usize, vint, vptr, w64, walk_of, whole, !, [], ‵, ℕ, ◌$◌, ◌*◌, ◌+◌, ◌<◌}
use Steps.{◌^◌, ◌∵◌, ◌∷◌, ◌≡◌, ◌≤◌, ◌⊛◌}

abbrev rest : Body
rest = seq (assign (place 0 []) (rv_opd (copy (place 4 [])))) return

pub slice_mut_spec : {M : Type 1} → statement M
slice_mut_spec 𝓤 𝓛 𝓜 𝓡 wired X L =
    let T' = f.ended X in let c = f.clauses X 𝓛 𝓜.mem 𝓡.returns in let 𝓣 = tables 𝓤 𝓛.H 𝓜 𝓡 𝓡.env in
    let args = layouts (a_type ∷ []) (X, tt) in let fn = inst_fn args code.function in let V : RattleType = param 0 X in
    shown 𝓛 T' (all_dropped T')
    (quiet 𝓛 T'.signature.params T'.kept ((λ κs x w. refl), ((λ κs x w. refl), ((λ κs x w. refl), tt)))) c 𝓜 𝓡
    (f.Key.name args) fn (code.unfolded 𝓤 𝓛.H 𝓜 𝓡 wired (X, tt)) 1 (λ κs. κs.1.1) (X.lives, tt)
    (λ κs. (mut_vals, (uint_vals w64, (uint_vals w64, tt))))
    (λ κs. (mut_Tells (named 0) κs.0 (It (named_lft 3 1 tt κs) V), (uint_Tells w64, (uint_Tells w64, tt)))) (ends 𝓛 T' c)
    (λ y. let marks = y.0.3.0.now.marks in let start = y.0.3.1.0 in let len = y.0.3.1.1.0 in
    IsTrue (are_within (span_of start len marks) marks) × (start + len ≤ length marks)) (λ y. refl) (λ κs qs bounds a g are asked exits.
    let at = named_lft 3 1 tt κs in let κ = κs.0 in let q = qs.0 in let Rest = toks 𝓛 2 κs.1 qs.1 in let Self = It at V in
    let b = a.0.ref_ptr.0 in let o = a.0.ref_ptr.1 in let γ = a.0.ghost_name in let cells : Cells V.Denot = a.0.now in
    let start : ℕ = a.1.0 in let len : ℕ = a.1.1.0 in
    let inside : T (are_within (span_of start len cells.marks) cells.marks) = subst (λ (y : Bool). T y) (sym asked.0) tt in
    let vs = vptr b o ∷ vint w64 start ∷ vint w64 len ∷ [] in
    let ns : Valss (usize ∷ usize ∷ []) = (vint w64 start ∷ [], (vint w64 len ∷ [], tt)) in
    let Post = (walk_of 𝓛 T' (all_dropped T') c).post ((κs, qs, bounds, a, (mut_vals a.0, ns)), g) in
    let s : ℕ = (mem V).size in let hb : ℕ = block_of cells.first in let ho : ℕ = count_of cells.first in
    let row : List V.Denot = take len (drop_l start cells.items) in
    let r : GName → ℕ → MutBor (List V.Denot) = λ γ' p. record { ref_ptr = (hb, p); ghost_name = γ'; now = row } in
    let Row = λ (γ' : GName) (p n : ℕ). (MutSlice (named 0) κ V).own_val (r γ' p) (slice_val (hb, p) n ∷ []) in
    qed 𝓛 ((‵ (flft κ q) ⊛ raw Rest) ∷ ‵ (owns (MutRef (named 0) κ Self ∷ usize ∷ usize ∷ []) a (mut_vals a.0, ns)) ∷ []) ∵
    split ! $ move ! (2 ∷ []) $ fsplit ! $ move ! (1 ∷ []) $ drop ! $
    -- [the reference; its token; the others]
    enter ! 𝓣.C 𝓣.Λ fn vs Post $
    alloc_all ! (λ l. pass_all ! refl ((tt, tt), ((tt, record { fits = are.1.0.1 }), ((tt, record { fits = are.1.1.0.1 }), tt))) $
    opened ! tt at V a.0 (λ k.
    let fs : start * s < 2 ^ 64 = place_fits start (length cells.items) s (omega (arith, asked.1, k.1.0)) k.1.1.1 in
    let many : length row ≡ len =
    row-length 𝓛 V (named 0) κ q cells.first cells.name cells.marks cells.items k start len hb ho k.0 inside asked.1 in
    let Cell = λ (us : List Val). ‵ (cell_at full_share Self.mir us b o) in
    rewrite ! 0 Cell (ap (λ (p : Ptr). word p ∷ []) k.0) refl $ first ! $ blocks ! $
    sets ! (of_opd ! (load ! (through ! refl (fld ! refl (stop !))) (look_in ! 0 (sub ! 0 refl (whole !))))) refl (tt, tt) $
    sets ! (times_size ! start (get ! refl) fs) refl (tt, record { fits = fs }) $
    sets ! (bin ! (get ! refl) (get ! refl) tt) refl (tt, tt) $
    sets_last ! (agg ! (and_then ! (get ! refl) (and_then ! (get ! refl) (no_more !)))) refl
    (tt, (tt, (record { fits = are.1.1.0.1 }, tt))) $
    exec ! 𝓣.C 𝓣.Λ (env fn.locals l) rest (at_ret (env fn.locals l) Post) $
    sets ! (of_opd ! (get ! refl)) refl (tt, (tt, (record { fits = are.1.1.0.1 }, tt))) $
    rewrite ! 0 Cell (ap (λ (p : Ptr). word p ∷ []) (sym k.0)) refl $ move ! (1 ∷ []) $ cells_made ! at V cells $
    move ! (1 ∷ 0 ∷ 2 ∷ 3 ∷ 4 ∷ []) $ closes ! tt Self cells (word cells.first ∷ []) b o $ group ! 3 $
    use1 𝓛 (later (some (λ (γ' : GName). ‵ (Row γ' (nth s ho start) (length row)) ⊛ ‵ (flft κ q)
    ⊛ ‵ (LendsStretch V a.0 start (r γ' (nth s ho start))))))
    (lends_stretch 𝓛 Self V κ at.lft bounds.0 q b o γ cells.name cells.first cells.marks cells cells.items (with_all 𝓛 at V b o cells)
    (Seat 𝓛 at V b o cells) (out 𝓛 at V b o cells) (back 𝓛 at V b o cells) k (named 0) start len hb ho k.0 inside asked.1) $
    await ! tt $ pick ! (λ γ'. split3 ! $ rewrite ! 0 (λ (p : ℕ). ‵ (Row γ' p (length row))) (place_is s ho start) refl $
    rewrite ! 0 (λ (n : ℕ). ‵ (Row γ' (start * s + ho) n)) many refl $
    -- [the slice; the token; what follows; the others]
    returns ! (look_at ! 0 refl) $ free_all ! refl $ keep ! (1 ∷ 3 ∷ 0 ∷ 2 ∷ []) $ join ! $
    by ! (exits (slice_val (hb, start * s + ho) len) (r γ' (start * s + ho)) (tt, (tt, (tt, tt)))
    (sem 𝓛 (LendsStretch V a.0 start (r γ' (nth s ho start))))
    (qed 𝓛 (‵ (LendsStretch V a.0 start (r γ' (nth s ho start))) ∷ []) ∵ says ! (refl, omega (arith, asked.1, k.1.0)) $ done !))))))
