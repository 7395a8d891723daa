-- `take_slice` lends a stretch of the cells for as long as the whole. Assumes `Logic`.
use Rattle.std.specs.Prelude.{IsTrue}
use Rattle.nd_access.specs.Cells.{are_within, holds_cells, span_of, without, written_at}
use Rattle.nd_access.specs.contracts.cells.Cells.take_slice as f
use Rattle.nd_access.specs.declared.cells.Cells.{Cells}
use Rattle.nd_access.proofs.cells.Cells.take_slice.Code as code
use Rattle.nd_access.proofs.cells.Cells.take_slice.Statement.{statement}
use Rattle.nd_access.proofs.Laws.lending.Held.{It, cells_made, opened, word}
use Rattle.nd_access.proofs.Laws.lending.Places.{place_fits, times_size}
use Rattle.nd_access.proofs.lending.Taken.{row-length, taken}
use Rattle.nd_access.proofs.Laws.lending.Walk.{first_ends, first_stays, quiet, shown, tail}
use Rattle.nd_access.proofs.Laws.lending.Steps
use Steps.{Array, Body, Bool, GName, Goes-ref, List, MutBor, MutRef, MutSlice, Ptr, RattleType, T, Val, Valss, a_type, agg, alloc_all}
use Steps.{and_then, ap, arith, assign, at_ret, await, bin, block_of, blocks, by, cell_at, closes, copy, count_of, done, drop, drop_l}
use Steps.{enter, env, exec, feq_i, first, fjoin3, fld, flft, follows_both, free_all, fsplit, full_share, get, group, inst_fn, keep, later}
use Steps.{layouts, length, load, look_at, look_in, mem, move, mut_Tells, mut_vals, named, named_lft, no_more, nth, of_opd, owns, param}
use Steps.{pass_all, pick, place, place_is, plain, qed, raw, refl, return, returns, rewrite, rv_opd, says, sem, seq, sets, sets_last}
use Steps.{slice_val, some, split, split3, stop, sub, subst, sym, tables, take, through, toks, uint_Tells, uint_vals, use2, usize, vint}
use Steps.{vptr, w64, walk_of, whole, !, [], ‵, ℕ, ◌$◌, ◌*◌, ◌+◌, ◌<◌, ◌^◌, ◌∵◌, ◌∷◌, ◌≡◌, ◌≤◌, ◌⊛◌}

abbrev rest : Body
rest = seq (assign (place 0 []) (rv_opd (copy (place 4 [])))) return

pub take_slice_spec : {M : Type 1} → statement M
take_slice_spec 𝓤 𝓛 𝓜 𝓡 wired X L =
    let T' = f.ended X in let c = f.clauses X 𝓛 𝓜.mem 𝓡.returns in let 𝓣 = tables 𝓤 𝓛.H 𝓜 𝓡 𝓡.env in
    let args = layouts (a_type ∷ []) (X, tt) in let fn = inst_fn args code.function in let V : RattleType = param 0 X in
    let s = plain (λ κs. It (named_lft 3 1 tt κs) V) in let ss = tail T'.signature.params in let ks = T'.kept.1 in
    let hs = first_stays 𝓛 T' s tt ss ks in
    shown 𝓛 T' hs (Goes-ref 𝓛 3 0 tt s, quiet 𝓛 ss ks ((λ κs x w. refl), ((λ κs x w. refl), tt))) c 𝓜 𝓡
    (f.Key.name args) fn (code.unfolded 𝓤 𝓛.H 𝓜 𝓡 wired (X, tt)) 1 (λ κs. κs.1.1) (X.lives, tt)
    (λ κs. (mut_vals, (uint_vals w64, (uint_vals w64, tt))))
    (λ κs. (mut_Tells (named 0) κs.0 (It (named_lft 3 1 tt κs) V), (uint_Tells w64, (uint_Tells w64, tt)))) (first_ends 𝓛 T' s tt ss ks c)
    (λ y. let marks = y.0.3.0.now.marks in let start = y.0.3.1.0 in let len = y.0.3.1.1.0 in
    IsTrue (are_within (span_of start len marks) marks) × (start + len ≤ length marks)) (λ y. refl) (λ κs qs bounds a g are asked out.
    let at = named_lft 3 1 tt κs in let κ = κs.0 in let κ' = at.lft in let q' = qs.1.0 in let Rest = toks 𝓛 1 κs.1.1 qs.1.1 in
    let b = a.0.ref_ptr.0 in let o = a.0.ref_ptr.1 in let start : ℕ = a.1.0 in let len : ℕ = a.1.1.0 in
    let cells : Cells V.Denot = a.0.now in
    let inside : T (are_within (span_of start len cells.marks) cells.marks) = subst (λ (y : Bool). T y) (sym asked.0) tt in
    let vs = vptr b o ∷ vint w64 start ∷ vint w64 len ∷ [] in
    let ns : Valss (usize ∷ usize ∷ []) = (vint w64 start ∷ [], (vint w64 len ∷ [], tt)) in
    let Post = (walk_of 𝓛 T' hs c).post ((κs, qs, bounds, a, (mut_vals a.0, ns)), g) in
    let s : ℕ = (mem V).size in let hb : ℕ = block_of cells.first in let ho : ℕ = count_of cells.first in
    let row : List V.Denot = take len (drop_l start cells.items) in
    let left : List Bool = without (span_of start len cells.marks) cells.marks in
    let r : GName → ℕ → MutBor (List V.Denot) = λ γ p. record { ref_ptr = (hb, p); ghost_name = γ; now = row } in
    let Row = λ (γ : GName) (p n : ℕ). (MutSlice (named 1) κ' V).own_val (r γ p) (slice_val (hb, p) n ∷ []) in
    let Both = λ (γs : GName × GName). follows_both (Array V 0) (Array V 0) (Array V 0) cells.name γs.0 γs.1 (written_at start) in
    let Held = owns (MutRef (named 0) κ (It at V) ∷ usize ∷ usize ∷ []) a (mut_vals a.0, ns) in
    qed 𝓛 ((‵ (flft κ qs.0) ⊛ ‵ (flft κ' q') ⊛ raw Rest) ∷ ‵ Held ∷ []) ∵
    split3 ! $ move ! (3 ∷ []) $ fsplit ! $ move ! (1 ∷ []) $ drop ! $
    -- [the reference; its token; the token of 'a; the others]
    enter ! 𝓣.C 𝓣.Λ fn vs Post $
    alloc_all ! (λ l. pass_all ! refl ((tt, tt), ((tt, record { fits = are.1.0.1 }), ((tt, record { fits = are.1.1.0.1 }), tt))) $
    opened ! tt at V a.0 (λ k.
    let fs : start * s < 2 ^ 64 = place_fits start (length cells.items) s (omega (arith, asked.1, k.1.0)) k.1.1.1 in
    let many : length row ≡ len =
    row-length 𝓛 V (named 1) κ' q' cells.first cells.name cells.marks cells.items k start len hb ho k.0 inside asked.1 in
    let Cell = λ (us : List Val). ‵ (cell_at full_share (It at V).mir us b o) in
    rewrite ! 0 Cell (ap (λ (p : Ptr). word p ∷ []) k.0) refl $ first ! $ blocks ! $
    sets ! (of_opd ! (load ! (through ! refl (fld ! refl (stop !))) (look_in ! 0 (sub ! 0 refl (whole !))))) refl (tt, tt) $
    sets ! (times_size ! start (get ! refl) fs) refl (tt, record { fits = fs }) $
    sets ! (bin ! (get ! refl) (get ! refl) tt) refl (tt, tt) $
    sets_last ! (agg ! (and_then ! (get ! refl) (and_then ! (get ! refl) (no_more !)))) refl
    (tt, (tt, (record { fits = are.1.1.0.1 }, tt))) $
    exec ! 𝓣.C 𝓣.Λ (env fn.locals l) rest (at_ret (env fn.locals l) Post) $
    sets ! (of_opd ! (get ! refl)) refl (tt, (tt, (record { fits = are.1.1.0.1 }, tt))) $
    rewrite ! 0 Cell (ap (λ (p : Ptr). word p ∷ []) (sym k.0)) refl $ move ! (1 ∷ 5 ∷ []) $
    use2 𝓛 (later (some (λ (γs : GName × GName). ‵ (Row γs.0 (nth s ho start) (length row))
    ⊛ ‵ (holds_cells κ' V γs.1 cells.first left cells.items) ⊛ ‵ (flft κ' q') ⊛ ‵ (Both γs))))
    (taken 𝓛 V (named 1) κ' q' cells.first cells.name cells.marks cells.items k start len hb ho k.0 inside asked.1) $
    await ! tt $ pick ! (λ γs. let other : Cells V.Denot = record cells { name = γs.1; marks = left } in
    -- [the row; the others; the token of 'a, and what follows; the struct; the open borrow, its name; the other tokens]
    split3 ! $ rewrite ! 0 (λ (p : ℕ). ‵ (Row γs.0 p (length row))) (place_is s ho start) refl $
    rewrite ! 0 (λ (n : ℕ). ‵ (Row γs.0 (start * s + ho) n)) many refl $ move ! (1 ∷ []) $ cells_made ! at V other $
    move ! (3 ∷ 0 ∷ 4 ∷ 5 ∷ 6 ∷ []) $
    closes ! tt (It at V) other (word cells.first ∷ []) b o $
    feq_i ! (List Val) (mut_vals a.0) (mut_vals a.0) refl $ fjoin3 ! $ move ! (3 ∷ []) $ split ! $
    -- [the token of 'a; what follows; the reference; its token; the row; the other tokens]
    returns ! (look_at ! 0 refl) $ free_all ! refl $ keep ! (3 ∷ 0 ∷ 5 ∷ 2 ∷ 4 ∷ 1 ∷ []) $ group ! 3 $
    by ! (out (slice_val (hb, start * s + ho) len) (r γs.0 (start * s + ho)) other (tt, (tt, tt)) (sem 𝓛 (Both γs))
    (qed 𝓛 (‵ (Both γs) ∷ []) ∵ says ! (refl, refl, refl, omega (arith, asked.1, k.1.0)) $ done !))))))
