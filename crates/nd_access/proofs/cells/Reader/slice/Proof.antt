-- `slice` shows a stretch of the elements, for all of the reader's time. Assumes `Logic`.
use denote.Slice.{elements_shared, shr_slice_at}
use lib.ListN.{length-drop}
use Rattle.std.proofs.lemmas.List.{length-take-le}
use Rattle.std.specs.Prelude.{IsTrue}
use Rattle.nd_access.specs.Cells.{are_within, lent_where, span_of}
use Rattle.nd_access.specs.contracts.cells.Reader.{the_row}
use Rattle.nd_access.specs.contracts.cells.Reader.slice as f
use Rattle.nd_access.proofs.cells.Reader.slice.Code as code
use Rattle.nd_access.proofs.cells.Reader.slice.Statement.{statement}
use Rattle.nd_access.proofs.Laws.lending.Places.{place_fits, times_size}
use Rattle.nd_access.proofs.lending.Read.{row_lent}
use Rattle.nd_access.proofs.lending.Seen.{Fields, reader_seen, seen, shows_first, spot}
use Rattle.nd_access.proofs.Laws.lending.Walk.{all_dropped, ends, quiet, shown}
use Rattle.nd_access.proofs.Laws.lending.Steps
use Steps.{Body, Bool, Bor, InBlock, Incl-refl, List, RattleType, T, Valss, a_type, agg, alloc_all, and_then, ap, arith, assign, at_ret}
use Steps.{bin, block_of, blocks, by, copy, count_of, drop_l, emp, enter, env, exec, fact_i, first, fjoin, fld, flft, free_all, get, hide}
use Steps.{inst_fn, join, keep, layouts, length, load, look, look_at, mem, move, mul-le-mul_right, named, named_lft, no_more, nothing, nth}
use Steps.{of_opd, param_laws, pass_all, place, place_is, pointer_in, pointer_out, pure_i, qed, raw, refl, return, returns, rewrite, rv_opd}
use Steps.{seq, sets, sets_last, shr_Tells, shr_vals, slice_val, stop, subst, sym, tables, take, through, toks, uint_Tells, uint_vals, use1}
use Steps.{usize, vint, vptr, w64, walk_of, !, [], ‵, ℕ, ◌$◌, ◌*◌, ◌+◌, ◌<◌, ◌^◌, ◌∵◌, ◌∷◌, ◌≡◌, ◌≤◌}

abbrev rest : Body
rest = seq (assign (place 0 []) (rv_opd (copy (place 4 [])))) return

pub slice_spec : {M : Type 1} → statement M
slice_spec 𝓤 𝓛 𝓜 𝓡 wired X L =
    let T' = f.ended X in let c = f.clauses X 𝓛 𝓜.mem 𝓡.returns in let 𝓣 = tables 𝓤 𝓛.H 𝓜 𝓡 𝓡.env in
    let args = layouts (a_type ∷ []) (X, tt) in let fn = inst_fn args code.function in
    shown 𝓛 T' (all_dropped T') (quiet 𝓛 T'.signature.params T'.kept ((λ κs x w. refl), ((λ κs x w. refl), ((λ κs x w. refl), tt)))) c 𝓜 𝓡
    (f.Key.name args) fn (code.unfolded 𝓤 𝓛.H 𝓜 𝓡 wired (X, tt)) 1 (λ κs. κs.1.1) (X.lives, tt)
    (λ κs. (shr_vals, (uint_vals w64, (uint_vals w64, tt))))
    (λ κs. (shr_Tells (named 0) κs.0 (the_row (named_lft 3 1 tt κs) (f.T-row X)), (uint_Tells w64, (uint_Tells w64, tt)))) (ends 𝓛 T' c)
    (λ y. let marks = y.0.3.0.now.marks in let start = y.0.3.1.0 in let len = y.0.3.1.1.0 in
    IsTrue (are_within (span_of start len marks) marks) × (start + len ≤ length marks)) (λ y. refl) (λ κs qs bounds a g are asked out.
    let V : RattleType = f.T-row X in let κ = κs.1.0 in let S = reader_seen 𝓛 (named_lft 3 1 tt κs) V κs.0 a.0 in
    let r = a.0.now in let Rest = toks 𝓛 2 κs.1 qs.1 in let b = a.0.ref_ptr.0 in let o = a.0.ref_ptr.1 in
    let start : ℕ = a.1.0 in let len : ℕ = a.1.1.0 in
    let vs = vptr b o ∷ vint w64 start ∷ vint w64 len ∷ [] in
    let ns : Valss (usize ∷ usize ∷ []) = (vint w64 start ∷ [], (vint w64 len ∷ [], tt)) in
    let Post = (walk_of 𝓛 T' (all_dropped T') c).post ((κs, qs, bounds, a, (shr_vals a.0, ns)), g) in
    seen 𝓛 S (param_laws 0 X L).shr_laws κ (Incl-refl κ) (usize ∷ usize ∷ []) (start, (len, tt)) ns qs.0 Rest 𝓣.C 𝓣.Λ fn vs Post (λ k.
    let inside : T (are_within (span_of start len r.marks) r.marks) = subst (λ (y : Bool). T y) (sym asked.0) tt in
    let s : ℕ = (mem V).size in let hb : ℕ = block_of r.first in let ho : ℕ = count_of r.first in
    let row : List V.Denot = take len (drop_l start r.items) in
    let many : length row ≡ len = length-take-le len (drop_l start r.items) (omega (arith, asked.1, k.1.0, length-drop start r.items)) in
    let fs : start * s < 2 ^ 64 = place_fits start (length r.items) s (omega (arith, asked.1, k.1.0)) k.1.1.1 in
    let fits : length r.items * s < 2 ^ 63 = k.1.1.1 in
    let n : length row ≤ length r.items = omega (arith, many, asked.1, k.1.0) in
    let size : length row * s ≤ length r.items * s = mul-le-mul_right s n in
    let inb : InBlock r.first = subst InBlock (sym k.0) tt in
    let v = slice_val (hb, start * s + ho) len in let x : Bor (List V.Denot) = record { ref_ptr = (hb, start * s + ho); now = row } in
    qed 𝓛 (‵ (Fields 𝓛 S) ∷ ‵ (flft κs.0 qs.0) ∷ ‵ (lent_where V (spot 𝓛 S) r.marks r.items κ) ∷ raw Rest ∷ []) ∵ move ! (2 ∷ []) $
    use1 𝓛 (‵ (elements_shared V row hb (nth s ho start) κ)) (row_lent 𝓛 V hb κ start len r.marks r.items ho inside asked.1 k.1.0) $
    rewrite ! 0 (λ (p : ℕ). ‵ (elements_shared V row hb p κ)) (place_is s ho start) refl $ hide ! $ move ! (1 ∷ 2 ∷ []) $
    -- [a `&` to the fields; its token; a `&` to each element; the rest]
    enter ! 𝓣.C 𝓣.Λ fn vs Post $
    alloc_all ! (λ l. pass_all ! refl ((tt, tt), ((tt, record { fits = are.1.0.1 }), ((tt, record { fits = are.1.1.0.1 }), tt))) $
    first ! $ blocks ! $ pointer_in ! tt r.first inb b (o + 0) (shows_first 𝓛 S) (λ q₀.
    sets ! (of_opd ! (load ! (through ! refl (fld ! refl (stop !))) (look ! 1 refl))) refl (tt, tt) $
    pointer_out ! tt r.first inb b (o + 0) $
    sets ! (times_size ! start (get ! refl) fs) refl (tt, record { fits = fs }) $
    sets ! (bin ! (get ! refl) (get ! refl) tt) refl (tt, tt) $
    sets_last ! (agg ! (and_then ! (get ! refl) (and_then ! (get ! refl) (no_more !)))) refl
    (tt, (tt, (record { fits = are.1.1.0.1 }, tt))) $
    exec ! 𝓣.C 𝓣.Λ (env fn.locals l) rest (at_ret (env fn.locals l) Post) $
    sets ! (of_opd ! (get ! refl)) refl (tt, (tt, (record { fits = are.1.1.0.1 }, tt))) $
    returns ! (look_at ! 0 refl) $ free_all ! refl $ move ! (0 ∷ 3 ∷ []) $ join ! $ keep ! (2 ∷ 0 ∷ []) $
    pure_i ! (shr_slice_at V x (v ∷ [])) (tt, (tt, tt))
    (ap (λ (n : ℕ). slice_val (hb, start * s + ho) n ∷ []) (sym many), (omega (arith, n, k.1.1.0), omega (arith, size, fits))) $
    fjoin ! $ nothing ! $ move ! (2 ∷ 1 ∷ []) $
    by ! (out v x (tt, (tt, (tt, tt))) (emp 𝓤) (fact_i 𝓤 _ _ (refl, omega (arith, asked.1, k.1.0))))))))
