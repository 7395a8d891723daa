-- One element is shown through a `&` to cells or to a reader. Assumes `Logic`.
use denote.Struct.Struct.{layout as struct_ty}
use mir.Syntax.{Local, Ty, addr_of, block, deref, erased, field, imm, local, mul, offset, op2, size_of, tcons, tnil, ty_int, ty_named}
use mir.Syntax.{ty_param, ty_ptr, ty_ref, unsigned, value_local}
use Rattle.std.proofs.lemmas.Option.{slice_get-get_or}
use Rattle.std.specs.Prelude.{IsTrue, Some, false, slice_get}
use Rattle.nd_access.specs.Cells.{lent_where}
use Rattle.nd_access.proofs.Laws.lending.Held.{fields}
use Rattle.nd_access.proofs.Laws.lending.Places.{first_item, marked_below, place_fits, times_size}
use Rattle.nd_access.proofs.lending.Seen.{Fields, Sight, seen, shows_first, spot}
use Rattle.nd_access.proofs.lending.Shared.{lent_one}
use Rattle.nd_access.proofs.Laws.lending.Steps
use Steps.{Body, Bool, Bor, Calls, Fn, InBlock, Incl, Lft, List, Logic, Loops, RattleType, RowLaws, SProp, Share, ShrRef, Sym, T, Ura, Val}
use Steps.{WpFn, addr, alloc_all, arith, assign, at_ret, bin, block_of, blocks, by, copy, count_of, emp, ent, enter, env, exec, feq_i}
use Steps.{first, fjoin, fld, flft, free_all, get, get_or, hide, join, keep, layout, length, load, look, look_at, mem, move, named, nothing}
use Steps.{nth, of_opd, owns, pass_all, place, place_is, pointer_in, pointer_out, qed, raw, refl, return, returns, rewrite, rv_opd, sem}
use Steps.{sep, seq, sets, sets_last, shared_of, shr_vals, stop, subst, sym, through, use1, usize, vint, vptr, w64, !, [], ‵, ℕ, ◌$◌, ◌*◌}
use Steps.{◌+◌, ◌<◌, ◌^◌, ◌∵◌, ◌∷◌, ◌≡◌}

-- the code of such a call, whose result names lifetime n
module _ (ν : Sym) (V P : RattleType) (n : ℕ) where
  abbrev rest : Body
  rest = seq (assign (place 0 []) (rv_opd (copy (place 3 [])))) return

  abbrev val : Ty → Local
  val υ = local υ value_local

  abbrev pub code : Fn
  code = record {
    lifetimes = 2;
    outlives = (1, 0) ∷ (2, 0) ∷ (2, 1) ∷ [];
    ty_params = [];
    givens = 0;
    params = 2;
    locals = val (ty_ref (named n) imm (ty_param 0)) ∷ val (ty_ref (named 0) imm (ty_named (ν, named 1 ∷ []) (tcons (ty_param 0) tnil)))
        ∷ val (ty_int w64) ∷ val (ty_ref erased imm (ty_param 0)) ∷ val ty_ptr ∷ val (ty_int w64) ∷ val ty_ptr ∷ [];
    body = seq (block (seq (assign (place 4 []) (rv_opd (copy (place 1 (deref (struct_ty (fields ν V P)) ∷ field 0 ∷ [])))))
        (seq (assign (place 5 []) (op2 (mul unsigned) (copy (place 2 [])) (size_of (layout V))))
        (seq (assign (place 6 []) (op2 offset (copy (place 4 [])) (copy (place 5 []))))
        (assign (place 3 []) (addr_of (place 6 (deref (layout V) ∷ [])))))))) rest;
  }

module _ {M : Type 1} {𝓤 : Ura M} (𝓛 : Logic 𝓤) (S : Sight 𝓛) where
  open 𝓛 use {H, A}
  open S use {item, marks, items, to, at}

  pub one_shown : (C : Calls 𝓤 H) (Λ : Loops 𝓤 H) (n : ℕ) → RowLaws item → (short : Lft) → Incl short S.time → (q : Share)
      (Rest : SProp 𝓤) (i : ℕ) → i < 2 ^ 64 → IsTrue (get_or marks i false) → (Post : Val → SProp 𝓤)
      → ((r : Bor item.Denot) → slice_get items i ≡ Some r.now
      → ent 𝓤 (sep 𝓤 (sep 𝓤 (A.lft at q) Rest) (sep 𝓤 (sem 𝓛 ((ShrRef (named n) short item).own_val r (shr_vals r))) (emp 𝓤)))
      (Post (vptr r.ref_ptr.0 r.ref_ptr.1)))
      → ent 𝓤 (sep 𝓤 (sep 𝓤 (A.lft at q) Rest)
      (sem 𝓛 (owns (ShrRef (named 0) at S.self ∷ usize ∷ []) (to, (i, tt)) (shr_vals to, (vint w64 i ∷ [], tt)))))
      (WpFn 𝓤 H C Λ (code S.name item S.mark n) (vptr to.ref_ptr.0 to.ref_ptr.1 ∷ vint w64 i ∷ []) Post)
  one_shown C Λ n L short inc q Rest i few marked Post exits =
      let mine : T (get_or marks i false) = subst (λ (y : Bool). T y) (sym marked) tt in
      let b = to.ref_ptr.0 in let o = to.ref_ptr.1 in let fn = code S.name item S.mark n in
      seen 𝓛 S L short inc (usize ∷ []) (i, tt) (vint w64 i ∷ [], tt) q Rest C Λ fn (vptr b o ∷ vint w64 i ∷ []) Post (λ k.
      let s : ℕ = (mem item).size in let hb : ℕ = block_of S.first in let ho : ℕ = count_of S.first in
      let below : i < length items = let lies = marked_below i marks mine in omega (arith, lies, k.1.0) in
      let fs : i * s < 2 ^ 64 = place_fits i (length items) s (omega (arith, below)) k.1.1.1 in
      let inb : InBlock S.first = subst InBlock (sym k.0) tt in
      let d : item.Denot = first_item i items below in
      let r : Bor item.Denot = record { ref_ptr = (hb, i * s + ho); now = get_or items i d } in
      qed 𝓛 (‵ (Fields 𝓛 S) ∷ ‵ (flft at q) ∷ ‵ (lent_where item (spot 𝓛 S) marks items short) ∷ raw Rest ∷ []) ∵ move ! (2 ∷ []) $
      use1 𝓛 (‵ (shared_of item r.now hb (nth s ho i) short)) (lent_one 𝓛 item hb short i marks items d ho mine k.1.0) $
      rewrite ! 0 (λ (z : ℕ). ‵ (shared_of item r.now hb z short)) (place_is s ho i) refl $ hide ! $ move ! (1 ∷ 2 ∷ []) $
      -- [a `&` to the fields; its token; a `&` to the element; the rest]
      enter ! C Λ fn (vptr b o ∷ vint w64 i ∷ []) Post $
      alloc_all ! (λ l. pass_all ! refl ((tt, tt), ((tt, record { fits = few }), tt)) $ first ! $ blocks ! $
      pointer_in ! tt S.first inb b (o + 0) (shows_first 𝓛 S) (λ q₀.
      sets ! (of_opd ! (load ! (through ! refl (fld ! refl (stop !))) (look ! 1 refl))) refl (tt, tt) $
      pointer_out ! tt S.first inb b (o + 0) $
      sets ! (times_size ! i (get ! refl) fs) refl (tt, record { fits = fs }) $
      sets ! (bin ! (get ! refl) (get ! refl) tt) refl (tt, tt) $
      sets_last ! (addr ! (through ! refl (stop !))) refl (tt, tt) $
      exec ! C Λ (env fn.locals l) (rest S.name item S.mark n) (at_ret (env fn.locals l) Post) $
      sets ! (of_opd ! (get ! refl)) refl (tt, tt) $
      returns ! (look_at ! 0 refl) $ free_all ! refl $ move ! (0 ∷ 3 ∷ []) $ join ! $ keep ! (2 ∷ 0 ∷ []) $
      feq_i ! (List Val) (shr_vals r) (shr_vals r) refl $ fjoin ! $ nothing ! $ move ! (2 ∷ 1 ∷ []) $
      by ! (exits r (slice_get-get_or items i d below)))))
