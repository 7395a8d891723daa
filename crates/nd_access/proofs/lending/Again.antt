-- What a `&` to cells or to a reader shows is lent as a reader. Assumes `Logic`.
use denote.Struct.Struct.{layout as struct_ty}
use mir.Syntax.{Local, Ty, aggregate, deref, field, imm, local, tcons, tnil, ty_named, ty_param, ty_ptr, ty_ref, value_local}
use Rattle.std.specs.contracts.marker.PhantomData as marker
use Rattle.nd_access.specs.Cells.{known, lent_where}
use Rattle.nd_access.specs.contracts.cells.Reader.{struct}
use Rattle.nd_access.specs.declared.cells.Reader.{Reader}
use Rattle.nd_access.proofs.Laws.lending.Held.{Reading, fields, reader_made, word, word_typed}
use Rattle.nd_access.proofs.lending.Seen.{Fields, Known, Sight, seen, shows_first, spot}
use Rattle.nd_access.proofs.Laws.lending.Steps
use Steps.{Calls, Fn, InBlock, Incl, Logic, Loops, NamedLft, RowLaws, SProp, Share, ShrRef, Ura, Val, WpFn, agg, alloc_all, and_then}
use Steps.{assign, by, copy, emp, ent, enter, fjoin, fld, flft, free_all, get, join, keep, load, lone, look, look_at, move, named, no_more}
use Steps.{nothing, of_opd, owns, pass_all, place, pointer_in, pointer_out, pure_i, qed, raw, refl, return, returns, rv_opd, sem, sep, seq}
use Steps.{sets, shr_vals, stop, subst, sym, through, vptr, !, [], ‵, ◌$◌, ◌+◌, ◌∵◌, ◌∷◌}

module _ {M : Type 1} {𝓤 : Ura M} (𝓛 : Logic 𝓤) (S : Sight 𝓛) where
  open 𝓛 use {H, A}
  open S use {item, mark, marks, items, to, at}

  -- the code of such a call, whose result has this lifetime
  abbrev pub code : NamedLft → Fn
  code a = let val : Ty → Local = λ υ. local υ value_local in record {
    lifetimes = 2;
    outlives = (1, 0) ∷ (2, 0) ∷ (2, 1) ∷ [];
    ty_params = [];
    givens = 0;
    params = 1;
    locals = val (struct_ty (fields (struct a item).name item (ShrRef a.mir a.lft item)))
        ∷ val (ty_ref (named 0) imm (ty_named (S.name, named 1 ∷ []) (tcons (ty_param 0) tnil))) ∷ val ty_ptr
        ∷ val (lone (marker.the_field mark).row.mir) ∷ [];
    body = seq (assign (place 2 []) (rv_opd (copy (place 1 (deref (struct_ty (fields S.name item mark)) ∷ field 0 ∷ [])))))
        (seq (assign (place 3 []) (aggregate []))
        (seq (assign (place 0 []) (aggregate (copy (place 2 []) ∷ copy (place 3 []) ∷ []))) return));
  }

  abbrev pub reader : Reader item.Denot
  reader = record { first = spot 𝓛 S; mark = record {}; marks = marks; items = items }

  pub all_shown : (C : Calls 𝓤 H) (Λ : Loops 𝓤 H) (a : NamedLft) → RowLaws item → Incl a.lft S.time → (q : Share)
      (Rest : SProp 𝓤) (Post : Val → SProp 𝓤)
      → (Known 𝓛 S → ent 𝓤 (sep 𝓤 (sep 𝓤 (A.lft at q) Rest)
      (sep 𝓤 (sem 𝓛 ((Reading a item).own_val reader (word (spot 𝓛 S) ∷ []))) (emp 𝓤))) (Post (word (spot 𝓛 S))))
      → ent 𝓤 (sep 𝓤 (sep 𝓤 (A.lft at q) Rest) (sem 𝓛 (owns (ShrRef (named 0) at S.self ∷ []) (to, tt) (shr_vals to, tt))))
      (WpFn 𝓤 H C Λ (code a) (vptr to.ref_ptr.0 to.ref_ptr.1 ∷ []) Post)
  all_shown C Λ a L inc q Rest Post exits =
      let b = to.ref_ptr.0 in let o = to.ref_ptr.1 in let p = spot 𝓛 S in
      seen 𝓛 S L a.lft inc [] tt tt q Rest C Λ (code a) (vptr b o ∷ []) Post (λ k.
      let inb : InBlock S.first = subst InBlock (sym k.0) tt in
      qed 𝓛 (‵ (Fields 𝓛 S) ∷ ‵ (flft at q) ∷ ‵ (lent_where item p marks items a.lft) ∷ raw Rest ∷ []) ∵ move ! (2 ∷ []) $
      pure_i ! (known item p marks items) (tt, (tt, (tt, tt))) (refl, k.1) $ fjoin ! $ reader_made ! a item reader $ move ! (1 ∷ 2 ∷ []) $
      -- [a `&` to the fields; its token; the reader; the rest]
      enter ! C Λ (code a) (vptr b o ∷ []) Post $ alloc_all ! (λ l. pass_all ! refl ((tt, tt), tt) $
      pointer_in ! tt S.first inb b (o + 0) (shows_first 𝓛 S) (λ q₀.
      sets ! (of_opd ! (load ! (through ! refl (fld ! refl (stop !))) (look ! 1 refl))) refl (tt, tt) $
      pointer_out ! tt S.first inb b (o + 0) $
      sets ! (agg ! (no_more !)) refl (tt, tt) $
      sets ! (agg ! (and_then ! (get ! refl) (and_then ! (get ! refl) (no_more !)))) refl (word_typed p) $
      returns ! (look_at ! 0 refl) $ free_all ! refl $ move ! (0 ∷ 3 ∷ []) $ join ! $ keep ! (0 ∷ 2 ∷ []) $
      nothing ! $ move ! (1 ∷ 2 ∷ []) $ by ! (exits k))))
