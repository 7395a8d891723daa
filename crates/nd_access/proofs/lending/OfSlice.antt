-- What a slice owns becomes what cells, or a reader, of all its elements own. Assumes `Logic`.
use denote.Slice.{slice_ty}
use denote.Struct.Struct.{layout as struct_ty}
use mir.Syntax.{Local, Mutability, Ty, addr_of, aggregate, deref, field, local, ty_param, ty_ptr, ty_ref, value_local}
use Rattle.std.specs.contracts.marker.PhantomData as marker
use Rattle.nd_access.proofs.Laws.lending.Held.{fields, word, word_typed}
use Rattle.nd_access.proofs.Laws.lending.Steps
use Steps.{Calls, Fn, Logic, Loops, RattleType, SProp, Sym, Ura, Val, WpFn, addr, agg, alloc_all, and_then, assign, await, block_ptr, by}
use Steps.{copy, ent, enter, fld, free_all, from, get, hop, later, layout, lone, look_at, look_in_at, named, no_more, pass_all, place, qed}
use Steps.{raw, refl, return, returns, seq, sets, slice_val, stop, sub, use1, whole, !, [], ℕ, ◌$◌, ◌<◌, ◌^◌, ◌∵◌, ◌∷◌}

-- the code of such a call
module _ (ν : Sym) (V P : RattleType) (μ : Mutability) where
  abbrev val : Ty → Local
  val υ = local υ value_local

  abbrev pub code : Fn
  code = record {
    lifetimes = 1;
    outlives = (1, 0) ∷ [];
    ty_params = [];
    givens = 0;
    params = 1;
    locals = val (struct_ty (fields ν V P)) ∷ val (slice_ty (ty_ref (named 0) μ (ty_param 0))) ∷ val ty_ptr
        ∷ val (lone (marker.the_field P).row.mir) ∷ [];
    body = seq (assign (place 2 []) (addr_of (place 1 (field 0 ∷ deref (layout V) ∷ []))))
        (seq (assign (place 3 []) (aggregate []))
        (seq (assign (place 0 []) (aggregate (copy (place 2 []) ∷ copy (place 3 []) ∷ []))) return));
  }

  pub all_taken : {M : Type 1} {𝓤 : Ura M} (𝓛 : Logic 𝓤) (C : Calls 𝓤 𝓛.H) (Λ : Loops 𝓤 𝓛.H) (b o n : ℕ) → n < 2 ^ 64
      → (Post : Val → SProp 𝓤) (Has Gives : SProp 𝓤) → ent 𝓤 Has (𝓛.H.⇛ Gives) → ent 𝓤 Gives (Post (word (block_ptr b o)))
      → ent 𝓤 Has (WpFn 𝓤 𝓛.H C Λ code (slice_val (b, o) n ∷ []) Post)
  all_taken 𝓛 C Λ b o n few Post Has Gives turns exits = qed 𝓛 (raw Has ∷ []) ∵ enter ! C Λ code (slice_val (b, o) n ∷ []) Post $
      alloc_all ! (λ l. pass_all ! refl ((tt, (tt, (record { fits = few }, tt))), tt) $ use1 𝓛 (later (raw Gives)) turns $ await ! tt $
      sets ! (addr ! (from ! (fld ! refl (hop ! (look_in_at ! 1 (sub ! 0 refl (whole !))) (stop !))))) refl (tt, tt) $
      sets ! (agg ! (no_more !)) refl (tt, tt) $
      sets ! (agg ! (and_then ! (get ! refl) (and_then ! (get ! refl) (no_more !)))) refl (word_typed (block_ptr b o)) $
      returns ! (look_at ! 0 refl) $ free_all ! refl $ by ! exits)
