-- A value of `Taken`: its machine value and what it holds. Assumes `Logic`.
use denote.Struct.Declared as Declared
use denote.Struct.Owning.{shape}
use denote.Struct.Struct.{Struct, within}
use denote.Struct.Tuple.{Tuple, tuple_type}
use mir.Syntax.{tcons, tnil, ty_ptr, ty_struct}
use Rattle.nd_access.specs.Slot.{holds_slot}
use Rattle.nd_access.specs.contracts.cells.taken.Taken as T-type
use Rattle.nd_access.specs.declared.cells.Cells.{Cells}
use Rattle.nd_access.specs.declared.cells.taken.Taken.{Taken}
use Rattle.nd_access.proofs.Laws.lending.Held.{It, word, word_typed}
use Rattle.nd_access.proofs.Laws.lending.Steps
use Steps.{Goal, Item, List, Logic, NamedLft, Ptr, RattleType, Seq, Step, T, Ura, Val, Valss, WT, block_ptr, drop, emp, ent, feq_i, feq_l}
use Steps.{fjoin, fpack, fpick, fsplit, has_ty, makes_shadow, move, nothing, null_ptr, of_list, refl, sem, step, use0, vcons, vnil, vstruct}
use Steps.{[], ‵, ◌$◌, ◌++◌, ◌∙◌, ◌∷◌, ◌≡◌}

abbrev pub mark_word : Val
mark_word = vstruct (vcons (vstruct vnil) vnil)

abbrev pub pair_word : Ptr → Val
pair_word p = vstruct (vcons (word p) (vcons mark_word vnil))

-- (the types' names don't count)
pub pair_typed : (p : Ptr) → T (has_ty (ty_struct [] (tcons (ty_struct [] (tcons ty_ptr (tcons (ty_struct [] tnil) tnil)))
    (tcons (ty_struct [] (tcons (ty_struct [] tnil) tnil)) tnil))) (pair_word p)) × WT (pair_word p)
pair_typed (block_ptr b o) = (tt, ((tt, (tt, tt)), ((tt, tt), tt)))
pair_typed null_ptr = (tt, ((word_typed null_ptr).1, ((tt, tt), tt)))

module _ (κ : NamedLft) (R : RattleType) where
  abbrev pub Ticket : RattleType
  Ticket = T-type.the_row κ R

  abbrev Fields : RattleType
  Fields = Struct (shape (T-type.the_type κ R))

  abbrev pub Both : RattleType
  Both = Tuple (It κ R ∷ Ticket ∷ [])

  fields_made : {M : Type 1} {𝓤 : Ura M} (𝓛 : Logic 𝓤) → ent 𝓤 (emp 𝓤) (sem 𝓛 (Fields.own_val (tt, tt) (mark_word ∷ [])))
  fields_made 𝓛 = makes_shadow 𝓛 (Fields.own_val (tt, tt) (mark_word ∷ []))
      (λ vss. (tt, ((λ uss. (tt, tt)), tt))) ((vstruct vnil ∷ [], tt), (refl, ((tt, (refl, tt)), tt)))

module _ {M : Type 1} {𝓤 : Ura M} {𝓛 : Logic 𝓤} {K : Type 0} {Γ : List (Item 𝓤)} {G : Goal 𝓤 𝓛.H} where
  pub ticket_made : K → (κ : NamedLft) (R : RattleType) (t : Taken R.Denot)
      → Step K 𝓛 (‵ ((Ticket κ R).own_val t (mark_word ∷ [])) ∷ Γ) G (‵ (holds_slot κ.lft R t.home t.rest t.part) ∷ Γ) G
  ticket_made k κ R t = step (λ s. use0 𝓛 (‵ ((Fields κ R).own_val (tt, tt) (mark_word ∷ []))) (fields_made κ R 𝓛) $ fjoin k $ s)

  pub ticket_had : K → (κ : NamedLft) (R : RattleType) (t : Taken R.Denot) (vs : List Val)
      → (vs ≡ mark_word ∷ [] → Seq K 𝓛 (‵ (holds_slot κ.lft R t.home t.rest t.part) ∷ Γ) G)
      → Seq K 𝓛 (‵ ((Ticket κ R).own_val t vs) ∷ Γ) G
  ticket_had t κ R c vs k = fsplit t $ fpick t (λ vss. fsplit t $ feq_l t (λ e. fsplit t $
      fpick t (λ uss. fsplit t $ feq_l t (λ mark.
      drop t $ drop t $ k (e ∙ (λ i. vstruct (of_list (mark i ++ [])) ∷ []))))))

  pub both_made : K → (κ : NamedLft) (R : RattleType) (c : Cells R.Denot) (t : Taken R.Denot)
      → Step K 𝓛 (‵ ((Both κ R).own_val (c, t) (pair_word c.first ∷ [])) ∷ Γ) G
      (‵ ((It κ R).own_val c (word c.first ∷ [])) ∷ ‵ ((Ticket κ R).own_val t (mark_word ∷ [])) ∷ Γ) G
  both_made k κ R c t = step (λ s. nothing k $ move k (2 ∷ 0 ∷ []) $ fjoin k $ move k (1 ∷ 0 ∷ []) $ fjoin k $
      feq_i k (List Val) (pair_word c.first ∷ []) (pair_word c.first ∷ []) refl $ fjoin k $
      let S = Declared.shape (tuple_type (It κ R ∷ Ticket κ R ∷ [])) in
      fpack k (Valss S.fields) (within S (c, (t, tt)) (pair_word c.first ∷ [])) (word c.first ∷ [], (mark_word ∷ [], tt)) $ s)
