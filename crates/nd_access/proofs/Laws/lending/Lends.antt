-- Of a value that holds cells all elements are lent, or one. Assumes `Logic`.
use denote.Follow.{follows_then}
use types.Follow.{takes_part}
use types.Through.{hands_through}
use Rattle.std.specs.Prelude.{false}
use Rattle.nd_access.specs.Cells.{CellsWhere, cells_where, holds_cells, known}
use Rattle.nd_access.proofs.Laws.lending.One.{cell_in, cell_out, others}
use Rattle.nd_access.proofs.Laws.lending.Where.{where_counted}
use Rattle.nd_access.proofs.Laws.lending.Steps
use Steps.{Array, Bool, Borrowed, Fml, GName, Incl, Lft, Lifetime, List, Logic, MutBor, MutRef, Ptr, RattleType, Room, SProp, SemTy, Share}
use Steps.{T, Ura, Val, at_once, await, block_ptr, by, done, drop, ent, ex, fbor, feq_i, fjoin, fjoin3, flft, fobs, follows, fsplit3}
use Steps.{get_or, group, later, length, mem, move, mut_vals, nth, open_ref, pick, pure_i, qed, refl, rewrite, sem, sep, set, shadow, show}
use Steps.{some, split, split3, subst, sym, updating, use1, use2, !, [], ‵, ℕ, ◌$◌, ◌∙◌, ◌∵◌, ◌∷◌, ◌≡◌, ◌⊛◌}

module _ {M : Type 1} {𝓤 : Ura M} (𝓛 : Logic 𝓤) (Self V : RattleType) (κ κ' : Lft) (inc : Incl κ κ') (q : Share) (b o : ℕ) (γ name : GName)
    (p : Ptr) (marks : List Bool) (x : Self.Denot) (items : List V.Denot) (with_items : List V.Denot → Self.Denot) (Rest : Fml)
    (out : ent 𝓤 (sem 𝓛 ((mem Self).own_at x b o)) (sep 𝓤 (sem 𝓛 (holds_cells κ' V name p marks items)) (sem 𝓛 Rest)))
    (back : (ws : List V.Denot)
    → ent 𝓤 (sep 𝓤 (sem 𝓛 (holds_cells κ' V name p marks ws)) (sem 𝓛 Rest)) (sem 𝓛 ((mem Self).own_at (with_items ws) b o)))
    (k : shadow (known V p marks items)) where
  open 𝓛 use {H, A}

  abbrev All : SemTy
  All = CellsWhere V p marks

  abbrev Inner : Fml
  Inner = fbor κ' (Borrowed All 0 0 name)

  abbrev Counted : List V.Denot → Type 0
  Counted ws = length ws ≡ length marks

  parts : ent 𝓤 (sem 𝓛 ((mem Self).own_at x b o)) (sep 𝓤 (A.obs name (All.coded.code items)) (sep 𝓤 (sem 𝓛 Inner) (sem 𝓛 Rest)))
  parts = qed 𝓛 (‵ ((mem Self).own_at x b o) ∷ []) ∵ use1 𝓛 (‵ (holds_cells κ' V name p marks items) ⊛ ‵ Rest) out $ split ! $
      fsplit3 ! $ drop ! $ done !

  again : (ws : List V.Denot) → Counted ws
      → ent 𝓤 (sep 𝓤 (A.obs name (All.coded.code ws)) (sep 𝓤 (sem 𝓛 Inner) (sem 𝓛 Rest))) (sem 𝓛 ((mem Self).own_at (with_items ws) b o))
  again ws counted = qed 𝓛 (‵ (fobs name (All.coded.code ws)) ∷ ‵ Inner ∷ ‵ Rest ∷ []) ∵ fjoin ! $
      pure_i ! (known V p marks ws) (tt, (tt, (tt, tt))) (k.0, (counted, subst (Room V) (k.1.0 ∙ sym counted) k.1.1)) $ fjoin ! $
      by ! (back ws)

  abbrev pub LentAll : GName → SProp 𝓤
  LentAll γ' = sep 𝓤 (sem 𝓛 (holds_cells κ V γ' p marks items)) (sep 𝓤 (A.lft κ q) (sem 𝓛 (follows Self (Array V 0) γ γ' with_items)))

  pub lends_all : ent 𝓤 (sep 𝓤 (A.obs γ (Self.coded.code x)) (sep 𝓤 (A.bor κ (Borrowed (mem Self) b o γ)) (A.lft κ q))) (H.⇛ (ex 𝓤 LentAll))
  lends_all = qed 𝓛 (‵ (fobs γ (Self.coded.code x)) ∷ ‵ (fbor κ (Borrowed (mem Self) b o γ)) ∷ ‵ (flft κ q) ∷ []) ∵ updating ! $ group ! 3 $
      use1 𝓛 (later (some (λ (γ' : GName). ‵ (fobs γ' (All.coded.code items)) ⊛ ‵ (fbor κ (Borrowed All 0 0 γ')) ⊛ ‵ (flft κ q)
      ⊛ ‵ (follows Self (Array V 0) γ γ' with_items))))
      (hands_through 𝓛 (mem Self) All with_items κ κ' inc b o 0 0 γ name (sem 𝓛 Rest) Counted (λ ws. where_counted 𝓛 V marks ws p) again
      q x items parts) $ await ! tt $ pick ! (λ γ'. split3 ! $ fjoin ! $
      pure_i ! (known V p marks items) (tt, (tt, (tt, tt))) k $ fjoin ! $ move ! (1 ∷ []) $ split ! $ at_once ! $
      show ! LentAll γ' $ move ! (2 ∷ 0 ∷ 1 ∷ []) $ done !)

  module _ (ℓ : Lifetime) (i : ℕ) (mine : T (get_or marks i false)) (hb ho : ℕ) (at : p ≡ block_ptr hb ho) (d : V.Denot) where
    abbrev pub one : GName → MutBor V.Denot
    one γ' = record { ref_ptr = (hb, nth (mem V).size ho i); ghost_name = γ'; now = get_or items i d }

    abbrev Left : Fml
    Left = others V i hb ho marks items

    back_one : (w : V.Denot)
        → ent 𝓤 (sep 𝓤 (sem 𝓛 ((mem V).own_at w hb (nth (mem V).size ho i))) (sem 𝓛 Left)) (sem 𝓛 (All.own_at (set items i w) 0 0))
    back_one w = qed 𝓛 (‵ ((mem V).own_at w hb (nth (mem V).size ho i)) ∷ ‵ Left ∷ []) ∵
        use2 𝓛 (‵ (cells_where V (block_ptr hb ho) marks (set items i w))) (cell_in 𝓛 V hb i marks items w ho mine k.1.0) $
        rewrite ! 0 (λ (z : Ptr). ‵ (cells_where V z marks (set items i w))) (sym at) refl $ done !

    abbrev pub LentOne : GName → SProp 𝓤
    LentOne γ' = sep 𝓤 (sem 𝓛 ((MutRef ℓ κ V).own_val (one γ') (mut_vals (one γ'))))
        (sep 𝓤 (A.lft κ q) (sem 𝓛 (follows Self V γ γ' (λ w. with_items (set items i w)))))

    pub lends_one : ent 𝓤 (sep 𝓤 (A.obs γ (Self.coded.code x)) (sep 𝓤 (A.bor κ (Borrowed (mem Self) b o γ)) (A.lft κ q)))
        (H.⇛ (ex 𝓤 LentOne))
    lends_one = let item : V.Denot = get_or items i d in let spot : ℕ = nth (mem V).size ho i in
        qed 𝓛 (‵ (fobs γ (Self.coded.code x)) ∷ ‵ (fbor κ (Borrowed (mem Self) b o γ)) ∷ ‵ (flft κ q) ∷ []) ∵ updating ! $ group ! 3 $
        use1 𝓛 (later (some (λ (γ' : GName). ‵ (holds_cells κ V γ' p marks items) ⊛ ‵ (flft κ q)
        ⊛ ‵ (follows Self (Array V 0) γ γ' with_items)))) lends_all $ await ! tt $ pick ! (λ γ'. split3 ! $ fsplit3 ! $ drop ! $
        open_ref ! tt All {x = items} {b = 0} {o = 0} $
        rewrite ! 0 (λ (z : Ptr). ‵ (cells_where V z marks items)) at refl $
        use1 𝓛 (‵ ((mem V).own_at item hb spot) ⊛ ‵ Left) (cell_out 𝓛 V hb i marks items d ho mine) $ split ! $
        move ! (2 ∷ 3 ∷ 4 ∷ 0 ∷ 1 ∷ []) $ group ! 5 $
        use1 𝓛 (later (some (λ (γ'' : GName). ‵ (fobs γ'' (V.coded.code item)) ⊛ ‵ (fbor κ (Borrowed (mem V) hb spot γ'')) ⊛ ‵
        (flft κ q) ⊛ ‵ (follows (Array V 0) V γ' γ'' (set items i)))))
        (takes_part 𝓛 All (mem V) (set items i) κ q 0 0 hb spot γ' (sem 𝓛 Left) back_one (All.coded.code items)
        (All.coded.code items) item) $ await ! tt $ pick ! (λ γ''. split3 ! $ move ! (2 ∷ []) $ split ! $ move ! (4 ∷ 1 ∷ []) $
        use2 𝓛 (‵ (follows Self V γ γ'' (λ w. with_items (set items i w))))
        (follows_then 𝓛 Self (Array V 0) V with_items (set items i) γ γ' γ'') $ move ! (2 ∷ 3 ∷ []) $
        feq_i ! (List Val) (mut_vals (one γ'')) (mut_vals (one γ'')) refl $ fjoin3 ! $ at_once ! $
        show ! LentOne γ'' $ move ! (0 ∷ 2 ∷ 1 ∷ []) $ done !))
