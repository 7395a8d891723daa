-- A part is taken of cells, and put back, after which they have their name again. Assumes `Logic`.
use base.Logic.{mono_l, upd_frame, upd_i, upd_mono, upd_trans}
use base.Stored.{Gv, gnum, num}
use types.Merge.{bor_combine}
use types.Tokens.{name_agree, name_new, name_set, res_agree}
use Rattle.nd_access.specs.Cells.{CellsWhere, are_within, cells_where, chosen_of, holds_cells, known, without}
use Rattle.nd_access.specs.Slot.{side, slot}
use Rattle.nd_access.proofs.Laws.lending.Where.{where_counted, where_cut, where_joined, within-length, without-length}
use Rattle.nd_access.proofs.Laws.lending.Steps
use Steps.{Bool, Borrowed as Body, Fml, GName, Lft, List, Logic, Ptr, RattleType, Room, SProp, SemTy, Share, T, Ura, ap, arith, assume}
use Steps.{at_once, await, bor_open, by, coded_list, done, drop, emp, ent, ex, false, fauth, fbor, fdead, feq, feq_i, feq_l, fex, fjoin}
use Steps.{flft, fobs, fpack, fpick, fres, fsep, fseps, fsplit, fsplit3, ftrue, fupd, fwand, given, group, id⊢, join, keep, later, learn}
use Steps.{length, move, nothing, obor_alter, open_ref, pure_i, pure_l, qed, raw, refl, rewrite, sem, sep, show, split, split3, subst, suc}
use Steps.{sym, true, upd, updating, use0, use1, use2, use3, via, zero, !, [], ‵, ◌$◌, ◌∙◌, ◌∵◌, ◌∷◌, ◌≡◌, ◌⊛◌}

chosen_self : {A : Type 0} (chosen : List Bool) (z : List A) → length z ≡ length chosen → z ≡ chosen_of chosen z z
chosen_self [] [] e = refl
chosen_self [] (x ∷ z) e = absurd (let never : suc (length z) ≡ zero = e in let no : ⊥ = omega arith in no)
chosen_self (c ∷ chosen) [] e = absurd (let never : zero ≡ suc (length chosen) = e in let no : ⊥ = omega arith in no)
chosen_self (true ∷ chosen) (x ∷ z) e = ap (λ (t : List _). x ∷ t) (chosen_self chosen z (omega arith))
chosen_self (false ∷ chosen) (x ∷ z) e = ap (λ (t : List _). x ∷ t) (chosen_self chosen z (omega arith))

module _ {M : Type 1} {𝓤 : Ura M} (𝓛 : Logic 𝓤) where
  open 𝓛 use {H, A}

  -- a name is set on the way back
  sets_then : (γ : GName) (u v w : Gv) (R G : SProp 𝓤) → ent 𝓤 (sep 𝓤 (sep 𝓤 (A.obs γ w) (A.auth γ w)) R) (upd 𝓤 G)
      → ent 𝓤 (sep 𝓤 (sep 𝓤 (A.obs γ u) (A.auth γ v)) R) (upd 𝓤 G)
  sets_then γ u v w R G h =
      let Set : SProp 𝓤 = sep 𝓤 (A.obs γ w) (A.auth γ w) in
      via 𝓤 (sep 𝓤 (upd 𝓤 Set) R) (mono_l 𝓤 R (𝓛.names.name_set_upd γ u v w))
      (via 𝓤 (upd 𝓤 (sep 𝓤 Set R)) (upd_frame 𝓤 Set R) (via 𝓤 (upd 𝓤 (upd 𝓤 G)) (upd_mono 𝓤 h) (upd_trans 𝓤 G)))

module _ {M : Type 1} {𝓤 : Ura M} (𝓛 : Logic 𝓤) (V : RattleType) (κ : Lft) (q : Share) (p : Ptr) (γ : GName) (chosen marks : List Bool)
    (within : T (are_within chosen marks)) where
  open 𝓛 use {H, A}

  abbrev All : SemTy
  All = CellsWhere V p marks

  abbrev One : SemTy
  One = CellsWhere V p chosen

  abbrev Other : SemTy
  Other = CellsWhere V p (without chosen marks)

  abbrev code : List V.Denot → Gv
  code = (coded_list V.coded).code

  abbrev Whole : Fml
  Whole = Body All 0 0 γ

  whole : (w : List V.Denot) → ent 𝓤 (sep 𝓤 (sem 𝓛 (All.own_at w 0 0)) (A.auth γ (code w))) (sem 𝓛 Whole)
  whole w = qed 𝓛 (‵ (All.own_at w 0 0) ∷ ‵ (fauth γ (code w)) ∷ []) ∵ fjoin ! $
      fpack ! (List V.Denot) (λ z. fsep (All.own_at z 0 0) (fauth γ (code z))) w $ done !

  module _ (γ₁ γ₂ : GName) where
    abbrev B₁ : Fml
    B₁ = Body One 0 0 γ₁

    abbrev B₂ : Fml
    B₂ = Body Other 0 0 γ₂

    abbrev S : Fml
    S = slot V γ γ₁ γ₂ chosen

    settles : (v xs ys : List V.Denot) (s : Bool)
        → ent 𝓤 (sep 𝓤 (sem 𝓛 (side V γ γ₁ γ₂ chosen v s)) (sep 𝓤 (A.auth γ (code v))
        (sep 𝓤 (sem 𝓛 (All.own_at (chosen_of chosen xs ys) 0 0)) (sep 𝓤 (A.auth γ₂ (code ys)) (A.auth γ₁ (code xs))))))
        (upd 𝓤 (sem 𝓛 Whole))
    settles v xs ys true =
        let w : List V.Denot = chosen_of chosen xs ys in
        qed 𝓛 (‵ (fobs γ (code v)) ∷ ‵ (fauth γ (code v)) ∷ ‵ (All.own_at w 0 0) ∷ ‵ (fauth γ₂ (code ys)) ∷ ‵ (fauth γ₁ (code xs)) ∷ [])
        {P = upd 𝓤 (sem 𝓛 Whole)} (
        keep ! (0 ∷ 1 ∷ 2 ∷ []) $ join ! $
        by ! (sets_then 𝓛 γ (code v) (code v) (code w) (sem 𝓛 (All.own_at w 0 0)) (sem 𝓛 Whole)
        (via 𝓤 (sem 𝓛 Whole) (qed 𝓛 ((‵ (fobs γ (code w)) ⊛ ‵ (fauth γ (code w))) ∷ ‵ (All.own_at w 0 0) ∷ []) ∵ split ! $ drop ! $
        move ! (1 ∷ 0 ∷ []) $ by ! (whole w)) (upd_i 𝓤 (sem 𝓛 Whole)))))
    settles v xs ys false =
        let w : List V.Denot = chosen_of chosen xs ys in
        via 𝓤 (sem 𝓛 Whole) (
        qed 𝓛 (‵ (side V γ γ₁ γ₂ chosen v false) ∷ ‵ (fauth γ (code v)) ∷ ‵ (All.own_at w 0 0) ∷ ‵ (fauth γ₂ (code ys)) ∷
        ‵ (fauth γ₁ (code xs)) ∷ []) ∵
        fpick ! (λ ws. fsplit3 ! $ feq_l ! (λ e. move ! (0 ∷ 5 ∷ []) $ res_agree ! (coded_list V.coded) (λ e₁.
        move ! (2 ∷ 5 ∷ []) $ res_agree ! (coded_list V.coded) (λ e₂. keep ! (5 ∷ 4 ∷ []) $
        rewrite ! 1 (λ (u : List V.Denot). ‵ (fauth γ (code u))) (e ∙ (λ i. chosen_of chosen (e₁ i) (e₂ i))) refl $
        by ! (whole w)))))) (upd_i 𝓤 (sem 𝓛 Whole))

    abbrev Way : Fml
    Way = fwand (fsep (fdead κ) (fseps (B₁ ∷ B₂ ∷ S ∷ []))) (fupd Whole)

    way : ent 𝓤 (emp 𝓤) (sem 𝓛 Way)
    unfolding fseps
    way = qed 𝓛 [] ∵ assume ! (‵ (fsep (fdead κ) (fsep B₁ (fsep B₂ (fsep S ftrue))))) $ fsplit ! $ drop ! $ fsplit3 ! $
        fpick ! (λ xs. fsplit ! $ move ! (2 ∷ []) $ fpick ! (λ ys. fsplit ! $ move ! (2 ∷ 0 ∷ []) $
        use2 𝓛 (‵ (All.own_at (chosen_of chosen xs ys) 0 0)) (where_joined 𝓛 V chosen marks xs ys p within) $
        -- [the cells; the rest's name; the part's name; the slot]
        move ! (3 ∷ []) $ fsplit ! $ move ! (1 ∷ []) $ drop ! $ fpick ! (λ v. fsplit ! $ move ! (1 ∷ []) $ fpick ! (λ s.
        by ! (settles v xs ys s)))))

    -- the way back of cells that are whole again: the two names are set to what they were last
    abbrev Home : Fml
    Home = fsep (fsep B₁ B₂) S

    homed : (z : List V.Denot) → length z ≡ length marks
        → ent 𝓤 (sep 𝓤 (sep 𝓤 (A.obs γ₂ (code z)) (A.auth γ₂ (code z))) (sep 𝓤 (sem 𝓛 (One.own_at z 0 0))
        (sep 𝓤 (sem 𝓛 (Other.own_at z 0 0)) (sep 𝓤 (A.auth γ (code z)) (sep 𝓤 (A.obs γ₁ (code z)) (A.auth γ₁ (code z))))))) (sem 𝓛 Home)
    homed z many =
        let same : z ≡ chosen_of chosen z z = chosen_self chosen z (many ∙ sym (within-length chosen marks within)) in
        let Said : List V.Denot × List V.Denot → Fml = λ ws. fsep (feq (List V.Denot) z (chosen_of chosen ws.0 ws.1))
        (fsep (fres γ₁ (code ws.0)) (fres γ₂ (code ws.1))) in
        qed 𝓛 ((‵ (fobs γ₂ (code z)) ⊛ ‵ (fauth γ₂ (code z))) ∷ ‵ (One.own_at z 0 0) ∷ ‵ (Other.own_at z 0 0) ∷ ‵ (fauth γ (code z)) ∷
        ‵ (fobs γ₁ (code z)) ∷ ‵ (fauth γ₁ (code z)) ∷ []) ∵ split ! $
        use1 𝓛 (‵ (fres γ₂ (code z))) (𝓛.names.obs-res γ₂ (code z)) $ move ! (5 ∷ []) $
        use1 𝓛 (‵ (fres γ₁ (code z))) (𝓛.names.obs-res γ₁ (code z)) $ move ! (0 ∷ 1 ∷ []) $ fjoin ! $
        feq_i ! (List V.Denot) z (chosen_of chosen z z) same $ fjoin ! $ fpack ! (List V.Denot × List V.Denot) Said (z, z) $
        fpack ! Bool (side V γ γ₁ γ₂ chosen z) false $ move ! (4 ∷ 0 ∷ []) $ fjoin ! $
        fpack ! (List V.Denot) (λ v. fsep (fauth γ (code v)) (fex Bool (side V γ γ₁ γ₂ chosen v))) z $
        -- [the slot; the rest's name; the part's cells; the rest's; the part's name]
        move ! (2 ∷ 4 ∷ []) $ fjoin ! $ fpack ! (List V.Denot) (λ y. fsep (One.own_at y 0 0) (fauth γ₁ (code y))) z $
        move ! (3 ∷ 2 ∷ []) $ fjoin ! $ fpack ! (List V.Denot) (λ y. fsep (Other.own_at y 0 0) (fauth γ₂ (code y))) z $
        move ! (1 ∷ 0 ∷ []) $ fjoin ! $ fjoin ! $ done !

    abbrev Way₂ : Fml
    Way₂ = fwand (fsep (fdead κ) (fseps (Whole ∷ []))) (fupd Home)

    way₂ : (u₁ v₁ u₂ v₂ : Gv) → ent 𝓤 (sep 𝓤 (A.obs γ₁ u₁) (sep 𝓤 (A.auth γ₁ v₁) (sep 𝓤 (A.obs γ₂ u₂) (A.auth γ₂ v₂)))) (sem 𝓛 Way₂)
    unfolding fseps
    way₂ u₁ v₁ u₂ v₂ = qed 𝓛 (‵ (fobs γ₁ u₁) ∷ ‵ (fauth γ₁ v₁) ∷ ‵ (fobs γ₂ u₂) ∷ ‵ (fauth γ₂ v₂) ∷ []) ∵
        assume ! (‵ (fsep (fdead κ) (fsep Whole ftrue))) $ fsplit3 ! $ drop ! $ fpick ! (λ z. fsplit ! $
        use1 𝓛 (given (length z ≡ length marks) (‵ (cells_where V p marks z))) (where_counted 𝓛 V marks z p) $ learn ! (λ many.
        use1 𝓛 (‵ (One.own_at z 0 0) ⊛ ‵ (Other.own_at z 0 0)) (where_cut 𝓛 V chosen marks z p within) $ split ! $
        -- [the part's cells; the rest's; the name; true; the two names]
        let Rest : SProp 𝓤 = sep 𝓤 (sem 𝓛 (One.own_at z 0 0)) (sep 𝓤 (sem 𝓛 (Other.own_at z 0 0)) (A.auth γ (code z))) in
        keep ! (4 ∷ 5 ∷ 6 ∷ 7 ∷ 0 ∷ 1 ∷ 2 ∷ []) $ join ! $
        by ! (sets_then 𝓛 γ₁ u₁ v₁ (code z) (sep 𝓤 (A.obs γ₂ u₂) (sep 𝓤 (A.auth γ₂ v₂) Rest)) (sem 𝓛 Home)
        (qed 𝓛 ((‵ (fobs γ₁ (code z)) ⊛ ‵ (fauth γ₁ (code z))) ∷ ‵ (fobs γ₂ u₂) ∷ ‵ (fauth γ₂ v₂) ∷ ‵ (One.own_at z 0 0) ∷
        ‵ (Other.own_at z 0 0) ∷ ‵ (fauth γ (code z)) ∷ []) {P = upd 𝓤 (sem 𝓛 Home)} (
        split ! $ move ! (2 ∷ 3 ∷ 4 ∷ 5 ∷ 6 ∷ 0 ∷ 1 ∷ []) $ join ! $
        by ! (sets_then 𝓛 γ₂ u₂ v₂ (code z) (sep 𝓤 (sem 𝓛 (One.own_at z 0 0)) (sep 𝓤 (sem 𝓛 (Other.own_at z 0 0))
        (sep 𝓤 (A.auth γ (code z)) (sep 𝓤 (A.obs γ₁ (code z)) (A.auth γ₁ (code z)))))) (sem 𝓛 Home)
        (via 𝓤 (sem 𝓛 Home) (homed z many) (upd_i 𝓤 (sem 𝓛 Home)))))))))

    -- where both names can still be set, the home's can be too
    open_side : (v w : List V.Denot) (s : Bool)
        → ent 𝓤 (sep 𝓤 (sem 𝓛 (side V γ γ₁ γ₂ chosen v s)) (sep 𝓤 (A.obs γ₁ (code w)) (A.auth γ₁ (code w))))
        (H.⇛ (sep 𝓤 (A.obs γ (code v)) (sep 𝓤 (A.obs γ₁ (code w)) (A.auth γ₁ (code w)))))
    open_side v w true = qed 𝓛 (‵ (fobs γ (code v)) ∷ ‵ (fobs γ₁ (code w)) ∷ ‵ (fauth γ₁ (code w)) ∷ []) ∵ updating ! $ at_once ! $ done !
    open_side v w false = qed 𝓛 (‵ (side V γ γ₁ γ₂ chosen v false) ∷ ‵ (fobs γ₁ (code w)) ∷ ‵ (fauth γ₁ (code w)) ∷ []) ∵ updating ! $
        fpick ! (λ ws. fsplit3 ! $ drop ! $ move ! (2 ∷ 3 ∷ 0 ∷ []) $ name_set ! tt (gnum 0) $ move ! (2 ∷ 1 ∷ []) $
        use2 𝓛 (given (code ws.0 ≡ gnum 0) (‵ (fres γ₁ (code ws.0)) ⊛ ‵ (fauth γ₁ (gnum 0)))) (𝓛.names.res_agree γ₁ (code ws.0) (gnum 0)) $
        learn ! (λ e₀. split ! $ move ! (2 ∷ 1 ∷ []) $ name_set ! tt (gnum 1) $ move ! (2 ∷ 1 ∷ []) $
        use2 𝓛 (given (code ws.0 ≡ gnum 1) (‵ (fres γ₁ (code ws.0)) ⊛ ‵ (fauth γ₁ (gnum 1)))) (𝓛.names.res_agree γ₁ (code ws.0) (gnum 1)) $
        learn ! (λ e₁. absurd (let never : zero ≡ suc zero = ap num (sym e₀ ∙ e₁) in let no : ⊥ = omega arith in no))))

    abbrev pub Back : List V.Denot → SProp 𝓤
    Back zs = sep 𝓤 (sem 𝓛 (holds_cells κ V γ p marks zs)) (A.lft κ q)

    pub merged : (xs ys : List V.Denot)
        → ent 𝓤 (sep 𝓤 (sem 𝓛 (holds_cells κ V γ₁ p chosen xs)) (sep 𝓤 (sem 𝓛 (holds_cells κ V γ₂ p (without chosen marks) ys))
        (sep 𝓤 (A.bor κ S) (A.lft κ q)))) (H.⇛ (Back (chosen_of chosen xs ys)))
    unfolding fseps
    merged xs ys =
        let w : List V.Denot = chosen_of chosen xs ys in
        qed 𝓛 (‵ (holds_cells κ V γ₁ p chosen xs) ∷ ‵ (holds_cells κ V γ₂ p (without chosen marks) ys) ∷ ‵ (fbor κ S) ∷ ‵ (flft κ q) ∷ []) ∵
        updating ! $ fsplit3 ! $ pure_l ! (known V p chosen xs) (λ k₁. move ! (2 ∷ []) $ fsplit3 ! $
        pure_l ! (known V p (without chosen marks) ys) (λ k₂.
        -- [the rest's name, its borrow; the part's name, its borrow; the slot; the token]
        move ! (3 ∷ 1 ∷ 5 ∷ []) $ use3 𝓛 (later (‵ (fbor κ (fsep B₁ B₂)) ⊛ ‵ (flft κ q))) (bor_combine 𝓛 κ q B₁ B₂) $ await ! tt $ split ! $
        move ! (0 ∷ 4 ∷ 1 ∷ []) $ use3 𝓛 (later (‵ (fbor κ Home) ⊛ ‵ (flft κ q))) (bor_combine 𝓛 κ q (fsep B₁ B₂) S) $ await ! tt $
        split ! $ bor_open ! tt $ move ! (1 ∷ []) $ fsplit ! $ fsplit ! $
        -- [the part's; the rest's; the slot; the open borrow; the rest's name; the part's name]
        fpick ! (λ x. fsplit ! $ move ! (6 ∷ 1 ∷ []) $ name_agree ! (coded_list V.coded) (λ e₁.
        -- [the part's name, both; its cells; the rest's; the slot; the open borrow; the rest's name]
        move ! (3 ∷ []) $ fpick ! (λ y. fsplit ! $ move ! (7 ∷ 1 ∷ []) $ name_agree ! (coded_list V.coded) (λ e₂.
        -- [the rest's name, both; its cells; the part's name, both; its cells; the slot; the open borrow]
        move ! (6 ∷ []) $ fpick ! (λ v. fsplit ! $ move ! (1 ∷ []) $ fpick ! (λ s.
        -- [the side; the name; the rest's name, both; its cells; the part's name, both; its cells; the open borrow]
        rewrite ! 6 (λ (u : List V.Denot). ‵ (fauth γ₁ (code u))) (sym e₁) refl $
        move ! (0 ∷ 5 ∷ 6 ∷ []) $ use3 𝓛 (later (‵ (fobs γ (code v)) ⊛ ‵ (fobs γ₁ (code xs)) ⊛ ‵ (fauth γ₁ (code xs)))) (open_side v xs s) $
        await ! tt $ split3 ! $
        -- [obs of the name; the part's name, both; auth of the name; the rest's name, both; its cells; the part's cells; the open borrow]
        move ! (0 ∷ 3 ∷ []) $ name_set ! tt (code w) $
        move ! (7 ∷ 6 ∷ []) $ rewrite ! 0 (λ (u : List V.Denot). ‵ (One.own_at u 0 0)) (sym e₁) refl $
        rewrite ! 1 (λ (u : List V.Denot). ‵ (Other.own_at u 0 0)) (sym e₂) refl $
        use2 𝓛 (‵ (All.own_at w 0 0)) (where_joined 𝓛 V chosen marks xs ys p within) $
        use1 𝓛 (given (length w ≡ length marks) (‵ (cells_where V p marks w))) (where_counted 𝓛 V marks w p) $ learn ! (λ many.
        -- [the cells; the name, both; the part's name, both; the rest's name, both; the open borrow]
        move ! (0 ∷ 2 ∷ []) $ use2 𝓛 (‵ Whole) (whole w) $ move ! (2 ∷ 3 ∷ 4 ∷ 5 ∷ []) $ group ! 4 $
        use1 𝓛 (‵ Way₂) (way₂ (code xs) (code xs) (code ys) (code y)) $
        -- [the way; the whole; the name; the open borrow]
        nothing ! $ move ! (2 ∷ 0 ∷ []) $ fjoin ! $ move ! (3 ∷ 0 ∷ 1 ∷ []) $ obor_alter ! tt (Whole ∷ []) $
        use1 𝓛 (‵ (fbor κ Whole) ⊛ raw (emp 𝓤)) (id⊢ 𝓤 _) $ split ! $
        -- [the borrow; nothing; the token; the name]
        at_once ! $ keep ! (3 ∷ 0 ∷ 2 ∷ []) $ fjoin ! $
        pure_i ! (known V p marks w) (tt, (tt, (tt, tt)))
        (k₁.0, (many, subst (Room V) (k₁.1.0 ∙ within-length chosen marks within ∙ sym many) k₁.1.1)) $ fjoin ! $ done !)))))))))

  abbrev pub Parts : GName × GName → List V.Denot → SProp 𝓤
  Parts γs items = sep 𝓤 (sem 𝓛 (holds_cells κ V γs.0 p chosen items)) (sep 𝓤 (sem 𝓛 (holds_cells κ V γs.1 p (without chosen marks) items))
      (sep 𝓤 (A.bor κ (slot V γ γs.0 γs.1 chosen)) (A.lft κ q)))

  pub lent : (items : List V.Denot)
      → ent 𝓤 (sep 𝓤 (sem 𝓛 (holds_cells κ V γ p marks items)) (A.lft κ q)) (H.⇛ (ex 𝓤 (λ (γs : GName × GName). Parts γs items)))
  unfolding fseps
  lent items = qed 𝓛 (‵ (holds_cells κ V γ p marks items) ∷ ‵ (flft κ q) ∷ []) ∵ updating ! $ fsplit3 ! $
      pure_l ! (known V p marks items) (λ k. open_ref ! tt All {x = items} {b = 0} {o = 0} $
      use1 𝓛 (‵ (One.own_at items 0 0) ⊛ ‵ (Other.own_at items 0 0)) (where_cut 𝓛 V chosen marks items p within) $ split ! $
      -- [the part; the rest; the open borrow; the name, both]
      name_new ! tt (code items) (λ γ₁. name_new ! tt (code items) (λ γ₂.
      -- [the rest's name, both; the part's name, both; the part; the rest; the open borrow; the name, both]
      move ! (4 ∷ 3 ∷ []) $ fjoin ! $ fpack ! (List V.Denot) (λ y. fsep (One.own_at y 0 0) (fauth γ₁ (code y))) items $
      move ! (4 ∷ 2 ∷ []) $ fjoin ! $ fpack ! (List V.Denot) (λ y. fsep (Other.own_at y 0 0) (fauth γ₂ (code y))) items $
      -- [the rest's; the part's; the rest's name; the part's name; the open borrow; the name, both]
      move ! (5 ∷ []) $ fpack ! Bool (side V γ γ₁ γ₂ chosen items) true $ move ! (6 ∷ 0 ∷ []) $ fjoin ! $
      fpack ! (List V.Denot) (λ v. fsep (fauth γ (code v)) (fex Bool (side V γ γ₁ γ₂ chosen v))) items $
      use0 𝓛 (‵ (Way γ₁ γ₂)) (way γ₁ γ₂) $ nothing ! $
      -- [true; the way; the slot; the rest's; the part's; the rest's name; the part's name; the open borrow]
      move ! (2 ∷ 0 ∷ []) $ fjoin ! $ move ! (2 ∷ 0 ∷ []) $ fjoin ! $ move ! (2 ∷ 0 ∷ []) $ fjoin ! $
      move ! (4 ∷ 0 ∷ 1 ∷ []) $ obor_alter ! tt (B₁ γ₁ γ₂ ∷ B₂ γ₁ γ₂ ∷ S γ₁ γ₂ ∷ []) $
      use1 𝓛 (‵ (fbor κ (B₁ γ₁ γ₂)) ⊛ ‵ (fbor κ (B₂ γ₁ γ₂)) ⊛ ‵ (fbor κ (S γ₁ γ₂)) ⊛ raw (emp 𝓤)) (id⊢ 𝓤 _) $
      split3 ! $ move ! (2 ∷ []) $ split ! $
      -- [the slot; nothing; the part's; the rest's; the token; the rest's name; the part's name]
      at_once ! $ show ! (λ (γs : GName × GName). Parts γs items) (γ₁, γ₂) $ keep ! (6 ∷ 2 ∷ 5 ∷ 3 ∷ 0 ∷ 4 ∷ []) $ fjoin ! $
      pure_i ! (known V p chosen items) (tt, (tt, (tt, tt))) (k.0, (k.1.0 ∙ sym (within-length chosen marks within), k.1.1)) $ fjoin ! $
      move ! (1 ∷ 2 ∷ []) $ fjoin ! $
      pure_i ! (known V p (without chosen marks) items) (tt, (tt, (tt, tt)))
      (k.0, (k.1.0 ∙ sym (without-length chosen marks within), k.1.1)) $ fjoin ! $ move ! (1 ∷ 0 ∷ 2 ∷ 3 ∷ []) $ done !)))
