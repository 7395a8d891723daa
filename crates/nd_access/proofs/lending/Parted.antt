-- The right to some elements is cut in two: those that are chosen, and the others. Assumes `Logic`.
use types.Follow.{takes_two}
use Rattle.nd_access.specs.Cells.{CellsWhere, are_within, chosen_of, holds_cells, known, without}
use Rattle.nd_access.proofs.Laws.lending.Where.{where_cut, where_joined, within-length, without-length}
use Rattle.nd_access.proofs.Laws.lending.Steps
use Steps.{Array, Bool, Borrowed, GName, Lft, List, Logic, Ptr, RattleType, SProp, SemTy, Share, T, Ura, at_once, await, both_by, by, done}
use Steps.{emp, ent, ex, fbor, fjoin, flft, fobs, follows_both, fsplit3, group, keep, later, move, nothing, open_ref, pick, pure_i, pure_l}
use Steps.{qed, raw, sem, sep, show, some, split, split3, sym, updating, use1, !, [], ‵, ◌$◌, ◌∙◌, ◌∵◌, ◌∷◌, ◌⊛◌}

module _ {M : Type 1} {𝓤 : Ura M} (𝓛 : Logic 𝓤) (V : RattleType) (κ : Lft) (q : Share) (p : Ptr) (γ : GName) (chosen marks : List Bool)
    (items : List V.Denot)
    (within : T (are_within chosen marks)) where
  open 𝓛 use {H, A}

  abbrev All : SemTy
  All = CellsWhere V p marks

  abbrev One : SemTy
  One = CellsWhere V p chosen

  abbrev Other : SemTy
  Other = CellsWhere V p (without chosen marks)

  back : (xs ys : List V.Denot)
      → ent 𝓤 (sep 𝓤 (sem 𝓛 (One.own_at xs 0 0)) (sep 𝓤 (sem 𝓛 (Other.own_at ys 0 0)) (emp 𝓤)))
      (sem 𝓛 (All.own_at (chosen_of chosen xs ys) 0 0))
  back xs ys = qed 𝓛 (‵ (One.own_at xs 0 0) ∷ ‵ (Other.own_at ys 0 0) ∷ raw (emp 𝓤) ∷ []) ∵ keep ! (0 ∷ 1 ∷ []) $
      by ! (where_joined 𝓛 V chosen marks xs ys p within)

  abbrev pub Parts : GName × GName → SProp 𝓤
  Parts γs = sep 𝓤 (sem 𝓛 (holds_cells κ V γs.0 p chosen items)) (sep 𝓤 (sem 𝓛 (holds_cells κ V γs.1 p (without chosen marks) items))
      (sep 𝓤 (A.lft κ q) (sem 𝓛 (follows_both (Array V 0) (Array V 0) (Array V 0) γ γs.0 γs.1 (chosen_of chosen)))))

  pub parted : ent 𝓤 (sep 𝓤 (sem 𝓛 (holds_cells κ V γ p marks items)) (A.lft κ q)) (H.⇛ (ex 𝓤 Parts))
  unfolding both_by
  parted = qed 𝓛 (‵ (holds_cells κ V γ p marks items) ∷ ‵ (flft κ q) ∷ []) ∵ updating ! $ fsplit3 ! $ pure_l ! (known V p marks items) (λ k.
      open_ref ! tt All {x = items} {b = 0} {o = 0} $
      use1 𝓛 (‵ (One.own_at items 0 0) ⊛ ‵ (Other.own_at items 0 0)) (where_cut 𝓛 V chosen marks items p within) $ split ! $ nothing ! $
      move ! (3 ∷ 4 ∷ 5 ∷ 1 ∷ 2 ∷ 0 ∷ []) $ group ! 6 $
      use1 𝓛 (later (some (λ (γs : GName × GName). (‵ (fobs γs.0 (One.coded.code items)) ⊛ ‵ (fbor κ (Borrowed One 0 0 γs.0))) ⊛
      (‵ (fobs γs.1 (Other.coded.code items)) ⊛ ‵ (fbor κ (Borrowed Other 0 0 γs.1)))
      ⊛ ‵ (flft κ q) ⊛ ‵ (follows_both (Array V 0) (Array V 0) (Array V 0) γ γs.0 γs.1 (chosen_of chosen)))))
      (takes_two 𝓛 All One Other (chosen_of chosen) κ q 0 0 0 0 0 0 γ (emp 𝓤) back (All.coded.code items)
      (All.coded.code items) items items) $ await ! tt $
      pick ! (λ γs. split3 ! $ split ! $ fjoin ! $
      pure_i ! (known V p chosen items) (tt, (tt, (tt, tt))) (k.0, (k.1.0 ∙ sym (within-length chosen marks within), k.1.1)) $ fjoin ! $
      move ! (1 ∷ []) $ split ! $ fjoin ! $
      pure_i ! (known V p (without chosen marks) items) (tt, (tt, (tt, tt)))
      (k.0, (k.1.0 ∙ sym (without-length chosen marks within), k.1.1)) $ fjoin ! $
      move ! (2 ∷ []) $ split ! $ at_once ! $ show ! Parts γs $ keep ! (3 ∷ 2 ∷ 0 ∷ 1 ∷ []) $ done !))
