-- Of a value that holds cells a stretch is lent as a slice. Assumes `Logic`.
use denote.Follow.{follows_then}
use denote.FollowSlice.{slice_of}
use types.Follow.{takes_part}
use Rattle.nd_access.specs.Cells.{CellsWhere, are_within, cells_where, holds_cells, known, span_of, without, written_at}
use Rattle.nd_access.proofs.Laws.lending.Lends.{lends_all}
use Rattle.nd_access.proofs.lending.Stretch.{stretch_out}
use Rattle.nd_access.proofs.lending.Taken.{back as put_in, row, row_room}
use Rattle.nd_access.proofs.Laws.lending.Steps
use Steps.{Arr, Array, Bool, Borrowed, Fml, GName, Incl, Lft, Lifetime, List, Logic, MutBor, MutSlice, Ptr, RattleType, SProp, SemTy}
use Steps.{Share, T, Ura, at_once, await, block_ptr, by, cells, drop, ent, ex, fbor, feq_i, fjoin, flft, fobs, follows, fsplit3, group}
use Steps.{later, length, mem, move, nothing, nth, open_ref, pick, qed, refl, rewrite, sem, sep, shadow, show, slice_val, some, split}
use Steps.{done, split3, sym, updating, use1, use2, !, [], ‵, ℕ, ◌$◌, ◌+◌, ◌∵◌, ◌∷◌, ◌≡◌, ◌≤◌, ◌⊛◌}

module _ {M : Type 1} {𝓤 : Ura M} (𝓛 : Logic 𝓤) (Self V : RattleType) (κ κ' : Lft) (inc : Incl κ κ') (q : Share) (b o : ℕ) (γ name : GName)
    (p : Ptr) (marks : List Bool) (x : Self.Denot) (items : List V.Denot) (with_items : List V.Denot → Self.Denot) (Rest : Fml)
    (out : ent 𝓤 (sem 𝓛 ((mem Self).own_at x b o)) (sep 𝓤 (sem 𝓛 (holds_cells κ' V name p marks items)) (sem 𝓛 Rest)))
    (back : (ws : List V.Denot)
    → ent 𝓤 (sep 𝓤 (sem 𝓛 (holds_cells κ' V name p marks ws)) (sem 𝓛 Rest)) (sem 𝓛 ((mem Self).own_at (with_items ws) b o)))
    (k : shadow (known V p marks items)) (ℓ : Lifetime) (start len hb ho : ℕ) (at : p ≡ block_ptr hb ho)
    (within : T (are_within (span_of start len marks) marks)) (fits : start + len ≤ length marks) where
  open 𝓛 use {H, A}

  abbrev All : SemTy
  All = CellsWhere V p marks

  abbrev these : List V.Denot
  these = row 𝓛 V ℓ κ q p name marks items k start len hb ho at within fits

  abbrev Row : SemTy
  Row = Arr (mem V) (length these)

  abbrev spot : ℕ
  spot = nth (mem V).size ho start

  abbrev Left : Fml
  Left = cells_where V p (without (span_of start len marks) marks) items

  abbrev put : List V.Denot → List V.Denot
  put ws = written_at start ws items

  abbrev pub stretch : GName → MutBor (List V.Denot)
  stretch γ' = record { ref_ptr = (hb, spot); ghost_name = γ'; now = these }

  back_in : (ws : List V.Denot) → ent 𝓤 (sep 𝓤 (sem 𝓛 (Row.own_at ws hb spot)) (sem 𝓛 Left)) (sem 𝓛 (All.own_at (put ws) 0 0))
  back_in ws = qed 𝓛 (‵ (Row.own_at ws hb spot) ∷ ‵ Left ∷ []) ∵ nothing ! $ move ! (1 ∷ 2 ∷ 0 ∷ []) $
      by ! (put_in 𝓛 V ℓ κ q p name marks items k start len hb ho at within fits ws items)

  abbrev pub LentStretch : GName → SProp 𝓤
  LentStretch γ' = sep 𝓤 (sem 𝓛 ((MutSlice ℓ κ V).own_val (stretch γ') (slice_val (hb, spot) (length these) ∷ [])))
      (sep 𝓤 (A.lft κ q) (sem 𝓛 (follows Self (Array V 0) γ γ' (λ ws. with_items (put ws)))))

  pub lends_stretch : ent 𝓤 (sep 𝓤 (A.obs γ (Self.coded.code x)) (sep 𝓤 (A.bor κ (Borrowed (mem Self) b o γ)) (A.lft κ q)))
      (H.⇛ (ex 𝓤 LentStretch))
  lends_stretch =
      qed 𝓛 (‵ (fobs γ (Self.coded.code x)) ∷ ‵ (fbor κ (Borrowed (mem Self) b o γ)) ∷ ‵ (flft κ q) ∷ []) ∵ updating ! $ group ! 3 $
      use1 𝓛 (later (some (λ (γ' : GName). ‵ (holds_cells κ V γ' p marks items) ⊛ ‵ (flft κ q)
      ⊛ ‵ (follows Self (Array V 0) γ γ' with_items))))
      (lends_all 𝓛 Self V κ κ' inc q b o γ name p marks x items with_items Rest out back k) $ await ! tt $ pick ! (λ γ'. split3 ! $
      fsplit3 ! $ drop ! $ open_ref ! tt All {x = items} {b = 0} {o = 0} $
      rewrite ! 0 (λ (z : Ptr). ‵ (cells_where V z marks items)) at refl $
      use1 𝓛 (‵ (cells (mem V) these hb spot) ⊛ ‵ (cells_where V (block_ptr hb ho) (without (span_of start len marks) marks) items))
      (stretch_out 𝓛 V hb start len marks items ho within) $ split ! $
      feq_i ! ℕ (length these) (length these) refl $ fjoin ! $ move ! (1 ∷ []) $
      rewrite ! 0 (λ (z : Ptr). ‵ (cells_where V z (without (span_of start len marks) marks) items)) (sym at) refl $
      move ! (2 ∷ 3 ∷ 4 ∷ 1 ∷ 0 ∷ []) $ group ! 5 $
      use1 𝓛 (later (some (λ (γ'' : GName). ‵ (fobs γ'' (Row.coded.code these)) ⊛ ‵ (fbor κ (Borrowed Row hb spot γ'')) ⊛ ‵
      (flft κ q) ⊛ ‵ (follows (Array V 0) (Array V 0) γ' γ'' put))))
      (takes_part 𝓛 All Row put κ q 0 0 hb spot γ' (sem 𝓛 Left) back_in (All.coded.code items)
      (All.coded.code items) these) $ await ! tt $ pick ! (λ γ''. split3 ! $ move ! (2 ∷ []) $ split ! $ move ! (4 ∷ 1 ∷ []) $
      use2 𝓛 (‵ (follows Self (Array V 0) γ γ'' (λ ws. with_items (put ws))))
      (follows_then 𝓛 Self (Array V 0) (Array V 0) with_items put γ γ' γ'') $ move ! (2 ∷ 3 ∷ []) $
      use2 𝓛 (‵ ((MutSlice ℓ κ V).own_val (stretch γ'') (slice_val (hb, spot) (length these) ∷ [])))
      (slice_of 𝓛 V ℓ κ hb spot γ'' these (row_room 𝓛 V ℓ κ q p name marks items k start len hb ho at within fits)) $ at_once ! $
      show ! LentStretch γ'' $ move ! (0 ∷ 2 ∷ 1 ∷ []) $ done !))
