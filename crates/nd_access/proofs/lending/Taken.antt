-- A stretch of elements is lent as a slice for as long as the whole, and the right to the others stays. Assumes `Logic`.
use borrow.Table.Elements.{length-take-le}
use denote.FollowSlice.{slice_of}
use lib.ListN.{length-drop}
use types.Follow.{takes_two}
use Rattle.nd_access.specs.Cells.{CellsWhere, are_within, cells_where, holds_cells, known, span_of, without, written_at}
use Rattle.nd_access.proofs.lending.Stretch.{stretch_in, stretch_out}
use Rattle.nd_access.proofs.Laws.lending.Where.{without-length}
use Rattle.nd_access.proofs.Laws.lending.Steps
use Steps.{Arr, Array, Bool, Borrowed, GName, Lft, Lifetime, List, Logic, MutSlice, Ptr, RattleType, Room, SProp, SemTy, Share, T, Ura}
use Steps.{arith, at_once, await, block_ptr, both_by, cells, done, drop_l, emp, ent, ex, fbor, feq_i, feq_l, fjoin, flft, fobs}
use Steps.{follows_both, fsplit, fsplit3, group, keep, later, length, mem, move, mul-le-mul_right, nothing, nth, open_ref, pick, pure_i}
use Steps.{pure_l, qed, raw, refl, rewrite, sem, sep, shadow, show, slice_val, some, split, split3, sym, take, updating, use1, use2, !, []}
use Steps.{‵, ℕ, ◌$◌, ◌*◌, ◌+◌, ◌<◌, ◌^◌, ◌∙◌, ◌∵◌, ◌∷◌, ◌≡◌, ◌≤◌, ◌⊛◌}

module _ {M : Type 1} {𝓤 : Ura M} (𝓛 : Logic 𝓤) (V : RattleType) (ℓ : Lifetime) (κ : Lft) (q : Share) (p : Ptr) (γ : GName)
    (marks : List Bool) (items : List V.Denot)
    (k : shadow (known V p marks items)) (start len hb ho : ℕ) (at : p ≡ block_ptr hb ho)
    (within : T (are_within (span_of start len marks) marks))
    (fits : start + len ≤ length marks) where
  open 𝓛 use {H, A}

  abbrev s : ℕ
  s = (mem V).size

  abbrev left : List Bool
  left = without (span_of start len marks) marks

  abbrev spot : ℕ
  spot = nth s ho start

  abbrev pub row : List V.Denot
  row = take len (drop_l start items)

  pub row-length : length row ≡ len
  row-length = length-take-le len (drop_l start items) (omega (arith, fits, k.1.0, length-drop start items))

  pub row_room : Room V (length row)
  row_room =
      let n : length row ≤ length items = omega (arith, row-length, fits, k.1.0) in
      let size : length row * s ≤ length items * s = mul-le-mul_right s n in
      let small : length items < 2 ^ 64 = k.1.1.0 in
      let all : length items * s < 2 ^ 63 = k.1.1.1 in
      (omega (arith, n, small), omega (arith, size, all))

  abbrev All : SemTy
  All = CellsWhere V p marks

  abbrev Row : SemTy
  Row = Arr (mem V) (length row)

  abbrev Others : SemTy
  Others = CellsWhere V p left

  pub back : (ws ys : List V.Denot)
      → ent 𝓤 (sep 𝓤 (sem 𝓛 (Row.own_at ws hb spot)) (sep 𝓤 (sem 𝓛 (Others.own_at ys 0 0)) (emp 𝓤)))
      (sem 𝓛 (All.own_at (written_at start ws ys) 0 0))
  back ws ys = qed 𝓛 (‵ (Row.own_at ws hb spot) ∷ ‵ (Others.own_at ys 0 0) ∷ raw (emp 𝓤) ∷ []) ∵ fsplit ! $
      feq_l ! (λ e. keep ! (0 ∷ 1 ∷ []) $
      rewrite ! 1 (λ (a : Ptr). ‵ (cells_where V a left ys)) at refl $
      use2 𝓛 (‵ (cells_where V (block_ptr hb ho) marks (written_at start ws ys)))
      (stretch_in 𝓛 V hb start len marks ws ys ho within (e ∙ row-length) fits) $
      rewrite ! 0 (λ (a : Ptr). ‵ (cells_where V a marks (written_at start ws ys))) (sym at) refl $ done !)

  abbrev pub Taken : GName × GName → SProp 𝓤
  Taken γs = sep 𝓤 (sem 𝓛
      ((MutSlice ℓ κ V).own_val (record { ref_ptr = (hb, spot); ghost_name = γs.0; now = row }) (slice_val (hb, spot) (length row) ∷ [])))
      (sep 𝓤 (sem 𝓛 (holds_cells κ V γs.1 p left items))
      (sep 𝓤 (A.lft κ q) (sem 𝓛 (follows_both (Array V 0) (Array V 0) (Array V 0) γ γs.0 γs.1 (written_at start)))))

  pub taken : ent 𝓤 (sep 𝓤 (sem 𝓛 (holds_cells κ V γ p marks items)) (A.lft κ q)) (H.⇛ (ex 𝓤 Taken))
  unfolding both_by
  taken = qed 𝓛 (‵ (holds_cells κ V γ p marks items) ∷ ‵ (flft κ q) ∷ []) ∵ updating ! $ fsplit3 ! $ pure_l ! (known V p marks items) (λ _.
      open_ref ! tt All {x = items} {b = 0} {o = 0} $
      rewrite ! 0 (λ (a : Ptr). ‵ (cells_where V a marks items)) at refl $
      use1 𝓛 (‵ (cells (mem V) row hb spot) ⊛ ‵ (cells_where V (block_ptr hb ho) left items))
      (stretch_out 𝓛 V hb start len marks items ho within) $ split ! $
      feq_i ! ℕ (length row) (length row) refl $ fjoin ! $ move ! (1 ∷ []) $
      rewrite ! 0 (λ (a : Ptr). ‵ (cells_where V a left items)) (sym at) refl $ nothing ! $
      -- [nothing; the others; the row; the open borrow; its name]
      move ! (3 ∷ 4 ∷ 5 ∷ 2 ∷ 1 ∷ 0 ∷ []) $ group ! 6 $
      use1 𝓛 (later (some (λ (γs : GName × GName). (‵ (fobs γs.0 (Row.coded.code row)) ⊛ ‵ (fbor κ (Borrowed Row hb spot γs.0)))
      ⊛ (‵ (fobs γs.1 (Others.coded.code items)) ⊛ ‵ (fbor κ (Borrowed Others 0 0 γs.1))) ⊛ ‵ (flft κ q) ⊛ ‵
      (follows_both (Array V 0) (Array V 0) (Array V 0) γ γs.0 γs.1 (written_at start)))))
      (takes_two 𝓛 All Row Others (written_at start) κ q 0 0 hb spot 0 0 γ (emp 𝓤) back (All.coded.code items)
      (All.coded.code items) row items) $ await ! tt $
      pick ! (λ γs. split3 ! $
      use1 𝓛 (‵ ((MutSlice ℓ κ V).own_val (record { ref_ptr = (hb, spot); ghost_name = γs.0; now = row })
      (slice_val (hb, spot) (length row) ∷ [])))
      (slice_of 𝓛 V ℓ κ hb spot γs.0 row row_room) $
      move ! (1 ∷ []) $ split ! $ fjoin ! $
      pure_i ! (known V p left items) (tt, (tt, (tt, tt)))
      (k.0, (k.1.0 ∙ sym (without-length (span_of start len marks) marks within), k.1.1)) $ fjoin ! $
      move ! (2 ∷ []) $ split ! $ at_once ! $ show ! Taken γs $ keep ! (3 ∷ 2 ∷ 0 ∷ 1 ∷ []) $ done !))
