-- `borrowed` lends all cells, with another view. Assumes `Logic`.
use denote.Laws.{Typed}
use denote.Param.{bounded}
use mir.Syntax.{Dicts, dcons, dnil}
use Rattle.ndarray_layout.proofs.strided.Strided.TheLaws as V-laws
use Rattle.nd_access.specs.Cells.{holds_cells}
use Rattle.nd_lent.specs.LendsItem.{LendsItems, with_items}
use Rattle.nd_access.specs.Part.{IsPart}
use Rattle.nd_lent.specs.contracts.array_view_mut.ArrayViewMut.borrowed as f
use Rattle.nd_access.specs.declared.cells.Cells.{Cells}
use Rattle.nd_lent.proofs.array_view_mut.ArrayViewMut.borrowed.Code as code
use Rattle.nd_lent.proofs.array_view_mut.ArrayViewMut.borrowed.Statement.{statement}
use Rattle.nd_access.proofs.Laws.lending.Held.{ptr_typed, word_typed}
use Rattle.nd_access.proofs.Laws.lending.Lends.{lends_all}
use Rattle.nd_lent.proofs.lending.PartHeld.{Bound, ItsPart, ItsView, Part, part_made, part_opened, part_word}
use Rattle.nd_lent.proofs.lending.PartLends.{Seats, part_back, part_out}
use Rattle.nd_access.proofs.Laws.lending.Passed.{both_hold, lone_is}
use Rattle.nd_access.proofs.Laws.lending.Walk.{all_dropped, ends, quiet, shown_at}
use Rattle.nd_access.proofs.Laws.lending.Steps
use Steps.{GName, Laws, List, MutRef, RattleType, SProp, Val, WpFn, a_type, agg, alloc_all, and_then, await, by, closes, done, enter, fld}
use Steps.{flft, free_all, fsplit3, get, group, inst_fn, join, keep, later, layout, load, look_at, look_in, move, named, named_lft, no_more}
use Steps.{of_opd, only, owns, param, param_laws, pass_all, pick, prop, qed, raw, refl, regoal, returns, rewrite, says, sem, sets, some}
use Steps.{split, split3, stop, sub, subst, tables, through, toks, true, use1, vptr, walk_of, whole, !, [], ‵, ◌$◌, ◌++◌, ◌∵◌, ◌∷◌, ◌≡◌}
use Steps.{◌⊛◌}

pub borrowed_spec : {M : Type 1} → statement M
borrowed_spec 𝓤 𝓛 𝓜 𝓡 wired X S E L LS LE lens d₁ count d₂ eq d₃ same d₄ text d₅ write d₆ at d₇ d₈
    lens' e₁ count' e₂ eq' e₃ same' e₄ text' e₅ write' e₆ at' e₇ e₈ _ _ _ _ _ _ _ _ _ _ _ _ _ _ _ _ =
    let T' = f.ended X S E lens d₁ count d₂ eq d₃ same d₄ text d₅ write d₆ at d₇ d₈
    lens' e₁ count' e₂ eq' e₃ same' e₄ text' e₅ write' e₆ at' e₇ e₈ in
    let c = f.clauses X S E lens d₁ count d₂ eq d₃ same d₄ text d₅ write d₆ at d₇ d₈
    lens' e₁ count' e₂ eq' e₃ same' e₄ text' e₅ write' e₆ at' e₇ e₈ 𝓛 𝓜.mem 𝓡.returns in
    let g : Bound S.Denot = record { lens = lens; count = count; same = same; text = text; at = at } in
    let h : Bound E.Denot = record { lens = lens'; count = count'; same = same'; text = text'; at = at' } in
    let ds : Dicts = dcons d₁ (dcons d₂ (dcons d₃ (dcons d₄ (dcons d₅ (dcons d₆ (dcons d₇ (dcons d₈ (dcons e₁ (dcons e₂ (dcons e₃ (dcons e₄
    (dcons e₅ (dcons e₆ (dcons e₇ (dcons e₈ dnil))))))))))))))) in
    let 𝓣 = tables 𝓤 𝓛.H 𝓜 𝓡 𝓡.env in let args = bounded (a_type ∷ a_type ∷ a_type ∷ []) (X, (S, (E, tt))) ds in
    let fn = inst_fn args code.function in let V : RattleType = param 0 X in let W : RattleType = param 1 S in
    let Z : RattleType = param 2 E in let View : RattleType = ItsView Z h in
    let LV : Laws View = V-laws.the_row_laws Z lens' count' same' text' at' (param_laws 2 E LE) in
    shown_at 𝓛 T' (all_dropped T') (quiet 𝓛 T'.signature.params T'.kept ((λ κs x w. refl), ((λ κs x w. refl), tt))) c 𝓜 𝓡
    (f.Key.name args) fn (code.unfolded 𝓤 𝓛.H 𝓜 𝓡 wired (X, (S, (E, tt))) d₁ d₂ d₃ d₄ d₅ d₆ d₇ d₈ e₁ e₂ e₃ e₄ e₅ e₆ e₇ e₈)
    3 (λ κs. κs.1.1) (X.lives, (S.lives, (E.lives, tt))) (λ y. IsPart y.0.3.0.now.cells.marks y.0.3.1.0) (λ y. refl) (λ y are fits.
    let Post : Val → SProp 𝓤 = (walk_of 𝓛 T' (all_dropped T') c).post y in let κs = y.0.0 in let qs = y.0.1 in let bounds = y.0.2 in
    let long = named_lft 5 1 tt κs in let short = named_lft 5 0 tt κs in let κ = κs.0 in let q = qs.0 in let Rest = toks 𝓛 4 κs.1 qs.1 in
    let Self = ItsPart long V W g in let self = y.0.3.0 in let view : View.Denot = y.0.3.1.0 in
    let b = self.ref_ptr.0 in let o = self.ref_ptr.1 in let γ = self.ghost_name in let p : Part V.Denot W.Denot g = self.now in
    let cells : Cells V.Denot = p.cells in let u : Val = only y.0.4.1.0 in
    let is : y.0.4.1.0 ≡ u ∷ [] = lone_is y.0.4.1.0 (LV.single view y.0.4.1.0 are.1.0) in
    let tu = (subst (Typed (layout View ∷ [])) is ((LV.lawful 𝓛).typed view y.0.4.1.0 are.1.0)).0 in
    let typed = word_typed cells.first in
    qed 𝓛 ((‵ (flft κ q) ⊛ raw Rest) ∷ ‵ (owns (MutRef (named 0) κ Self ∷ View ∷ []) y.0.3 y.0.4) ∷ []) ∵
    split ! $ move ! (2 ∷ []) $ fsplit3 ! $
    rewrite ! 1 (λ (ws : List Val). ‵ (View.own_val view ws)) is refl $ keep ! (0 ∷ 3 ∷ 1 ∷ 4 ∷ []) $
    -- [the reference; its token; what the view owns; the others]
    regoal ! (λ (vs : List Val). prop (WpFn 𝓤 𝓛.H 𝓣.C 𝓣.Λ fn vs Post)) (λ i. are.0.0 i ++ (is i ++ [])) refl $
    enter ! 𝓣.C 𝓣.Λ fn (vptr b o ∷ u ∷ []) Post $ alloc_all ! (λ l. pass_all ! refl ((tt, tt), (tu, tt)) $
    part_opened ! tt long V W g self (λ us k.
    sets ! (of_opd ! (load ! (through ! refl (fld ! refl (fld ! refl (stop !)))) (look_in ! 0 (sub ! 0 refl (sub ! 0 refl (whole !))))))
    refl (ptr_typed cells.first) $
    sets ! (agg ! (no_more !)) refl (tt, tt) $
    sets ! (agg ! (and_then ! (get ! refl) (and_then ! (get ! refl) (no_more !)))) refl typed $
    sets ! (of_opd ! (get ! refl)) refl tu $
    sets ! (agg ! (and_then ! (get ! refl) (and_then ! (get ! refl) (no_more !)))) refl
    (both_hold _ _ typed.0 (both_hold _ true tu.0 tt), (typed.1, (tu.1, tt))) $
    move ! (1 ∷ 2 ∷ []) $ part_made ! long V W g p us $ move ! (1 ∷ 0 ∷ 2 ∷ 3 ∷ 4 ∷ []) $
    closes ! tt Self p (part_word cells.first us ∷ []) b o $ group ! 3 $
    use1 𝓛 (later (some (λ (γ' : GName).
    ‵ (holds_cells κ V γ' cells.first cells.marks cells.items) ⊛ ‵ (flft κ q) ⊛ ‵ (LendsItems V W self γ'))))
    (lends_all 𝓛 Self V κ long.lft bounds.0 q b o γ cells.name cells.first cells.marks p cells.items (with_items p)
    (Seats 𝓛 long V W g b o p) (part_out 𝓛 long V W g b o p) (part_back 𝓛 long V W g b o p) k) $ await ! tt $ pick ! (λ γ'.
    let r : Part V.Denot Z.Denot h = record { cells = record cells { name = γ' }; view = view; part = fits } in
    split3 ! $ move ! (0 ∷ 3 ∷ []) $ part_made ! short V Z h r (u ∷ []) $
    -- [the part; the token; what follows; the others]
    returns ! (look_at ! 0 refl) $ free_all ! refl $ keep ! (1 ∷ 3 ∷ 0 ∷ 2 ∷ []) $ join ! $
    by ! (ends 𝓛 T' c y (part_word cells.first (u ∷ [])) r (tt, (tt, tt)) (sem 𝓛 (LendsItems V W self γ'))
    (qed 𝓛 (‵ (LendsItems V W self γ') ∷ []) ∵ says ! (refl, refl, refl) $ done !))))))
