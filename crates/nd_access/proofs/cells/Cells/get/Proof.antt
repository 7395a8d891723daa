-- `get` shows one of the cells. Assumes `Logic`.
use Rattle.std.specs.Prelude.{IsTrue, false}
use Rattle.nd_access.specs.contracts.cells.Cells.{the_row}
use Rattle.nd_access.specs.contracts.cells.Cells.get as f
use Rattle.nd_access.proofs.cells.Cells.get.Code as code
use Rattle.nd_access.proofs.cells.Cells.get.Statement.{statement}
use Rattle.nd_access.proofs.lending.Item.{one_shown}
use Rattle.nd_access.proofs.lending.Seen.{cells_seen}
use Rattle.nd_access.proofs.Laws.lending.Walk.{all_dropped, ends, quiet, shown}
use Rattle.nd_access.proofs.Laws.lending.Steps.{Incl-refl, a_type, emp, fact_i, get_or, inst_fn, layouts, named, named_lft, param_laws}
use Rattle.nd_access.proofs.Laws.lending.Steps.{refl, shr_Tells, shr_vals, tables, toks, uint_Tells, uint_vals, vptr, w64, [], ⊑_meet, ◌∷◌}

pub get_spec : {M : Type 1} → statement M
get_spec 𝓤 𝓛 𝓜 𝓡 wired X L =
    let T = f.ended X in let c = f.clauses X 𝓛 𝓜.mem 𝓡.returns in let 𝓣 = tables 𝓤 𝓛.H 𝓜 𝓡 𝓡.env in
    let args = layouts (a_type ∷ []) (X, tt) in
    shown 𝓛 T (all_dropped T) (quiet 𝓛 T.signature.params T.kept ((λ κs x w. refl), ((λ κs x w. refl), tt))) c 𝓜 𝓡
    (f.Key.name args) (inst_fn args code.function) (code.unfolded 𝓤 𝓛.H 𝓜 𝓡 wired (X, tt)) 1 (λ κs. κs.1.1) (X.lives, tt)
    (λ κs. (shr_vals, (uint_vals w64, tt)))
    (λ κs. (shr_Tells (named 0) κs.0 (the_row (named_lft 3 1 tt κs) (f.T-row X)), (uint_Tells w64, tt)))
    (ends 𝓛 T c) (λ y. IsTrue (get_or y.0.3.0.now.marks y.0.3.1.0 false)) (λ y. refl) (λ κs qs bounds a g are asked out.
    one_shown 𝓛 (cells_seen 𝓛 (named_lft 3 1 tt κs) (f.T-row X) κs.0 a.0) 𝓣.C 𝓣.Λ 0 (param_laws 0 X L).shr_laws κs.0
    (⊑_meet κs.0 κs.0 κs.1.0 (Incl-refl κs.0) bounds.0) qs.0 (toks 𝓛 2 κs.1 qs.1) a.1.0 are.1.0.1 asked _
    (λ r is. out (vptr r.ref_ptr.0 r.ref_ptr.1) r (tt, (tt, tt)) (emp 𝓤) (fact_i 𝓤 _ _ is)))
