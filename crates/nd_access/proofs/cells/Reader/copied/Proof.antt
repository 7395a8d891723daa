-- `copied` lends the same elements once more. Assumes `Logic`.
use Rattle.nd_access.specs.contracts.cells.Reader.{the_row}
use Rattle.nd_access.specs.contracts.cells.Reader.copied as f
use Rattle.nd_access.proofs.cells.Reader.copied.Code as code
use Rattle.nd_access.proofs.cells.Reader.copied.Statement.{statement}
use Rattle.nd_access.proofs.lending.Again.{all_shown, reader}
use Rattle.nd_access.proofs.Laws.lending.Held.{word}
use Rattle.nd_access.proofs.lending.Seen.{reader_seen, spot}
use Rattle.nd_access.proofs.Laws.lending.Walk.{all_dropped, ends, quiet, shown_free}
use Rattle.nd_access.proofs.Laws.lending.Steps.{Incl-refl, a_type, ap, emp, fact_i, inst_fn, layouts, named, named_lft, param_laws, refl}
use Rattle.nd_access.proofs.Laws.lending.Steps.{shr_Tells, shr_vals, sym, tables, toks, [], ◌∷◌}

pub copied_spec : {M : Type 1} → statement M
copied_spec 𝓤 𝓛 𝓜 𝓡 wired X L =
    let T = f.ended X in let c = f.clauses X 𝓛 𝓜.mem 𝓡.returns in let 𝓣 = tables 𝓤 𝓛.H 𝓜 𝓡 𝓡.env in
    let args = layouts (a_type ∷ []) (X, tt) in
    shown_free 𝓛 T (all_dropped T) (quiet 𝓛 T.signature.params T.kept ((λ κs x w. refl), tt)) c 𝓜 𝓡
    (f.Key.name args) (inst_fn args code.function) (code.unfolded 𝓤 𝓛.H 𝓜 𝓡 wired (X, tt)) 1 (λ κs. κs.1.1) (X.lives, tt)
    (λ κs. (shr_vals, tt)) (λ κs. (shr_Tells (named 0) κs.0 (the_row (named_lft 3 1 tt κs) (f.T-row X)), tt))
    (ends 𝓛 T c) (λ y. refl) (λ κs qs bounds a g are out.
    let S = reader_seen 𝓛 (named_lft 3 1 tt κs) (f.T-row X) κs.0 a.0 in
    all_shown 𝓛 S 𝓣.C 𝓣.Λ (named_lft 3 1 tt κs) (param_laws 0 X L).shr_laws (Incl-refl κs.1.0) qs.0 (toks 𝓛 2 κs.1 qs.1) _
    (λ k. out (word (spot 𝓛 S)) (reader 𝓛 S) (tt, tt) (emp 𝓤) (fact_i 𝓤 _ _ (ap (λ p. record (reader 𝓛 S) { first = p }) (sym k.0)))))
