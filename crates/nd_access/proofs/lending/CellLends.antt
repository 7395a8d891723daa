-- What cells are in memory is what they hold, and a place for them. Assumes `Logic`.
use Rattle.nd_access.specs.Cells.{holds_cells}
use Rattle.nd_access.specs.declared.cells.Cells.{Cells}
use Rattle.nd_access.proofs.Laws.lending.Held.{It, cells_had, cells_made, word}
use Rattle.nd_access.proofs.Laws.lending.Steps.{Fml, List, Logic, NamedLft, RattleType, Ura, Val, cell_at, done, ent, fjoin, fpack, fpick}
use Rattle.nd_access.proofs.Laws.lending.Steps.{fsep, fsplit, full_share, mem, move, part_of, qed, refl, rewrite, sem, sep, !, [], ‵, ℕ}
use Rattle.nd_access.proofs.Laws.lending.Steps.{◌$◌, ◌∵◌, ◌∷◌}

module _ {M : Type 1} {𝓤 : Ura M} (𝓛 : Logic 𝓤) (κ : NamedLft) (V : RattleType) (b o : ℕ) (c : Cells V.Denot) where
  abbrev Place : List Val → Fml
  Place us = cell_at full_share (It κ V).mir us b o

  abbrev pub Seat : Fml
  Seat = Place (word c.first ∷ [])

  abbrev pub with_all : List V.Denot → Cells V.Denot
  with_all ws = record c { items = ws }

  pub out : ent 𝓤 (sem 𝓛 ((mem (It κ V)).own_at c b o)) (sep 𝓤 (sem 𝓛 (holds_cells κ.lft V c.name c.first c.marks c.items)) (sem 𝓛 Seat))
  unfolding part_of
  out = qed 𝓛 (‵ ((mem (It κ V)).own_at c b o) ∷ []) ∵ fpick ! (λ vs. fsplit ! $ move ! (1 ∷ []) $ cells_had ! κ V c vs (λ is.
      move ! (1 ∷ []) $ rewrite ! 0 (λ (us : List Val). ‵ (Place us)) is refl $ move ! (1 ∷ 0 ∷ []) $ done !))

  pub back : (ws : List V.Denot) → ent 𝓤 (sep 𝓤 (sem 𝓛 (holds_cells κ.lft V c.name c.first c.marks ws)) (sem 𝓛 Seat))
      (sem 𝓛 ((mem (It κ V)).own_at (with_all ws) b o))
  unfolding part_of
  back ws = qed 𝓛 (‵ (holds_cells κ.lft V c.name c.first c.marks ws) ∷ ‵ Seat ∷ []) ∵ cells_made ! κ V (with_all ws) $
      move ! (1 ∷ 0 ∷ []) $ fjoin ! $ fpack ! (List Val) (λ us. fsep (Place us) ((It κ V).own_val (with_all ws) us)) (word c.first ∷ []) $
      done !
