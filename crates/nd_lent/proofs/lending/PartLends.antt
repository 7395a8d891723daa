-- What a part is in memory is what its cells hold, and a place for it with its view. Assumes `Logic`.
use Rattle.nd_access.specs.Cells.{holds_cells}
use Rattle.nd_lent.specs.LendsItem.{with_items}
use Rattle.nd_lent.proofs.lending.PartHeld.{Bound, ItsPart, ItsView, Part, part_had, part_made, part_word}
use Rattle.nd_access.proofs.Laws.lending.Steps
use Steps.{Fml, List, Logic, NamedLft, RattleType, Ura, Val, cell_at, done, ent, fex, fjoin, fpack, fpick, fsep, fsplit, full_share, mem}
use Steps.{move, part_of, qed, refl, rewrite, sem, sep, !, [], ‵, ℕ, ◌$◌, ◌∵◌, ◌∷◌}

module _ {M : Type 1} {𝓤 : Ura M} (𝓛 : Logic 𝓤) (κ : NamedLft) (V D : RattleType) (g : Bound D.Denot) (b o : ℕ)
    (p : Part V.Denot D.Denot g) where
  abbrev Place : List Val → Fml
  Place us = cell_at full_share (ItsPart κ V D g).mir us b o

  abbrev Seat : List Val → Fml
  Seat us = fsep (Place (part_word p.cells.first us ∷ [])) ((ItsView D g).own_val p.view us)

  abbrev pub Seats : Fml
  Seats = fex (List Val) Seat

  pub part_out : ent 𝓤 (sem 𝓛 ((mem (ItsPart κ V D g)).own_at p b o))
      (sep 𝓤 (sem 𝓛 (holds_cells κ.lft V p.cells.name p.cells.first p.cells.marks p.cells.items)) (sem 𝓛 Seats))
  unfolding part_of
  part_out = qed 𝓛 (‵ ((mem (ItsPart κ V D g)).own_at p b o) ∷ []) ∵ fpick ! (λ vs. fsplit ! $ move ! (1 ∷ []) $
      part_had ! κ V D g p vs (λ us is. move ! (2 ∷ []) $ rewrite ! 0 (λ (ws : List Val). ‵ (Place ws)) is refl $
      move ! (0 ∷ 2 ∷ []) $ fjoin ! $ fpack ! (List Val) Seat us $ move ! (1 ∷ 0 ∷ []) $ done !))

  pub part_back : (ws : List V.Denot)
      → ent 𝓤 (sep 𝓤 (sem 𝓛 (holds_cells κ.lft V p.cells.name p.cells.first p.cells.marks ws)) (sem 𝓛 Seats))
      (sem 𝓛 ((mem (ItsPart κ V D g)).own_at (with_items p ws) b o))
  unfolding part_of
  part_back ws = qed 𝓛 (‵ (holds_cells κ.lft V p.cells.name p.cells.first p.cells.marks ws) ∷ ‵ Seats ∷ []) ∵ move ! (1 ∷ []) $
      fpick ! (λ us. fsplit ! $ move ! (2 ∷ 1 ∷ []) $ part_made ! κ V D g (with_items p ws) us $ move ! (1 ∷ 0 ∷ []) $ fjoin ! $
      fpack ! (List Val) (λ vs. fsep (Place vs) ((ItsPart κ V D g).own_val (with_items p ws) vs)) (part_word p.cells.first us ∷ []) $
      done !)
