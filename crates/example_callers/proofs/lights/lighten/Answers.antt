-- Each call adds the light of the other pixel, and changes no capture.
use Rattle.std.proofs.Common.{rules, ◌≡◌, ◌+◌, ap, sym, ◌∙◌}
use Rattle.std.specs.Prelude.{min}
use Rattle.nd_lent.proofs.Laws.Faults.{on_ok}
use Rattle.example_callers.proofs.lights.lighten.Goals as goal

pub returns-clause-lit : goal.returns-clause-lit
returns-clause-lit c =
    let lit = on_ok c.zip_mut_with.result (λ zipped. zipped (λ pixel more. min (pixel + more) 255) (λ x u f' y called.
    let adds : called.left.now ≡ min (called.shown.now + called.beside.0.now) 255 = search rules in (
      search rules,
      sym called.leaves
          ∙ adds
          ∙ ap (λ pixel. min (pixel + called.beside.0.now) 255) called.shows.0
          ∙ ap (λ more. min (x + more) 255) called.shows.1,
    ))) c.zip_mut_with.ensures.zipped in
    search (rules, lit)
