-- A shared pick is in both ranges; where these overlap, the lists of picks are compared.
use Rattle.std.proofs.Common.{◌≡◌, true, pos, arith, ◌↔◌}
use Rattle.nd_slice.proofs.Definitions.{SequencesIntersect, magnitude}
use Rattle.nd_slice.proofs.intersect_lemmas.Signs.{of_non_negative}
use Rattle.nd_slice.proofs.Laws.PickSequences.{ArePicks, in_range, share_a_pick}
use Rattle.nd_slice.proofs.picks.AxisPicks.intersects.Goals as goal

pub returns-then-max-min : goal.returns-then-max-min
returns-then-max-min c = (
  λ is. absurd (cc),
  λ intersect.
      let one = c.args.self in
      let other = c.args.other in
      let first = in_range one.step one.start one.end intersect.0 one.moves intersect.1 in
      let second = in_range other.step other.start other.end intersect.0 other.moves intersect.2 in
      absurd (omega (arith, first.0, first.1, second.0, second.1)),
)

pub returns : goal.returns
returns c =
    let one = c.args.self in
    let other = c.args.other in
    let x = c.sequence.result in
    let y = c.sequence-2.result in
    let p = c.sequence.ensures in
    let q = c.sequence-2.ensures in
    let first : ArePicks one.step one.start one.end (magnitude x.0) (magnitude x.1) =
    record { moves = one.moves; ends = (p.least, p.greatest, p.between) } in
    let second : ArePicks other.step other.start other.end (magnitude y.0) (magnitude y.1) =
    record { moves = other.moves; ends = (q.least, q.greatest, q.between) } in
    let intersect = share_a_pick first second in
    let known : (c.arith_seq_intersect.result ≡ true)
    ↔ SequencesIntersect (pos (magnitude x.0), pos (magnitude x.1), one.step) (pos (magnitude y.0), pos (magnitude y.1), other.step) =
    rw (
      ← of_non_negative x.0 p.signs.0,
      ← of_non_negative x.1 p.signs.1,
      ← of_non_negative y.0 q.signs.0,
      ← of_non_negative y.1 q.signs.1,
      ← p.step,
      ← q.step,
    ) c.arith_seq_intersect.ensures in
    (λ is. intersect.0 (known.0 is), λ both. known.1 (intersect.1 both))
