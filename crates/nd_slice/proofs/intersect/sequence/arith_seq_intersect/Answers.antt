use Rattle.std.proofs.Common.{rules, ◌≡◌, arith, ap, ◌∙◌, to_z, of_z, ◌≤ℤ◌, ◌<ℤ◌, w64}
use Rattle.std.proofs.lemmas.Int.{ints, to_z-of_z}
use Rattle.nd_slice.proofs.Definitions.{magnitude}
use Rattle.nd_slice.proofs.intersect_lemmas.Sequences.{IsShared, IsMeasured, intersects_on, intersects_back, intersects_none}
use Rattle.nd_slice.proofs.intersect.sequence.arith_seq_intersect.Goals as goal
use Rattle.nd_slice.proofs.intersect.sequence.arith_seq_intersect.Goals.{After-min-greatest, After-abs_diff-ahead}

-- numbers are kept as they are read
first_kept : (c : After-min-greatest)
    → (to_z w64 (of_z w64 c.args.first.0) ≡ c.args.first.0) × (to_z w64 (of_z w64 c.args.second.0) ≡ c.args.second.0)
first_kept c = (to_z-of_z w64 c.args.first.0 (search rules), to_z-of_z w64 c.args.second.0 (search rules))

ends_kept : (c : After-min-greatest)
    → (to_z w64 (of_z w64 c.max-least.result) ≡ c.max-least.result) × (to_z w64 (of_z w64 c.min-greatest.result) ≡ c.min-greatest.result)
ends_kept c = (to_z-of_z w64 c.max-least.result (search rules), to_z-of_z w64 c.min-greatest.result (search rules))

shared : (c : After-min-greatest) → IsShared c.args.first c.args.second c.max-least.result c.min-greatest.result
shared c =
    let firsts = first_kept c in
    let one_last : to_z w64 (of_z w64 c.args.first.1) ≡ c.args.first.1 = to_z-of_z w64 c.args.first.1 (search rules) in
    let other_last : to_z w64 (of_z w64 c.args.second.1) ≡ c.args.second.1 = to_z-of_z w64 c.args.second.1 (search rules) in
    record {
      first_is = rw (firsts.0, firsts.1) at c.max-least.ensures.value;
      last_is = rw (one_last, other_last) at c.min-greatest.ensures.value;
    }

pub returns-then-least-greatest : goal.returns-then-least-greatest
returns-then-least-greatest c =
    let at = (goal.at.returns-then-least-greatest c).After-min-greatest in
    let ends = ends_kept at in
    let order : c.min-greatest.result <ℤ c.max-least.result = grind (arith, ints, c.if-least-greatest.true) in
    (λ is. absurd (cc), λ intersects. absurd (intersects_none (shared at) order intersects))

measured : (c : After-abs_diff-ahead)
    → IsMeasured c.args.first c.args.second c.max-least.result c.min-greatest.result c.abs_diff-ahead.result c.abs_diff-room.result
measured c =
    let at = (goal.at.After-abs_diff-ahead c).After-min-greatest in
    let firsts = first_kept at in
    let ends = ends_kept at in
    record {
      ends = shared at;
      order = grind (arith, ints, c.if-least-greatest.false);
      room_is = rw (ends.1, ends.0) at c.abs_diff-room.ensures;
      ahead_is = rw (firsts.0, firsts.1) at c.abs_diff-ahead.ensures;
    }

first_size : (c : After-abs_diff-ahead) → c.unsigned_abs-first_step.result ≡ magnitude c.args.first.2
first_size c = c.unsigned_abs-first_step.ensures.value ∙ ap magnitude (to_z-of_z w64 c.args.first.2 (search rules))

second_size : (c : After-abs_diff-ahead) → c.unsigned_abs-second_step.result ≡ magnitude c.args.second.2
second_size c = c.unsigned_abs-second_step.ensures.value ∙ ap magnitude (to_z-of_z w64 c.args.second.2 (search rules))

pub returns-then-first-second : goal.returns-then-first-second
returns-then-first-second c =
    let at = (goal.at.returns-then-first-second c).After-abs_diff-ahead in
    let firsts = first_kept ((goal.at.returns-then-first-second c).After-min-greatest) in
    let way : c.args.first.0 ≤ℤ c.args.second.0 = grind (arith, ints, c.if-first-second.true) in
    let intersects = intersects_on (measured at) way in
    let known = rw (first_size at, second_size at) at c.intersects_within.ensures in
    (λ is. intersects.0 (known.0 is), λ both. known.1 (intersects.1 both))

pub returns-else-first-second : goal.returns-else-first-second
returns-else-first-second c =
    let at = (goal.at.returns-else-first-second c).After-abs_diff-ahead in
    let firsts = first_kept ((goal.at.returns-else-first-second c).After-min-greatest) in
    let way : c.args.second.0 ≤ℤ c.args.first.0 = grind (arith, ints, c.if-first-second.false) in
    let intersects = intersects_back (measured at) way in
    let known = rw (first_size at, second_size at) at c.intersects_within-else-first-second.ensures in
    (λ is. intersects.0 (known.0 is), λ both. known.1 (intersects.1 both))
