-- When two lists of numbers that lie a step apart share a number.
use Rattle.std.proofs.Common.{◌≡◌, ℕ, zero, suc, ◌+◌, ◌*◌, ◌/◌, ◌%◌, ◌<◌, ◌≤◌, true, arith, ap, sym, ◌∙◌, refl, subst, ℤ, pos, ◌+ℤ◌, ◌-ℤ◌}
use Rattle.std.proofs.Common.{le-div_iff_mul-le, mul-le-mul_right, ◌≤ℤ◌, ◌<ℤ◌, ◌↔◌, nat_le}
use Rattle.std.proofs.Math.Nat.{div-mul_cancel, dvd-mul_right}
use Rattle.std.proofs.lemmas.Bool.{leb-true, le-leb}
use Rattle.std.proofs.lemmas.Int.{ints, clamps}
use Rattle.std.proofs.lemmas.Nat.Gcd.{dvd-zero, dvd_of_mod-eq-zero, le_of_dvd, mod-eq-zero_of_dvd}
use Rattle.std.specs.Int.{◌∣◌, int_max, int_min}
use Rattle.nd_slice.proofs.Definitions.{InSequence, IntersectWithin, IsLeastMultiplier, SequencesIntersect, magnitude}
use Rattle.nd_slice.proofs.intersect_lemmas.Signs.{of_non_negative, of_non_positive}

-- the least multiple that serves decides
pub intersects_by_least : {ahead first_step second_step least : ℕ} (room : ℕ) → 0 < second_step
    → IsLeastMultiplier second_step first_step ahead least
    → (nat_le least (room / second_step) ≡ true) ↔ IntersectWithin ahead first_step second_step room
intersects_by_least {ahead = ahead} {first_step = first_step} {second_step = second_step} {least = least} room some at = (
  λ is.
      let fits : least * second_step ≤ room = (le-div_iff_mul-le some).0 (leb-true least (room / second_step) is) in
      (second_step * least, omega arith, dvd-mul_right second_step least, at.divides),
  λ intersects.
      let number = intersects.0 in
      let times = number / second_step in
      let whole : times * second_step ≡ number = div-mul_cancel second_step intersects.2 in
      let divides : first_step ∣ second_step * times + ahead = subst (λ n. first_step ∣ n) (omega arith) intersects.3 in
      let before : least ≤ times = at.least times divides in
      le-leb least (room / second_step) ((le-div_iff_mul-le some).1 (omega (arith, intersects.1, mul-le-mul_right second_step before))),
)

-- where none serves there is none
pub intersects_by_none : (ahead first_step second_step room : ℕ) → ((number : ℕ) → first_step ∣ second_step * number + ahead → ⊥)
    → IntersectWithin ahead first_step second_step room → ⊥
intersects_by_none ahead first_step second_step room none intersects =
    let whole : intersects.0 / second_step * second_step ≡ intersects.0 = div-mul_cancel second_step intersects.2 in
    none (intersects.0 / second_step) (subst (λ n. first_step ∣ n) (omega arith) intersects.3)

-- 0 serves where ahead is a multiple
pub intersects_first : (ahead first_step second_step room : ℕ) → ahead % first_step ≡ 0 → IntersectWithin ahead first_step second_step room
intersects_first ahead first_step second_step room none =
    (0, omega arith, dvd-zero second_step, subst (λ n. first_step ∣ n) (omega arith) (dvd_of_mod-eq-zero first_step none))

-- where 0 is the only multiple within the room, it decides
pub intersects_at_zero : (ahead first_step second_step room : ℕ) → room < second_step → IntersectWithin ahead first_step second_step room
    → ahead % first_step ≡ 0
intersects_at_zero ahead first_step second_step room small (zero, within, multiple, divides) =
    mod-eq-zero_of_dvd first_step (subst (λ n. first_step ∣ n) (omega arith) divides)
intersects_at_zero ahead first_step second_step room small (suc k, within, multiple, divides) =
    absurd (omega (arith, within, le_of_dvd (omega arith) multiple))

-- the greater of two numbers is so far after the other
pub far_after : (low high : ℤ) → low ≤ℤ high → high ≡ low +ℤ pos (magnitude (high -ℤ low))
far_after low high h = omega (arith, ints, of_non_negative (high -ℤ low) (omega (arith, ints, h)))

pub far_before : (low high : ℤ) → low ≤ℤ high → high ≡ low +ℤ pos (magnitude (low -ℤ high))
far_before low high h = omega (arith, ints, of_non_positive (low -ℤ high) (omega (arith, ints, h)))

in_from : {first last step number : ℤ} (far : ℕ) → number ≡ first +ℤ pos far → number ≤ℤ last → magnitude step ∣ far
    → InSequence first last step number
in_from {first = first} {step = step} {number = number} far e below multiple =
    let apart : pos far ≡ number -ℤ first = omega (arith, ints, e) in
    record {
      not_before = omega (arith, ints, e);
      not_after = below;
      stepped = subst (λ n. magnitude step ∣ n) (ap magnitude apart) multiple;
    }

in_to : {first last step number : ℤ} (far : ℕ) → number ≡ first +ℤ pos far → InSequence first last step number → magnitude step ∣ far
in_to {first = first} {step = step} {number = number} far e within =
    let apart : number -ℤ first ≡ pos far = omega (arith, ints, e) in
    subst (λ n. magnitude step ∣ n) (ap magnitude apart) within.stepped

-- the last number that may be in both
pub record IsLast (one other : ℤ × ℤ × ℤ) (last : ℤ) : Type 0 where
  pub in_one : last ≤ℤ one.1
  pub in_other : last ≤ℤ other.1
  pub is_last : (number : ℤ) → number ≤ℤ one.1 → number ≤ℤ other.1 → number ≤ℤ last

-- where the second list begins not before the first
intersects_after : {one other : ℤ × ℤ × ℤ} {last : ℤ} (ahead room : ℕ) → IsLast one other last
    → other.0 ≡ one.0 +ℤ pos ahead → last ≡ other.0 +ℤ pos room
    → IntersectWithin ahead (magnitude one.2) (magnitude other.2) room ↔ SequencesIntersect one other
intersects_after {one = one} {other = other} {last = last} ahead room at begins ends = (
  λ intersects.
      let number = other.0 +ℤ pos intersects.0 in
      let before : number ≤ℤ last = omega (arith, ints, ends, intersects.1) in (
        number,
        in_from (intersects.0 + ahead) (omega (arith, ints, begins)) (omega (arith, ints, before, at.in_one)) intersects.3,
        in_from intersects.0 refl (omega (arith, ints, before, at.in_other)) intersects.2,
      ),
  λ intersects.
      let number = intersects.0 in
      let far = magnitude (number -ℤ other.0) in
      let e : number ≡ other.0 +ℤ pos far = far_after other.0 number intersects.2.not_before in
      let below : number ≤ℤ last = at.is_last number intersects.1.not_after intersects.2.not_after in (
        far,
        omega (arith, ints, e, below, ends),
        in_to far e intersects.2,
        in_to (far + ahead) (omega (arith, ints, e, begins)) intersects.1,
      ),
)

-- both ends of what two lists may share, by the code's words
pub record IsShared (one other : ℤ × ℤ × ℤ) (first last : ℤ) : Type 0 where
  pub first_is : first ≡ int_max one.0 other.0
  pub last_is : last ≡ int_min one.1 other.1

-- and how far they lie apart, where one list begins ahead of the other
pub record IsMeasured (one other : ℤ × ℤ × ℤ) (first last : ℤ) (ahead room : ℕ) : Type 0 where
  pub ends : IsShared one other first last
  pub order : first ≤ℤ last
  pub room_is : room ≡ magnitude (last -ℤ first)
  pub ahead_is : ahead ≡ magnitude (one.0 -ℤ other.0)

module _ {one other : ℤ × ℤ × ℤ} {first last : ℤ} {ahead room : ℕ} (at : IsMeasured one other first last ahead room) where
  last_room : last ≡ first +ℤ pos room
  last_room = far_after first last at.order ∙ ap (λ n. first +ℤ pos n) (sym at.room_is)

  last_of : IsLast one other last
  last_of = record {
    in_one = omega (arith, ints, clamps, at.ends.last_is);
    in_other = omega (arith, ints, clamps, at.ends.last_is);
    is_last = λ number p q. omega (arith, ints, clamps, at.ends.last_is, p, q);
  }

  pub intersects_on : one.0 ≤ℤ other.0 → IntersectWithin ahead (magnitude one.2) (magnitude other.2) room ↔ SequencesIntersect one other
  intersects_on on =
      let begins : first ≡ other.0 = omega (arith, ints, clamps, at.ends.first_is, on) in
      let ahead_of : other.0 ≡ one.0 +ℤ pos ahead = far_before one.0 other.0 on ∙ ap (λ n. one.0 +ℤ pos n) (sym at.ahead_is) in
      intersects_after ahead room last_of ahead_of (omega (arith, ints, last_room, begins))

  -- the order of two lists does not matter
  pub intersects_back : other.0 ≤ℤ one.0 → IntersectWithin ahead (magnitude other.2) (magnitude one.2) room ↔ SequencesIntersect one other
  intersects_back back =
      let begins : first ≡ one.0 = omega (arith, ints, clamps, at.ends.first_is, back) in
      let ahead_of : one.0 ≡ other.0 +ℤ pos ahead = far_after other.0 one.0 back ∙ ap (λ n. other.0 +ℤ pos n) (sym at.ahead_is) in
      let turned_last : IsLast other one last =
      record { in_one = last_of.in_other; in_other = last_of.in_one; is_last = λ number p q. last_of.is_last number q p } in
      let turned = intersects_after ahead room turned_last ahead_of (omega (arith, ints, last_room, begins)) in (
        λ intersects. let found = turned.0 intersects in (found.0, found.2, found.1),
        λ intersects. turned.1 (intersects.0, intersects.2, intersects.1),
      )

-- where one list ends before the other begins they share none
pub intersects_none : {one other : ℤ × ℤ × ℤ} {first last : ℤ} → IsShared one other first last → last <ℤ first
    → SequencesIntersect one other → ⊥
intersects_none at order intersects =
    omega (
      arith,
      ints,
      clamps,
      at.first_is,
      at.last_is,
      order,
      intersects.1.not_before,
      intersects.1.not_after,
      intersects.2.not_before,
      intersects.2.not_after,
    )
