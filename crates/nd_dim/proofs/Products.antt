-- Products that leave room for the lengths still to come.
use Rattle.std.proofs.Common.{le_trans, zero, suc, ◌+◌, add-one, drop-cons, mul-zero, zero-mul, get_or, length, ℕ, ◌*◌, ◌<◌, ◌≤◌, List}
use Rattle.std.proofs.Common.{◌∷◌, drop, arith, mul_assoc, one-mul, le-mul_of_pos_right, mul-le-mul_left}
use Rattle.std.proofs.lemmas.Nat.{mul-le}
use Rattle.nd_base.specs.Size.{nonzero_size}
use Rattle.nd_base.proofs.Laws.NonzeroSize.{nonzero_size_of_other, nonzero_size_pos}

-- a product that leaves room for the lengths from one on does so after it, with that length and without it
taken : (n whole top : ℕ) (lens : List ℕ) → whole * nonzero_size (n ∷ lens) ≤ top → (whole * n) * nonzero_size lens ≤ top
taken zero whole top lens room = rw (mul-zero, zero-mul) (omega arith)
taken (suc n) whole top lens room =
    let factor = nonzero_size_of_other (suc n) lens (λ e. omega arith) in
    rw mul_assoc (rw factor at room)

left : (n whole top : ℕ) (lens : List ℕ) → whole * nonzero_size (n ∷ lens) ≤ top → whole * nonzero_size lens ≤ top
left zero whole top lens room = room
left (suc n) whole top lens room =
    let factor = nonzero_size_of_other (suc n) lens (λ e. omega arith) in
    let all : whole * (suc n * nonzero_size lens) ≤ top = rw factor at room in
    let least = mul-le 1 (nonzero_size lens) (suc n) (nonzero_size lens) (omega arith) (omega arith) in
    let less = mul-le-mul_left whole (rw one-mul at least) in
    le_trans less all

module _ (lens : List ℕ) (k whole top : ℕ) (h : k < length lens) (room : whole * nonzero_size (drop k lens) ≤ top) where
  pub room_taken : (whole * get_or lens k 0) * nonzero_size (drop (k + 1) lens) ≤ top
  room_taken = rw add-one (taken (get_or lens k 0) whole top (drop (suc k) lens) (rw (drop-cons lens k 0 h) at room))

  pub room_left : whole * nonzero_size (drop (k + 1) lens) ≤ top
  room_left = rw add-one (left (get_or lens k 0) whole top (drop (suc k) lens) (rw (drop-cons lens k 0 h) at room))

pub within_room : (lens : List ℕ) (whole top : ℕ) → whole * nonzero_size lens ≤ top → whole ≤ top
within_room lens whole top room = let more : whole ≤ whole * nonzero_size lens = le-mul_of_pos_right whole (nonzero_size_pos lens) in
    omega arith
