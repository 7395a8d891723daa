-- Lists of pairs: of some items, and then of others.
use Rattle.std.proofs.Common.{◌≡◌, Option, List, [], ◌∷◌, ◌++◌, length, refl, ap, arith}
use Rattle.std.specs.Option.{option_zip}
use Rattle.nd_access.specs.Zipped.{pairs_of}

pub pairs_append : {X Y : Type 0} (xs more : List (Option X)) (ys others : List (Option Y)) → length xs ≡ length ys
    → pairs_of (xs ++ more) (ys ++ others) ≡ pairs_of xs ys ++ pairs_of more others
pairs_append [] more [] others count = refl
pairs_append [] more (y ∷ ys) others count = absurd (omega arith)
pairs_append (x ∷ xs) more [] others count = absurd (omega arith)
pairs_append (x ∷ xs) more (y ∷ ys) others count =
    ap (λ pairs. option_zip x y ∷ pairs) (pairs_append xs more ys others (omega (arith, count)))
