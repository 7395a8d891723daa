-- A number of 64 bits is that of its signed reading.
use Rattle.std.proofs.Common.{◌≡◌, ℕ, suc, Bool, true, false, List, [], ◌∷◌, get_or, map, nat_eq, ◌<◌, ◌^◌, refl, sym, ap, ◌∙◌}
use Rattle.std.specs.Int.{w64}
use Rattle.std.specs.Cmp.Lexicographic.{other_text, pointwise, same_text}
use Rattle.std.proofs.lemmas.Int.{of_z-to_z}
use Rattle.ndarray_layout.specs.Signed.{all_signed, unsigned}
use Rattle.nd_owned.proofs.ready.are_same_strides.Goals as goal

read_back : (xs : List ℕ) → ((k : ℕ) → get_or xs k 0 < 2 ^ 64) → map unsigned (all_signed xs) ≡ xs
read_back [] small = refl
read_back (x ∷ xs) small =
    ap (λ n. n ∷ map unsigned (all_signed xs)) (of_z-to_z w64 x (small 0))
    ∙ ap (λ ys. x ∷ ys) (read_back xs (λ k. small (suc k)))

pub returns : goal.returns
returns c = (
  λ same. ap all_signed (same_text c.args.one.now c.args.other.now (sym same ∙ c.eq.ensures)),
  λ same. by c.eq.result c.eq.ensures
      (sym (read_back c.args.one.now c.requires.one_fits) ∙ ap (map unsigned) same
      ∙ read_back c.args.other.now c.requires.other_fits),
)
  where
    by : (r : Bool) → r ≡ pointwise nat_eq c.args.one.now c.args.other.now → c.args.one.now ≡ c.args.other.now → r ≡ true
    by true told same = refl
    by false told same = absurd (other_text c.args.one.now c.args.other.now told same)
