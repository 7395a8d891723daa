-- A pass along the axes of a shape with the elements of two slice arguments for them.
use Rattle.std.proofs.Common.{◌≡◌, ℕ, ◌<◌, ◌^◌, ◌↔◌, None, List, [], ◌∷◌, All, map}
use Rattle.std.proofs.lemmas.List.Elements.{All-head, All-tail}
use Rattle.std.specs.List.{AllZip}
use Rattle.nd_base.proofs.Laws.Options.{option_or_none}
use Rattle.nd_slice.proofs.Definitions.{Fit, PicksIntersect, SliceInfoElem, elem_fault, elem_picks, fault_of_each}

abbrev pub lens_of : List (ℕ × SliceInfoElem) → List ℕ
lens_of elems = map (λ one. one.0) elems

abbrev pub picks_of : Fit → List (ℕ × SliceInfoElem) → List (List ℕ)
picks_of fit elems = map (λ one. elem_picks fit one.0 one.1) elems

-- what is left of two arguments without fault decides whether they share a pick of every axis
pub record IsDecided (fit : Fit) (first second : List (List ℕ)) (one other : List (ℕ × SliceInfoElem)) : Type 0 where
  pub small : All (λ len. len < 2 ^ 63) (lens_of one)
  pub lens : lens_of one ≡ lens_of other
  pub fits : fault_of_each fit one ≡ None
  pub other_fits : fault_of_each fit other ≡ None
  pub same : AllZip PicksIntersect first second ↔ AllZip PicksIntersect (picks_of fit one) (picks_of fit other)

-- the elements of both for the next axis
pub record AreNext (fit : Fit) (len : ℕ) (e f : SliceInfoElem) : Type 0 where
  pub small : len < 2 ^ 63
  pub fits : elem_fault fit len e ≡ None
  pub other_fits : elem_fault fit len f ≡ None

module _ {fit : Fit} {first second : List (List ℕ)} {one other after after' : List (ℕ × SliceInfoElem)} {len len' : ℕ}
    {e f : SliceInfoElem} (at : IsDecided fit first second one other) (p : one ≡ (len, e) ∷ after) (q : other ≡ (len', f) ∷ after') where
  here : IsDecided fit first second ((len, e) ∷ after) ((len', f) ∷ after')
  here = rw (p, q) at at

  same_len : len' ≡ len
  same_len = let lens = here.lens in cc

  pub next : AreNext fit len e f
  next = record {
    small = All-head (λ n. n < 2 ^ 63) len (lens_of after) here.small;
    fits = (option_or_none (elem_fault fit len e) here.fits).0;
    other_fits = rw same_len at ((option_or_none (elem_fault fit len' f) here.other_fits).0);
  }

  both : AllZip PicksIntersect first second
      ↔ (PicksIntersect (elem_picks fit len e) (elem_picks fit len f) × AllZip PicksIntersect (picks_of fit after) (picks_of fit after'))
  both = rw same_len at here.same

  -- where they share a pick of the next axis, the axes after it decide
  pub go_on : PicksIntersect (elem_picks fit len e) (elem_picks fit len f) → IsDecided fit first second after after'
  go_on intersect = record {
    small = All-tail (λ n. n < 2 ^ 63) len (lens_of after) here.small;
    lens = let lens = here.lens in cc;
    fits = (option_or_none (elem_fault fit len e) here.fits).1;
    other_fits = (option_or_none (elem_fault fit len' f) here.other_fits).1;
    same = (λ all. (both.0 all).1, λ rest. both.1 (intersect, rest));
  }

  -- where they share none, they share none of all axes
  pub stop : (PicksIntersect (elem_picks fit len e) (elem_picks fit len f) → ⊥) → AllZip PicksIntersect first second → ⊥
  stop apart all = apart ((both.0 all).0)

-- after the last axis they do
pub at_end : {fit : Fit} {first second : List (List ℕ)} {one other : List (ℕ × SliceInfoElem)}
    → IsDecided fit first second one other → one ≡ [] → AllZip PicksIntersect first second
at_end {other = []} at none = let same = rw none at at.same in same.1 tt
at_end {other = f ∷ after} at none = absurd (cc at.lens)
