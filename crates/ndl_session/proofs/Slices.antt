-- A text cut at its first separator reads as one cut at all of them, where a number follows.
use Rattle.std.proofs.Common.{◌≡◌, ◌≢◌, true, ℕ, ℤ, List, [], ◌∷◌, take, drop, eqb, nat_eq, Option, Some, None, refl, sym, ap, ◌∙◌}
use Rattle.std.specs.Option.{option_map}
use Rattle.std.proofs.lemmas.Bool.{and_parts}
use Rattle.std.specs.Cmp.Lexicographic.{pointwise}
use Rattle.ndarray_layout.specs.declared.SliceInfoElem.{SliceInfoElem}
use Rattle.ndarray_layout.specs.declared.SliceInfoElem.TheVariants as elem
use Rattle.ndl_session.specs.text.Bytes.{dot, semicolon}
use Rattle.ndl_session.specs.script.Reading.{◌>>=◌}
use Rattle.ndl_session.specs.text.Lines.{cut_at}
use Rattle.ndl_session.specs.text.Numbers.{signed_number_of}
use Rattle.ndl_session.specs.script.Elements.{start_of, end_of, slice_of_bounds, slice_of_pieces}
use Rattle.ndl_session.proofs.text_lemmas.Parts.{lone_part, some_part}
use Rattle.ndl_session.proofs.text_lemmas.NumberParts.{no_dot, no_semicolon, number_part}

-- ---- the step
module _ (range step : List ℕ) where
  step_at : (cut : List (List ℕ)) (o : Option ℤ) → signed_number_of step ≡ o → ((z : ℤ) → o ≡ Some z → cut ≡ step ∷ [])
      → ((part : List ℕ) → cut ≡ part ∷ [] → part ≡ step) → cut ≢ []
      → slice_of_pieces (range ∷ cut) ≡ (o >>= λ z. slice_of_bounds z (cut_at dot range))
  step_at cut (Some z) e one lone some = rw (one z refl, e) refl
  step_at [] None e one lone some = absurd (some refl)
  step_at (part ∷ []) None e one lone some = rw (lone part refl, e) refl
  step_at (part ∷ other ∷ more) None e one lone some = refl

  pub with_step : slice_of_pieces (range ∷ cut_at semicolon step) ≡ (signed_number_of step >>= λ z. slice_of_bounds z (cut_at dot range))
  with_step =
      step_at (cut_at semicolon step) (signed_number_of step) refl
      (number_part semicolon no_semicolon step) (lone_part semicolon step) (some_part semicolon step)

-- ---- the bounds
some_of_map : {A B : Type 0} (f : A → B) (o : Option A) (y : B) → option_map f o ≡ Some y → (x : A) × (o ≡ Some x)
some_of_map f (Some x) y e = (x, refl)
some_of_map f None y e = absurd (cc)

end_part : (end : List ℕ) (e : Option ℤ) → end_of end ≡ Some e → cut_at dot end ≡ end ∷ []
end_part [] e h = refl
end_part (b ∷ bs) e h =
    let some = some_of_map Some (signed_number_of (b ∷ bs)) e h in
    number_part dot no_dot (b ∷ bs) some.0 some.1

abbrev pub slice_from : ℤ → Option ℤ → Option (Option ℤ) → Option SliceInfoElem
slice_from step start end = start >>= λ s. end >>= λ e. Some (elem.Slice s e step)

no_end : (step : ℤ) (start : Option ℤ) → slice_from step start None ≡ None
no_end step (Some s) = refl
no_end step None = refl

module _ (step : ℤ) (start end : List ℕ) where
  bounds_at : (cut : List (List ℕ)) (o : Option (Option ℤ)) → end_of end ≡ o → ((e : Option ℤ) → o ≡ Some e → cut ≡ end ∷ [])
      → ((part : List ℕ) → cut ≡ part ∷ [] → part ≡ end)
      → slice_of_bounds step (start ∷ [] ∷ cut) ≡ slice_from step (start_of start) o
  bounds_at cut (Some e) h one lone = rw (one e refl, h) refl
  bounds_at [] None h one lone = sym (no_end step (start_of start))
  bounds_at (part ∷ []) None h one lone = rw (lone part refl, h) refl
  bounds_at (part ∷ other ∷ more) None h one lone = sym (no_end step (start_of start))

  two_dots : slice_of_bounds step (start ∷ [] ∷ cut_at dot end) ≡ slice_from step (start_of start) (end_of end)
  two_dots = bounds_at (cut_at dot end) (end_of end) refl (end_part end) (lone_part dot end)

-- both dots are there
pub cut_bounds : {start end : List ℕ} (step : ℤ) (range rest : List ℕ) → cut_at dot range ≡ start ∷ cut_at dot rest
    → pointwise nat_eq (take 1 rest) (dot ∷ []) ≡ true → end ≡ drop 1 rest
    → slice_of_bounds step (cut_at dot range) ≡ slice_from step (start_of start) (end_of end)
cut_bounds step range [] cut second e = absurd (cc)
cut_bounds {start} step range (b ∷ bs) cut second e =
    rw (cut, (and_parts (eqb b dot) true second).0) (two_dots step start bs ∙ ap (λ t. slice_from step (start_of start) (end_of t)) (sym e))
