-- Laws of values that may be missing.
use Rattle.std.proofs.Common.{◌≡◌, Bool, true, false, cond, Option, Some, None, refl, ap}
use Rattle.std.specs.Option.{option_or, option_map, option_and_then}

-- the first of two that is there is none where neither is
pub option_or_none : {A : Type 0} (first : Option A) {second : Option A}
    → option_or first second ≡ None → (first ≡ None) × (second ≡ None)
option_or_none None none = (refl, none)
option_or_none (Some x) none = absurd (cc)

-- a value that a test gives is missing where the test fails
pub cond_none : {A : Type 0} (test : Bool) (x : A) → cond test (Some x) None ≡ None → test ≡ false
cond_none true x none = absurd (cc)
cond_none false x none = refl

-- ---- a function of the value
pub option_map-option_map : {A B C : Type 0} (f : B → C) (g : A → B) (o : Option A)
    → option_map f (option_map g o) ≡ option_map (λ x. f (g x)) o
option_map-option_map f g None = refl
option_map-option_map f g (Some x) = refl

-- functions that agree on the value give the same
pub option_map_same : {A B : Type 0} {f g : A → B} (o : Option A)
    → ((x : A) → o ≡ Some x → f x ≡ g x) → option_map f o ≡ option_map g o
option_map_same None same = refl
option_map_same (Some x) same = ap Some (same x refl)

-- ---- a function of the value that may give none
pub and_then_same : {A B : Type 0} {f g : A → Option B} (o : Option A)
    → ((x : A) → o ≡ Some x → f x ≡ g x) → option_and_then f o ≡ option_and_then g o
and_then_same None same = refl
and_then_same (Some x) same = same x refl

pub and_then-option_map : {A B C : Type 0} (f : B → Option C) (g : A → B) (o : Option A)
    → option_and_then f (option_map g o) ≡ option_and_then (λ x. f (g x)) o
and_then-option_map f g None = refl
and_then-option_map f g (Some x) = refl
