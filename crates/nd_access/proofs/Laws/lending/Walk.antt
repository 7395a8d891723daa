-- What walks by hand begin and end with. Assumes `Logic`.
--     all_dropped      of no parameter anything is had at exit.        quiet, ends     then nothing is said of any;  and the exit is of
--                      the tokens, the result, and what gives the `ensures`
--     goes_asked, goes_free        a walk goes on from what the function asks for, beside the facts on its type parameters' lifetimes
--     shown, shown_free            the contract is met by such walks, with the parameters' machine values written out and a way out
--     shown_at         the same with the machine values as they are
use base.Logic.{emp∗}
use contract.Lifetimes.{AllOutlive, Lfts, Shares}
use contract.Running.{Running}
use denote.Exit.{yes}
use denote.Laws.{Are, Ises, Spells, Tellss, valss}
use denote.Signature.{AllWithin, Slot, mut_ref_to, type_at, types_at}
use denote.Triple.Carry.{insides, insides_out}
use denote.Triple.Clauses.{Clauses, Ended, Lasts, at_exit, closing}
use denote.Triple.End.{Fins, Kepts}
use denote.Triple.Entry.{Args, Res, alive, on_entry}
use denote.Triple.Spec.{Meets}
use denote.Triple.Walked.{AllGo, Goes-dropped, Silent, Stays, fits_of, has_of, needs, stay_dropped, stay_ref}
use mir.Syntax.{Callee}
use prog.Model.{Model}
use prog.Wp.{Closed}
use Rattle.nd_access.proofs.Laws.lending.Steps
use Steps.{Denots, Fml, Fn, List, Logic, SProp, Ura, Val, Valss, WpFn, by, emp, ent, fact, fjoin, fst∗, id⊢, leaves, move, proved}
use Steps.{proved_at, qed, raw, sem, sep, subst, sym, tables, use0, use1, via, walk_of, !, [], ‵, ℕ, ◌$◌, ◌∵◌, ◌∷◌, ◌≡◌}

module _ {n : ℕ} where
  abbrev pub dropped : (ss : List (Slot n)) (ks : Kepts ss) → Stays ss ks
  dropped [] ks = tt
  dropped (s ∷ ss) ks = (stay_dropped s ks.0, dropped ss ks.1)

  module _ (κs : Lfts n) where
    fits : (ss : List (Slot n)) (ks : Kepts ss) (a : Denots (types_at ss κs)) (ws : Fins κs ss ks a) → fits_of κs ss ks (dropped ss ks) a ws
    fits [] ks a ws = tt
    fits (s ∷ ss) ks a ws = (tt, fits ss ks.1 a.1 ws.1)

    had : {M : Type 1} {𝓤 : Ura M} (𝓛 : Logic 𝓤) (ss : List (Slot n)) (ks : Kepts ss) (a : Denots (types_at ss κs)) (ws : Fins κs ss ks a)
        (vss : Valss (types_at ss κs)) → ent 𝓤 (emp 𝓤) (sem 𝓛 (has_of κs ss ks (dropped ss ks) a ws vss))
    had {𝓤 = 𝓤} 𝓛 [] ks a ws vss = id⊢ 𝓤 (emp 𝓤)
    had {𝓤 = 𝓤} 𝓛 (s ∷ ss) ks a ws vss = via 𝓤 _ (had 𝓛 ss ks.1 a.1 ws.1 vss.1) (emp∗ 𝓤 _)

abbrev pub tail : {n : ℕ} → List (Slot n) → List (Slot n)
tail [] = []
tail (s ∷ ss) = ss

abbrev pub all_dropped : (T : Ended) → Stays T.signature.params T.kept
all_dropped T = dropped T.signature.params T.kept

module _ {M : Type 1} {𝓤 : Ura M} (𝓛 : Logic 𝓤) where
  module _ {n : ℕ} where
    abbrev pub AllSilent : (ss : List (Slot n)) → Kepts ss → Type 1
    AllSilent [] ks = Unit {1}
    AllSilent (s ∷ ss) ks = Silent 𝓛 n s ks.0 × AllSilent ss ks.1

    pub quiet : (ss : List (Slot n)) (ks : Kepts ss) → AllSilent ss ks → AllGo 𝓛 n ss ks (dropped ss ks)
    quiet [] ks q = tt
    quiet (s ∷ ss) ks q = (Goes-dropped 𝓛 n s ks.0 q.0, quiet ss ks.1 q.1)

  module _ (T : Ended) where
    abbrev n : ℕ
    n = T.signature.lifetimes

    abbrev Ss : List (Slot n)
    Ss = T.signature.params

    module _ (c : Clauses 𝓤 T) (y : (walk_of 𝓛 T (all_dropped T) c).Ghost) (v : Val) (r : Res T.signature y.0.0) (ws : Lasts T y.0.0 y.0.3)
        (P : SProp 𝓤) where
      abbrev Own : SProp 𝓤
      Own = sem 𝓛 ((type_at T.signature.result y.0.0).own_val r (v ∷ []))

      abbrev Says : SProp 𝓤
      Says = (c y.0.0 y.0.3).ensures y.1 r (at_exit T y.0.0 y.0.3 ws)

      pub ends : ent 𝓤 P Says → ent 𝓤 (sep 𝓤 (alive 𝓛 T.signature y.0.0 y.0.1) (sep 𝓤 Own P)) ((walk_of 𝓛 T (all_dropped T) c).post y v)
      ends says = qed 𝓛 (raw (alive 𝓛 T.signature y.0.0 y.0.1) ∷ raw Own ∷ raw P ∷ []) ∵ move ! (2 ∷ []) $ use1 𝓛 (raw Says) says $
          use0 𝓛 (‵ (has_of y.0.0 Ss T.kept (all_dropped T) y.0.3 ws y.0.4)) (had y.0.0 𝓛 Ss T.kept y.0.3 ws y.0.4) $
          move ! (2 ∷ 0 ∷ 3 ∷ []) $ by ! (leaves 𝓛 T (all_dropped T) c y v r ws (fits y.0.0 Ss T.kept y.0.3 ws))

    -- the first parameter is a `&mut`, which is had at exit
    module _ (s : Slot n) (ok : AllWithin n (0 ∷ [])) (ss : List (Slot n)) (ks : Kepts ss) where
      abbrev T₁ : Ended
      T₁ = record {
        signature = record {
          lifetimes = n;
          outlives = T.signature.outlives;
          params = mut_ref_to (0 ∷ []) ok s ∷ ss;
          result = T.signature.result;
        };
        kept = (yes, ks);
      }

      abbrev pub first_stays : Stays T₁.signature.params T₁.kept
      first_stays = (stay_ref (0 ∷ []) ok s, dropped ss ks)

      module _ (c : Clauses 𝓤 T₁) (y : (walk_of 𝓛 T₁ first_stays c).Ghost) (v : Val) (r : Res T.signature y.0.0)
          (new : (s.row y.0.0).Denot) (ws : Fins y.0.0 ss ks y.0.3.1) (P : SProp 𝓤) where
        abbrev First : Fml
        First = ((mut_ref_to (0 ∷ []) ok s).row y.0.0).own_val (record y.0.3.0 { now = new }) y.0.4.0

        abbrev Result : SProp 𝓤
        Result = sem 𝓛 ((type_at T.signature.result y.0.0).own_val r (v ∷ []))

        abbrev Ensures : SProp 𝓤
        Ensures = (c y.0.0 y.0.3).ensures y.1 r (at_exit T₁ y.0.0 y.0.3 (new, ws))

        pub first_ends : ent 𝓤 P Ensures → ent 𝓤 (sep 𝓤 (alive 𝓛 T.signature y.0.0 y.0.1) (sep 𝓤 (sem 𝓛 First) (sep 𝓤 Result P)))
            ((walk_of 𝓛 T₁ first_stays c).post y v)
        first_ends says = qed 𝓛 (raw (alive 𝓛 T.signature y.0.0 y.0.1) ∷ ‵ First ∷ raw Result ∷ raw P ∷ []) ∵ move ! (3 ∷ []) $
            use1 𝓛 (raw Ensures) says $
            use0 𝓛 (‵ (has_of y.0.0 ss ks (dropped ss ks) y.0.3.1 ws y.0.4.1)) (had y.0.0 𝓛 ss ks y.0.3.1 ws y.0.4.1) $
            move ! (3 ∷ 0 ∷ []) $ fjoin ! $ move ! (2 ∷ 0 ∷ 3 ∷ []) $
            by ! (leaves 𝓛 T₁ first_stays c y v r (new, ws) (tt, fits y.0.0 ss ks y.0.3.1 ws))

    module _ (hs : Stays Ss T.kept) (go : AllGo 𝓛 n Ss T.kept hs) (c : Clauses 𝓤 T) (𝓜 : Model 𝓤 𝓛.H) (𝓡 : Running 𝓤 𝓛.H 𝓜) (k : Callee)
        (e : Fn) (closed : Closed 𝓤 𝓛.H (tables 𝓤 𝓛.H 𝓜 𝓡 𝓡.env).C (tables 𝓤 𝓛.H 𝓜 𝓡 𝓡.env).Λ k e)
        (m : ℕ) (τs : Lfts n → Lfts m) (ℓs : Lfts m) where
      abbrev pub Bound : Type 0
      Bound = (walk_of 𝓛 T hs c).Ghost

      module _ (y : Bound) where
        abbrev Has : SProp 𝓤
        Has = on_entry 𝓛 T.signature y.0.0 y.0.1 y.0.3 y.0.4

        abbrev Runs : SProp 𝓤
        Runs = WpFn 𝓤 𝓛.H (tables 𝓤 𝓛.H 𝓜 𝓡 𝓡.env).C (tables 𝓤 𝓛.H 𝓜 𝓡 𝓡.env).Λ e ((walk_of 𝓛 T hs c).args y) ((walk_of 𝓛 T hs c).post y)

        abbrev pub Goes : Type 1
        Goes = ent 𝓤 Has Runs

        abbrev pub Asks : SProp 𝓤 → Type 2
        Asks R = (c y.0.0 y.0.3).requires y.1 ≡ insides 𝓤 m (τs y.0.0) ℓs R

        beside : (R : SProp 𝓤) → Asks R → ent 𝓤 (sep 𝓤 Has R) Runs → ent 𝓤 ((walk_of 𝓛 T hs c).pre y) Runs
        beside R asks goes = subst (λ (P : SProp 𝓤). ent 𝓤 (sep 𝓤 Has P) Runs) (sym asks)
            (insides_out 𝓤 m (τs y.0.0) ℓs Has R Runs (λ _. goes))

        pub goes_asked : (φ : Type 0) → Asks (fact 𝓤 φ) → (φ → Goes) → ent 𝓤 ((walk_of 𝓛 T hs c).pre y) Runs
        goes_asked φ asks walk = beside (fact 𝓤 φ) asks (needs 𝓤 φ Has walk)

        pub goes_free : Asks (emp 𝓤) → Goes → ent 𝓤 ((walk_of 𝓛 T hs c).pre y) Runs
        goes_free asks walk = beside (emp 𝓤) asks (via 𝓤 Has (fst∗ 𝓤 Has (emp 𝓤)) walk)

      -- where a parameter's type does not tell its machine values
      pub shown_at : (φ : Bound → Type 0) → ((y : Bound) → Asks y (fact 𝓤 (φ y)))
          → ((y : Bound) → Are (types_at Ss y.0.0) (Ises (types_at Ss y.0.0)) y.0.3 y.0.4 → φ y → Goes y)
          → Meets 𝓛 T.signature ((tables 𝓤 𝓛.H 𝓜 𝓡 𝓡.env).C k) (closing 𝓛 T c)
      shown_at φ asks walk = proved_at 𝓛 T hs c 𝓜 𝓡 go k e closed (λ y are. goes_asked y (φ y) (asks y) (walk y are))

      module _ (sp : (κs : Lfts n) → Spells (types_at Ss κs))
          (told : (κs : Lfts n) → Tellss (types_at Ss κs) (Ises (types_at Ss κs)) (sp κs))
          {E : Bound → Type 2} (out : (y : Bound) → E y) where
        abbrev At : (κs : Lfts n) → Shares n → AllOutlive n T.signature.outlives κs → (a : Args T.signature κs) → (c κs a).ghost → Bound
        At κs qs bounds a g = ((κs, qs, bounds, a, valss (types_at Ss κs) (sp κs) a), g)

        abbrev Each : (Bound → Type 2) → Type 2
        Each W = (κs : Lfts n) (qs : Shares n) (bounds : AllOutlive n T.signature.outlives κs) (a : Args T.signature κs)
            (g : (c κs a).ghost) → Are (types_at Ss κs) (Ises (types_at Ss κs)) a (valss (types_at Ss κs) (sp κs) a)
            → W (At κs qs bounds a g)

        pub shown : (φ : Bound → Type 0) → ((y : Bound) → Asks y (fact 𝓤 (φ y))) → Each (λ y. φ y → E y → Goes y)
            → Meets 𝓛 T.signature ((tables 𝓤 𝓛.H 𝓜 𝓡 𝓡.env).C k) (closing 𝓛 T c)
        shown φ asks walk = proved 𝓛 T hs c 𝓜 𝓡 go k e closed sp told (λ κs qs bounds a g are. let y = At κs qs bounds a g in
            goes_asked y (φ y) (asks y) (λ asked. walk κs qs bounds a g are asked (out y)))

        pub shown_free : ((y : Bound) → Asks y (emp 𝓤)) → Each (λ y. E y → Goes y)
            → Meets 𝓛 T.signature ((tables 𝓤 𝓛.H 𝓜 𝓡 𝓡.env).C k) (closing 𝓛 T c)
        shown_free asks walk = proved 𝓛 T hs c 𝓜 𝓡 go k e closed sp told (λ κs qs bounds a g are. let y = At κs qs bounds a g in
            goes_free y (asks y) (walk κs qs bounds a g are (out y)))
