-- What a `&` to cells or to a reader shows: a `&` to the pointer, and one to each element that has a mark. Assumes `Logic`.
--     Sight            what such a `&` is.        cells_seen, reader_seen     the two
--     shows_first      it shows the pointer.        seen     a walk goes on from what it shows, for as long or for a shorter time
use base.Before.{before}
use denote.Opens.{shr_dup}
use denote.Param.Shared.{copy_shared, parts_row_laws}
use denote.Struct.Field.{RawPtr-field}
use denote.Struct.Laws.{RawPtr-copy, field_copy}
use denote.Struct.Struct.{Struct-row_laws}
use types.Na.{before-Incl}
use Rattle.std.specs.contracts.marker.PhantomData as marker
use Rattle.nd_access.specs.Cells.{known, lent_where}
use Rattle.nd_access.specs.contracts.cells.Cells as C
use Rattle.nd_access.specs.contracts.cells.Reader as R
use Rattle.nd_access.specs.declared.cells.Cells.{Cells}
use Rattle.nd_access.specs.declared.cells.Reader.{Reader}
use Rattle.nd_access.proofs.Laws.lending.Held.{Words, fields}
use Rattle.nd_access.proofs.lending.Shared.{lent_where_laws}
use Rattle.nd_access.proofs.Laws.lending.Steps
use Steps.{Bool, Bor, Calls, Denots, Fml, Fn, Incl, Lft, List, Logic, Loops, MutRef, NamedLft, Ptr, RattleType, RawPtr, RowLaws, SProp}
use Steps.{Share, ShrRef, Sym, Ura, Val, Valss, WpFn, block_of, block_ptr, by, count_of, done, drop, ent, fhide, flft, fsep, fsplit}
use Steps.{hidden_shr, hide, id⊢, keep, move, named, owns, pure_l, qed, raw, refl, rewrite, sem, sep, shadow, shr_vals, split, unhide, use0}
use Steps.{use1, use2, !, [], ‵, ◌$◌, ◌++◌, ◌+◌, ◌∵◌, ◌∷◌, ◌⊛◌}

module _ {M : Type 1} {𝓤 : Ura M} (𝓛 : Logic 𝓤) where
  open 𝓛 use {H, A}

  -- the name of the value's type, its elements' and its mark's type, and that type; for how long it is borrowed, and the `&`; the pointer,
  -- the marks and the elements, and for how long these are lent; and what the `&` owns
  pub record Sight : Type 2 where
    pub name : Sym
    pub item : RattleType
    pub mark : RattleType
    pub self : RattleType
    pub at : Lft
    pub to : Bor self.Denot
    pub first : Ptr
    pub marks : List Bool
    pub items : List item.Denot
    pub time : Lft
    pub held : ent 𝓤 (sem 𝓛 (hidden_shr self at to.now to.ref_ptr.0 to.ref_ptr.1))
        (sep 𝓤 (sem 𝓛 (hidden_shr (Words name item mark) at (first, (tt, tt)) to.ref_ptr.0 to.ref_ptr.1))
        (sem 𝓛 (fhide (fsep (known item first marks items) (lent_where item first marks items time)))))

  abbrev pub cells_seen : (a : NamedLft) (V : RattleType) (κ : Lft) → Bor (Cells V.Denot) → Sight
  cells_seen a V κ x = record {
    name = (C.struct a V).name;
    item = V;
    mark = MutRef a.mir a.lft V;
    self = C.the_row a V;
    at = κ;
    to = x;
    first = x.now.first;
    marks = x.now.marks;
    items = x.now.items;
    time = κ ++ a.lft;
    held = id⊢ 𝓤 _;
  }

  abbrev pub reader_seen : (a : NamedLft) (V : RattleType) (κ : Lft) → Bor (Reader V.Denot) → Sight
  reader_seen a V κ x = record {
    name = (R.struct a V).name;
    item = V;
    mark = ShrRef a.mir a.lft V;
    self = R.the_row a V;
    at = κ;
    to = x;
    first = x.now.first;
    marks = x.now.marks;
    items = x.now.items;
    time = a.lft;
    held = id⊢ 𝓤 _;
  }

  module _ (S : Sight) where
    open S use {item, marks, items, to, at}

    abbrev pub spot : Ptr
    spot = block_ptr (block_of S.first) (count_of S.first)

    abbrev pub Fields : Fml
    Fields = hidden_shr (Words S.name item S.mark) at (S.first, (tt, tt)) to.ref_ptr.0 to.ref_ptr.1

    abbrev pub Known : Type 0
    Known = shadow (known item S.first marks items)

    pub shows_first : ent 𝓤 (sem 𝓛 Fields) (sep 𝓤 (sem 𝓛 (hidden_shr RawPtr at S.first to.ref_ptr.0 (to.ref_ptr.1 + 0))) (sem 𝓛 Fields))
    shows_first =
        let laws : RowLaws (Words S.name item S.mark) = Struct-row_laws (fields S.name item S.mark)
        (parts_row_laws (RawPtr-field ∷ marker.the_field S.mark ∷ [])
        (copy_shared RawPtr-field RawPtr-copy, (copy_shared (marker.the_field S.mark) (field_copy (marker.the_type S.mark) tt), tt))) in
        qed 𝓛 (‵ Fields ∷ []) ∵ shr_dup ! (Words S.name item S.mark) laws (S.first, (tt, tt)) to.ref_ptr.0 to.ref_ptr.1 at $
        unhide ! $ fsplit ! $ fsplit ! $ hide ! $ keep ! (0 ∷ 3 ∷ []) $ done !

    pub seen : (L : RowLaws item) (short : Lft) → Incl short S.time → (Rs : List RattleType) (xs : Denots Rs) (vss : Valss Rs) (q : Share)
        (Rest : SProp 𝓤) (C : Calls 𝓤 H) (Λ : Loops 𝓤 H) (fn : Fn) (vs : List Val) (Post : Val → SProp 𝓤)
        → (Known → ent 𝓤 (sep 𝓤 (sem 𝓛 Fields) (sep 𝓤 (A.lft at q) (sep 𝓤 (sem 𝓛 (lent_where item spot marks items short)) Rest)))
        (WpFn 𝓤 H C Λ fn vs Post))
        → ent 𝓤 (sep 𝓤 (sep 𝓤 (A.lft at q) Rest) (sem 𝓛 (owns (ShrRef (named 0) at S.self ∷ Rs) (to, xs) (shr_vals to, vss))))
        (WpFn 𝓤 H C Λ fn vs Post)
    seen L short inc Rs xs vss q Rest C Λ fn vs Post next =
        let All : Fml = fsep (known item S.first marks items) (lent_where item S.first marks items S.time) in
        let Self : Fml = owns (ShrRef (named 0) at S.self ∷ Rs) (to, xs) (shr_vals to, vss) in
        qed 𝓛 ((‵ (flft at q) ⊛ raw Rest) ∷ ‵ Self ∷ []) {P = WpFn 𝓤 H C Λ fn vs Post} (
        move ! (1 ∷ []) $ fsplit ! $ fsplit ! $ drop ! $ use1 𝓛 (‵ Fields ⊛ ‵ (fhide All)) S.held $ split ! $ move ! (1 ∷ []) $ unhide ! $
        fsplit ! $ pure_l ! (known item S.first marks items) (λ k.
        rewrite ! 0 (λ (z : Ptr). ‵ (lent_where item z marks items S.time)) k.0 refl $
        use0 𝓛 (‵ (before short S.time)) (before-Incl 𝓛 short S.time inc) $
        use2 𝓛 (‵ (lent_where item spot marks items short)) ((lent_where_laws item L spot marks items).mono M 𝓤 𝓛 short S.time) $
        move ! (3 ∷ []) $ split ! $ keep ! (3 ∷ 0 ∷ 2 ∷ 1 ∷ []) $ by ! (next k)))
