-- Laws of views whose indices lie where their sources in another view do.
use Rattle.std.proofs.Common.{◌≡◌, ℕ, true, List, refl, sym, subst, ◌∙◌}
use Rattle.std.proofs.lemmas.List.Elements.{All-map, All-weaker}
use Rattle.std.specs.List.{All, Contains}
use Rattle.nd_base.specs.declared.order.Order.{Order}
use Rattle.nd_base.proofs.Laws.Definitions.{indices_in, is_index, IsInBounds}
use Rattle.nd_base.proofs.Laws.Indices.{All-indices_in, Contains-indices_in}
use Rattle.ndarray_layout.specs.Descends.{Descends, IsViewOf}
use Rattle.ndarray_layout.specs.KeepsPlaces.{KeepsPlaces}
use Rattle.ndarray_layout.specs.View.{View, IsView, LiesWithin, place_at, view_places}
use Rattle.nd_base.proofs.Laws.Lists.{Contains-map}

-- such a view lies within the data that the other lies within
pub LiesWithin-kept : (len : ℕ) (source : List ℕ → List ℕ) (view result : View) → KeepsPlaces source view result → LiesWithin len view
    → LiesWithin len result
LiesWithin-kept len source view result keeps within = λ index here.
    let stays = keeps index here in
    subst (IsInBounds len) (sym stays.1) (within (source index) stays.0)

-- so a view whose indices lie where their sources do is one of the same data
pub IsViewOf-kept : {source : List ℕ → List ℕ} {old new : View} → IsView new → KeepsPlaces source old new → IsViewOf source old new
IsViewOf-kept {source} {old} {new} v keeps =
    record { is_view = v; places = keeps; in_bounds = λ len. LiesWithin-kept len source old new keeps }

-- different indices of the result stand for different ones
abbrev pub AreApart : (List ℕ → List ℕ) → View → Type 0
AreApart source new = (index other : List ℕ) → is_index new.shape index ≡ true → is_index new.shape other ≡ true → source index
    ≡ source other → index ≡ other

-- and then no two of them share a place where no two of the view do
pub Descends-kept : {source : List ℕ → List ℕ} {old new : View} → IsView new → KeepsPlaces source old new → AreApart source new
    → Descends source old new
Descends-kept {source} {old} {new} v keeps apart = record {
  is_view = v;
  places = keeps;
  in_bounds = λ len. LiesWithin-kept len source old new keeps;
  distinct = λ distinct index other here there same.
      let first = keeps index here in
      let second = keeps other there in
      apart index other here there (distinct (source index) (source other) first.0 second.0 (sym first.1 ∙ same ∙ second.1));
}

-- a source may be told otherwise
pub KeepsPlaces-told : {source other : List ℕ → List ℕ} (old new : View) → KeepsPlaces source old new
    → ((index : List ℕ) → is_index new.shape index ≡ true → source index ≡ other index) → KeepsPlaces other old new
KeepsPlaces-told old new keeps same index here =
    subst (λ at. (is_index old.shape at ≡ true) × (place_at new index ≡ place_at old at)) (same index here) (keeps index here)

pub IsViewOf-told : {source other : List ℕ → List ℕ} {old new : View} → IsViewOf source old new
    → ((index : List ℕ) → is_index new.shape index ≡ true → source index ≡ other index) → IsViewOf other old new
IsViewOf-told {old = old} {new} d same =
    record { is_view = d.is_view; places = KeepsPlaces-told old new d.places same; in_bounds = d.in_bounds }

pub Descends-told : {source other : List ℕ → List ℕ} {old new : View} → Descends source old new
    → ((index : List ℕ) → is_index new.shape index ≡ true → source index ≡ other index) → Descends other old new
Descends-told {old = old} {new} d same =
    record { is_view = d.is_view; places = KeepsPlaces-told old new d.places same; in_bounds = d.in_bounds; distinct = d.distinct }

pub IsViewOf-Descends : {source : List ℕ → List ℕ} {old new : View} → Descends source old new → IsViewOf source old new
IsViewOf-Descends d = record { is_view = d.is_view; places = d.places; in_bounds = d.in_bounds }

-- a view is one of its own data
pub IsViewOf-stayed : {view : View} → IsView view → IsViewOf (λ index. index) view view
IsViewOf-stayed v = record { is_view = v; places = λ index here. (here, refl); in_bounds = λ len within. within }

-- and a view's view is one of the first one's, by the sources of the sources
pub IsViewOf-in_turn : {source more : List ℕ → List ℕ} {view between result : View} → IsViewOf source view between
    → IsViewOf more between result
    → IsViewOf (λ index. source (more index)) view result
IsViewOf-in_turn {source} {more} {view} {between} {result} first second = IsViewOf-kept second.is_view (λ index here.
    let near = second.places index here in
    let far = first.places (more index) near.0 in
    (far.0, near.1 ∙ far.1))

-- each of its places is one of the other's
pub places_are_kept : (order : Order) (source : List ℕ → List ℕ) (view result : View) → KeepsPlaces source view result
    → All (Contains (view_places order view)) (view_places order result)
places_are_kept order source view result keeps =
    let places = view_places order view in
    let stays : (index : List ℕ) → is_index result.shape index ≡ true → Contains places (place_at result index) = λ index here.
    let kept = keeps index here in
    subst (Contains places) (sym kept.1) (Contains-map (place_at view) (indices_in order view.shape)
    (Contains-indices_in order view.shape (source index) kept.0)) in
    let indices = indices_in order result.shape in
    All-map (Contains places) (place_at result) indices (All-weaker (λ index. is_index result.shape index ≡ true)
    (λ index. Contains places (place_at result index)) stays indices (All-indices_in order result.shape))
