-- Slices of a view whose parts are still to be lent.
use Rattle.std.specs.Prelude.{◌≡◌, None, Bool, List}
use Rattle.std.specs.List.{All}
use Rattle.std.proofs.Props.{props}
use Rattle.ndarray_layout.specs.declared.Fit.TheVariants.{Strict}
use Rattle.ndarray_layout.specs.declared.SliceInfoElem.{SliceInfoElem}
use Rattle.ndarray_layout.specs.DistinctPlaces.{HasDistinctPlaces}
use Rattle.ndarray_layout.specs.IntersectingPair.{slices_fault}
use Rattle.ndarray_layout.specs.SlicedView.{slice_of}
use Rattle.ndarray_layout.specs.View.{View, IsView}
use Rattle.nd_access.specs.Part.{AreMarked}
use Rattle.nd_lent.specs.Slices.{AreApartInPlace}

-- each slice fits, each of its places has a mark, and no two slices share a place
pub record HasSlices (marks : List Bool) (view : View) (slices : List (List SliceInfoElem)) : Type 0 where
  pub is_view : IsView view
  pub distinct : HasDistinctPlaces view
  pub fits : slices_fault Strict view.shape slices ≡ None
  pub marked : All (λ slice. AreMarked marks (slice_of Strict slice view)) slices
  pub apart : AreApartInPlace view slices

-- it has one proof at most, so it may be a ghost field
pub HasSlices-prop : (marks : List Bool) (view : View) (slices : List (List SliceInfoElem)) → IsProp (HasSlices marks view slices)
HasSlices-prop marks view slices = Prim.hlevel props
