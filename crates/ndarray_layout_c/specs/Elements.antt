-- What the elements mean by which C names a slice.
use Rattle.std.specs.Prelude.{◌≡◌, ℕ, ℤ, pos, negsuc, Bool, false, ◌||◌, Some, None, if◌then◌else◌, List, [], ◌∷◌, map, refl}
use Rattle.std.specs.List.{list_all}
use Rattle.std.specs.Ordering.{int_eq}
use Rattle.ndarray_layout.specs.declared.SliceInfoElem.{SliceInfoElem}
use Rattle.ndarray_layout.specs.declared.SliceInfoElem.TheVariants.{Slice, Index, NewAxis}
use Rattle.ndarray_layout.specs.SlicedView.{slice_of}
use Rattle.ndarray_layout.specs.View.{View, view_of}
use Rattle.ndarray_layout_c.specs.Arguments.{fit_named}
use Rattle.ndarray_layout_c.specs.declared.elements.RawElem.{RawElem}

-- the kind of an element has a meaning
abbrev pub is_elem : RawElem → Bool
is_elem raw = int_eq raw.kind (pos 0) || int_eq raw.kind (pos 1) || int_eq raw.kind (pos 2)

-- each element has a meaning
abbrev pub are_elems : List RawElem → Bool
are_elems raws = list_all is_elem raws

-- the meaning of an element: a range with a step for 0, to the end of the axis where `has_end` is 0; an index for 1; else a new axis
abbrev pub elem_named : RawElem → SliceInfoElem
elem_named raw =
    if int_eq raw.kind (pos 0) then Slice raw.start (if int_eq raw.has_end (pos 0) then None else Some raw.end) raw.step
    else if int_eq raw.kind (pos 1) then Index raw.start
    else NewAxis

-- the meanings of elements
abbrev pub elems_named : List RawElem → List SliceInfoElem
elems_named raws = map elem_named raws

-- what a slice leaves of a layout
abbrev pub sliced_view : ℤ → List RawElem → ℕ → List ℕ → List ℕ → View
sliced_view fit raws start shape strides = slice_of (fit_named fit) (elems_named raws) (view_of start shape strides)

-- examples
range_to_the_end : elem_named (record { kind = pos 0; has_end = pos 0; start = pos 1; end = pos 9; step = negsuc 1 })
    ≡ Slice (pos 1) None (negsuc 1)
range_to_the_end = refl

range_with_an_end : elem_named (record { kind = pos 0; has_end = pos 1; start = pos 1; end = pos 9; step = pos 1 })
    ≡ Slice (pos 1) (Some (pos 9)) (pos 1)
range_with_an_end = refl

one_coordinate : elem_named (record { kind = pos 1; has_end = pos 0; start = negsuc 0; end = pos 0; step = pos 0 }) ≡ Index (negsuc 0)
one_coordinate = refl

no_fourth_kind : is_elem (record { kind = pos 3; has_end = pos 0; start = pos 0; end = pos 0; step = pos 0 }) ≡ false
no_fourth_kind = refl

every_other_backwards :
    sliced_view (pos 0) (record { kind = pos 0; has_end = pos 0; start = pos 1; end = pos 0; step = negsuc 1 } ∷ []) 5 (4 ∷ []) (3 ∷ [])
    ≡ record { start = 14; shape = 2 ∷ []; strides = negsuc 5 ∷ [] }
every_other_backwards = refl
