-- Items that are copied to the end of a list.
use Rattle.std.proofs.Common.{◌≡◌, ℕ, ◌+◌, ◌<◌, Option, Some, None, List, [], ◌∷◌, ◌++◌, length, get_or, map, take, sym, ap, ◌∙◌}
use Rattle.std.proofs.lemmas.List.{append_assoc, map_push, take_more}

pub one_more_copied : {T : Type 0} (made before : List T) {now : List T} (items : List (Option T)) {k : ℕ} {x : T} → k < length items
    → get_or items k None ≡ Some x → now ≡ before ++ x ∷ [] → map Some before ≡ map Some made ++ take k items
    → map Some now ≡ map Some made ++ take (k + 1) items
one_more_copied made before items {k} {x} below is now so_far =
    ap (map Some) now
    ∙ map_push Some before x
    ∙ ap (λ xs. xs ++ Some x ∷ []) so_far
    ∙ append_assoc (map Some made) (take k items) (Some x ∷ [])
    ∙ ap (λ xs. map Some made ++ xs) (sym (take_more items k None below ∙ ap (λ y. take k items ++ y ∷ []) is))

-- copies of the first of what is left come after what is made; those after them are left
pub row_copied : {T : Type 0} (made now : List T) (row left : List (Option T)) {all before : List (Option T)}
    → map Some now ≡ map Some made ++ row → before ≡ row ++ left → map Some made ++ before ≡ all → map Some now ++ left ≡ all
row_copied made now row left copied is all =
    ap (λ xs. xs ++ left) copied
    ∙ append_assoc (map Some made) row left
    ∙ ap (λ xs. map Some made ++ xs) (sym is)
    ∙ all
