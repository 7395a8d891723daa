-- The blocks of a view that is read: each of them is.
use Rattle.std.proofs.Common.{◌≡◌, ℕ, Bool, Option, Some, None, List, [], ◌∷◌, ◌++◌, take, drop, sym, subst, arith}
use Rattle.std.specs.List.{All}
use Rattle.std.specs.Prelude.{MatchOption}
use Rattle.std.proofs.lemmas.List.{get_or-map, length-map}
use Rattle.std.proofs.lemmas.List.Elements.{All-drop, All-head, All-nil, All-tail, All-take}
use Rattle.ndarray_layout.specs.ChunksView.{chunk_views, chunks_fault}
use Rattle.ndarray_layout.specs.View.{View}
use Rattle.ndarray_layout.specs.WindowsView.{window_views, windows_fault}
use Rattle.ndarray_layout.proofs.Laws.BlockStarts.{All-blocks, HasBlocks-chunks, HasBlocks-windows, IsViewOf-block}
use Rattle.nd_lent.specs.Blocks.{array_over, arrays_of}
use Rattle.nd_access.specs.Items.{ArrayValue}
use Rattle.nd_access.specs.Read.{IsRead}
use Rattle.nd_access.proofs.Laws.BothEnds.{all_second}
use Rattle.nd_access.proofs.Laws.Lists.{all_first}
use Rattle.nd_access.proofs.Laws.Read.{read_view}

pub windows_read : {marks : List Bool} {count : ℕ} {view : View} (window : List ℕ) → IsRead marks count view
    → windows_fault None view.shape window ≡ None → {views : List View} → views ≡ window_views window view
    → All (IsRead marks count) views
windows_read {marks} {count} {view} window read none are =
    let has = HasBlocks-windows None window read.has.is_view none in
    subst (All (IsRead marks count)) (sym are)
    (All-blocks has (IsRead marks count) (λ at here. read_view (IsViewOf-block has at here) read))

pub chunks_read : {marks : List Bool} {count : ℕ} {view : View} (chunk : List ℕ) → IsRead marks count view
    → chunks_fault None view.shape chunk ≡ None → {views : List View} → views ≡ chunk_views chunk view → All (IsRead marks count) views
chunks_read {marks} {count} {view} chunk read none are =
    let has = HasBlocks-chunks None chunk read.has.is_view none in
    subst (All (IsRead marks count)) (sym are)
    (All-blocks has (IsRead marks count) (λ at here. read_view (IsViewOf-block has at here) read))

-- ---- arrays of views

-- what holds of the view of each array holds of each view
pub of_views : {T : Type 0} (items : List T) (P : View → Type 0) (views : List View) {now : List (ArrayValue T)}
    → arrays_of items views ≡ now → All (λ array. P array.view) now → All P views
of_views items P views are all k d below =
    subst (λ (array : ArrayValue _). P array.view) (get_or-map (array_over items) views k d (array_over items d) below)
    (subst (All (λ array. P array.view)) (sym are) all k (array_over items d) (omega (arith, below, length-map views (array_over items))))

-- ---- one that is taken at either end
module _ {X : Type 0} (left rest : List X) {taken : Option X} {x : X} (is : taken ≡ Some x) where
  pub first_is : MatchOption taken ((left ≡ []) × (rest ≡ [])) (λ y. left ≡ y ∷ rest) → left ≡ x ∷ rest
  first_is next = subst (λ one. MatchOption one ((left ≡ []) × (rest ≡ [])) (λ y. left ≡ y ∷ rest)) is next

  pub last_is : MatchOption taken ((left ≡ []) × (rest ≡ [])) (λ y. left ≡ rest ++ y ∷ []) → left ≡ rest ++ x ∷ []
  last_is next = subst (λ one. MatchOption one ((left ≡ []) × (rest ≡ [])) (λ y. left ≡ rest ++ y ∷ [])) is next

-- what holds of each holds of those that are left without some, of one that is taken, and of the others
module _ {X : Type 0} (P : X → Type 0) (left rest : List X) (all : All P left) where
  pub after_some : (n : ℕ) → rest ≡ drop n left → All P rest
  after_some n is = subst (All P) (sym is) (All-drop P n left all)

  pub before_some : (n : ℕ) → rest ≡ take n left → All P rest
  before_some n is = subst (All P) (sym is) (All-take P n left all)

  pub of_first : (x : X) → left ≡ x ∷ rest → P x
  of_first x is = All-head P x rest (subst (All P) is all)

  pub after_first : (taken : Option X) → MatchOption taken ((left ≡ []) × (rest ≡ [])) (λ x. left ≡ x ∷ rest) → All P rest
  after_first None none = subst (All P) (sym none.1) (All-nil P)
  after_first (Some x) is = All-tail P x rest (subst (All P) is all)

  pub of_last : (x : X) → left ≡ rest ++ x ∷ [] → P x
  of_last x is = All-head P x [] (all_second P rest (x ∷ []) (subst (All P) is all))

  pub before_last : (taken : Option X) → MatchOption taken ((left ≡ []) × (rest ≡ [])) (λ x. left ≡ rest ++ x ∷ []) → All P rest
  before_last None none = subst (All P) (sym none.1) (All-nil P)
  before_last (Some x) is = all_first P rest (x ∷ []) (subst (All P) is all)
