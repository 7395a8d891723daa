-- Views of an array that owns its items: a view that descends from its own has one of the items for each index too.
use Rattle.std.proofs.Common.{◌≡◌, ℕ, List, Result, Ok, Err, subst, sym}
use Rattle.std.specs.Prelude.{OnErr, OnOk}
use Rattle.ndarray_layout.specs.Descends.{Descends}
use Rattle.ndarray_layout.specs.View.{View}
use Rattle.nd_access.specs.Items.{IsOwned}

pub owned_descendant : {source : List ℕ → List ℕ} {old new : View} (count : ℕ) → Descends source old new → IsOwned count old
    → IsOwned count new
owned_descendant count kept owned = record {
  is_view = kept.is_view;
  within = kept.in_bounds count owned.within;
  distinct = kept.distinct owned.distinct;
}

-- the same of a view that is changed in place, or unchanged after an error
pub owned_after : {X E : Type 0} (result : Result X E) (source : List ℕ → List ℕ) {old new : View} (count : ℕ) → OnErr result (new ≡ old)
    → OnOk result (Descends source old new) → IsOwned count old → IsOwned count new
owned_after (Ok x) source count same kept owned = owned_descendant count kept owned
owned_after (Err e) source count same kept owned = subst (IsOwned count) (sym same) owned
