-- Once the items that are left are at the places of the parts that are left, all are at theirs.
use Rattle.std.proofs.Common.{◌≢◌, List, drop}
use Rattle.std.specs.List.{AllPairs, flat_map}
use Rattle.nd_owned.specs.private.PickedView.{picked_places}
use Rattle.nd_owned.specs.private.Written.{HasWritten}
use Rattle.nd_owned.proofs.multi_set.write_all.Given as goal

abbrev pub invariant-loop-one : goal.invariant-loop-one
invariant-loop-one g l = record {
  distinct : AllPairs (λ one other. one ≢ other) (flat_map (λ one. picked_places one.view) l.parts)
      → AllPairs (λ one other. one ≢ other) (flat_map (λ one. picked_places one.view) (drop l.one-index l.parts));
  written : AllPairs (λ one other. one ≢ other) (flat_map (λ one. picked_places one.view) l.parts) → (new : List g.row.T.Denot)
      → HasWritten (flat_map (λ one. picked_places one.view) (drop l.one-index l.parts))
      (flat_map (λ one. one.items.now) (drop l.one-index l.parts)) l.stored new
      → HasWritten (flat_map (λ one. picked_places one.view) l.parts) (flat_map (λ one. one.items.now) l.parts) l.initial.stored new;
}
