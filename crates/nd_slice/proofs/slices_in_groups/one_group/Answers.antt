-- One more slice with its position.
use Rattle.std.proofs.Common.{◌≡◌, ◌++◌, ◌<◌, [], ◌∷◌, length, map, take, get_or, refl, ap, sym, subst, ◌∙◌, arith}
use Rattle.std.specs.List.{All, enumerate_from}
use Rattle.std.proofs.lemmas.List.{length-map, map_push, take_all, take_more}
use Rattle.std.proofs.lemmas.List.Elements.{All-push}
use Rattle.std.proofs.lemmas.List.FromFn.{get_or-enumerate_from, length-enumerate_from}
use Rattle.nd_slice.specs.SlicesInGroups.{named}
use Rattle.nd_slice.proofs.Slices.{item_at}
use Rattle.nd_slice.proofs.slices_in_groups.one_group.Goals as goal

pub loop-position-preserved : goal.loop-position-preserved
loop-position-preserved g c =
    let list = g.S.SliceElems.list in
    let slices = c.args.slices.now in
    let all = enumerate_from 0 (map list slices) in
    let i = c.loop-position.position in
    let below : i < length (map list slices) = omega (arith, c.loop-position-test.true, length-map slices list) in
    let at : (i, c.elems.result.now) ≡ get_or all i (0, []) =
    ap (λ slice. (i, slice)) (c.elems.ensures ∙ item_at list slices i [] c.loop-position-test.true c.index-slices-position.is)
    ∙ ap (λ n. (n, get_or (map list slices) i [])) (omega arith) ∙ sym (get_or-enumerate_from 0 (map list slices) i (0, []) below) in
    record {
      named = ap (map named) c.in_ok-push.ensures.items ∙ map_push named _ _
          ∙ ap (λ ns. ns ++ (i, c.elems.result.now) ∷ []) c.loop-position.invariant.named
          ∙ ap (λ one. take i all ++ one ∷ []) at
          ∙ sym (take_more all i (0, []) (omega (arith, below, length-enumerate_from 0 (map list slices))));
      group = subst (All (λ item. item.group ≡ 0)) (sym c.in_ok-push.ensures.items)
          (All-push (λ item. item.group ≡ 0) _ _ c.loop-position.invariant.group refl);
    }

pub returns-clause-named : goal.returns-clause-named
returns-clause-named g c =
    let list = g.S.SliceElems.list in
    let slices = c.args.slices.now in
    c.loop-position.invariant.named
    ∙ take_all c.loop-position.position (enumerate_from 0 (map list slices))
    (omega (arith, length-enumerate_from 0 (map list slices), length-map slices list, c.loop-position-test.false))
