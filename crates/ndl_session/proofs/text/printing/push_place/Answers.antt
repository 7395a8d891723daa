-- The space stands before the first digit.
use Rattle.std.proofs.Common.{◌≡◌, ◌+◌, ◌-◌, ◌∷◌, ◌++◌, decimal, drop, set, take, if◌then◌else◌, is_ok}
use Rattle.std.proofs.Common.{ap, arith, append-nil, take_all, ◌∙◌}
use Rattle.std.proofs.lemmas.Fmt.{length-decimal-le}
use Rattle.std.proofs.lemmas.List.{drop-set}
use Rattle.ndl_session.proofs.text.printing.push_place.Goals as goal

pub write_digits-start-requires : goal.write_digits-start-requires
write_digits-start-requires c =
    (omega (arith, length-decimal-le 20 c.args.place (omega arith) (omega arith) c.ranges.place.fits), omega arith)

pub overflow_sub-word : goal.overflow_sub-word
overflow_sub-word c = omega (arith, length-decimal-le 20 c.args.place (omega arith) (omega arith) c.ranges.place.fits)

pub overflow_sub-start : goal.overflow_sub-start
overflow_sub-start c = omega (arith, length-decimal-le 20 c.args.place (omega arith) (omega arith) c.ranges.place.fits)

pub returns : goal.returns
returns c =
    let w = c.write_digits-start in
    let few = length-decimal-le 20 c.args.place (omega arith) (omega arith) c.ranges.place.fits in
    let back : w.result - 1 + 1 ≡ w.result = omega arith in
    let text = c.args.text.now.items in
    let word = w.new.bytes in
    let digits : drop w.result word ≡ decimal c.args.place =
    w.ensures.written ∙ append-nil (decimal c.args.place) in
    let spaced : drop (w.result - 1) (set word (w.result - 1) 32) ≡ 32 ∷ decimal c.args.place =
    drop-set word (w.result - 1) 32 (omega arith) ∙ ap (λ at. 32 ∷ drop at word) back ∙ ap (λ rest. 32 ∷ rest) digits in
    c.extend_from_slice.ensures.items
    ∙ ap (λ more. if is_ok c.extend_from_slice.result then text ++ more else text)
    (ap (take (21 - (w.result - 1))) spaced ∙ take_all (21 - (w.result - 1)) (32 ∷ decimal c.args.place) (omega arith))
