-- The two writes, from the later one on.
use Rattle.std.proofs.Common.{◌≡◌, ◌+◌, ◌%◌, set, arith, length-set}
use Rattle.std.proofs.lemmas.List.{set_comm, drop-set}
use Rattle.ndl_session.proofs.text.digits.write_pair.Goals as goal

pub returns : goal.returns
returns c =
    let pair = c.args.pair in
    let at = c.args.at in
    let bytes = c.args.bytes.now in
    let next : at + 1 + 1 ≡ at + 2 = omega arith in
    rw (
      set_comm bytes at (at + 1) _ _ (λ x. omega arith),
      drop-set (set bytes (at + 1) (48 + pair % 10)) at _ (omega (arith, length-set bytes (at + 1) (48 + pair % 10))),
      drop-set bytes (at + 1) _ (omega arith),
      next,
    )
