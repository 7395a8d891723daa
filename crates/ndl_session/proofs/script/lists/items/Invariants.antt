-- With what was read before it, what the rest spells is what all of the word spells.
use Rattle.std.proofs.Common.{◌≡◌, length}
use Rattle.ndl_session.specs.text.Bytes.{comma}
use Rattle.ndl_session.specs.text.Lines.{cut_at}
use Rattle.ndl_session.specs.script.Reading.{read_each}
use Rattle.ndl_session.proofs.Fronts.{with_front}
use Rattle.ndl_session.proofs.script.lists.items.Given as goal

abbrev pub invariant-loop-text : goal.invariant-loop-text
invariant-loop-text g l =
    with_front l.items.items (read_each g.T.Item.item_of (cut_at comma l.rest)) ≡ read_each g.T.Item.item_of (cut_at comma l.fn.word)

abbrev pub decreases-loop-text : goal.decreases-loop-text
decreases-loop-text g l = length l.rest
