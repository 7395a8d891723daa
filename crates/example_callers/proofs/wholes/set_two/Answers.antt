-- The second part is one of what the first leaves, and each is put back with the pixel that was set.
use Rattle.std.proofs.Common.{rules, [], ◌∷◌}
use Rattle.nd_lent.proofs.Laws.TwoParts.{second_is_part, two_set}
use Rattle.example_callers.proofs.wholes.set_two.Goals as goal
use Rattle.nd_lent.specs.Lent.{access_of, array_of}

pub take-right-requires : goal.take-right-requires
take-right-requires c = second_is_part c.requires.first c.requires.second c.requires.apart (search rules)

pub returns : goal.returns
returns c =
    let one = c.set.new.self in
    let other = c.set-2.new.self in
    let both = two_set c.args.pixels.now c.requires.first c.requires.second c.requires.apart (0 ∷ 0 ∷ []) (0 ∷ 0 ∷ []) c.args.one
    c.args.other (access_of one).marks (access_of other).marks (array_of one).items (array_of other).items
    c.take-right.new.self.items c.put_back.ensures.items c.put_back-2.ensures.items
    (search rules, search rules) (search rules, search rules) (search rules) in
    search (rules, both)
