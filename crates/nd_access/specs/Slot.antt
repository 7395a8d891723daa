-- What is kept for a part that is out, so that the right that it was taken from can be had again, under its name.
use Rattle.std.specs.Prelude.{Bool, true, false, List}
use base.Stored.{coded_list}
use base.Fml.{Lft, GName, Fml, fsep, feq, fex, fobs, fauth, fres, fbor}
use denote.RattleType.{RattleType}
use denote.RawPtr.{Ptr}
use Rattle.nd_access.specs.Cells.{are_within, chosen_of, without}
use Rattle.nd_access.specs.Right.{Right}

-- the items' name can still be set, or it is said by the names of the part and of the rest
abbrev pub side : (V : RattleType) → GName → GName → GName → List Bool → List V.Denot → Bool → Fml
side V home one other chosen items true = fobs home ((coded_list V.coded).code items)
side V home one other chosen items false = fex (List V.Denot × List V.Denot) (λ ws.
    fsep (feq (List V.Denot) items (chosen_of chosen ws.0 ws.1))
    (fsep (fres one ((coded_list V.coded).code ws.0)) (fres other ((coded_list V.coded).code ws.1))))

-- the items' name, with one of these
abbrev pub slot : (V : RattleType) → GName → GName → GName → List Bool → Fml
slot V home one other chosen = fex (List V.Denot) (λ items. fsep (fauth home ((coded_list V.coded).code items))
    (fex Bool (side V home one other chosen items)))

-- how the three rights are to one another
abbrev pub related : Right → Right → Right → Fml
related home rest part = fsep (feq Bool (are_within part.marks home.marks) true)
    (fsep (feq (List Bool) rest.marks (without part.marks home.marks))
    (fsep (feq Ptr part.first home.first) (feq Ptr rest.first home.first)))

-- it is held for as long as the part is out, and the rights are so
abbrev pub holds_slot : Lft → (V : RattleType) → Right → Right → Right → Fml
holds_slot κ V home rest part = fsep (related home rest part) (fbor κ (slot V home.name part.name rest.name part.marks))
