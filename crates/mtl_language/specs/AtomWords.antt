-- The words of the atoms.
use Rattle.std.specs.Prelude.{ℕ, List, Option, Some, None, codes}
use Rattle.mtl_formulas.specs.declared.atom.Atom.{Atom}
use Rattle.mtl_formulas.specs.declared.atom.Atom.TheVariants.{Always, Never, Seen, Risk, Engaged, Begin, Overtaking, Overtaken, HeadOn, CrossingGives, CrossingStands, Passing, Unclassified, Age, Opening, Clear, Close, OtherOnPort, Ahead, Alters, Apparent, ToStarboard, ToPort, OtherApparent, RankGives, RankStands, BothPower}

abbrev pub word_of : Atom → List ℕ
word_of Always = codes "true"
word_of Never = codes "false"
word_of Seen = codes "seen"
word_of Risk = codes "risk"
word_of Engaged = codes "engaged"
word_of Begin = codes "begin"
word_of Overtaking = codes "overtaking"
word_of Overtaken = codes "overtaken"
word_of HeadOn = codes "head_on"
word_of CrossingGives = codes "crossing_gives"
word_of CrossingStands = codes "crossing_stands"
word_of Passing = codes "passing"
word_of Unclassified = codes "unclassified"
word_of (Age seconds) = codes "age"
word_of Opening = codes "opening"
word_of (Clear metres) = codes "clear"
word_of (Close metres) = codes "close"
word_of OtherOnPort = codes "other_on_port"
word_of Ahead = codes "ahead"
word_of Alters = codes "alters"
word_of Apparent = codes "apparent"
word_of ToStarboard = codes "to_starboard"
word_of ToPort = codes "to_port"
word_of OtherApparent = codes "other_apparent"
word_of RankGives = codes "rank_gives"
word_of RankStands = codes "rank_stands"
word_of BothPower = codes "both_power"

-- the number of an atom that has one
abbrev pub atom_number : Atom → Option ℕ
atom_number (Age seconds) = Some seconds
atom_number (Clear metres) = Some metres
atom_number (Close metres) = Some metres
atom_number _ = None
