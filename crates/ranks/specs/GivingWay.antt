-- Who gives way by rank (COLREGs 1972, Rule 18).
use Rattle.std.specs.Prelude.{List, [], ◌∷◌, Contains}
use Rattle.ranks.specs.declared.rank.Rank.{Rank}
use Rattle.ranks.specs.declared.rank.Rank.TheVariants.{Power, Sailing, Fishing, Restricted, NotUnderCommand}

-- the ranks to which a vessel of this rank gives way
abbrev pub gives_way_to : Rank → List Rank
gives_way_to Power = Sailing ∷ Fishing ∷ Restricted ∷ NotUnderCommand ∷ []
gives_way_to Sailing = Fishing ∷ Restricted ∷ NotUnderCommand ∷ []
gives_way_to Fishing = Restricted ∷ NotUnderCommand ∷ []
gives_way_to Restricted = []
gives_way_to NotUnderCommand = []

-- A vessel of the first rank gives way to one of the second.
abbrev pub GivesWay : Rank → Rank → Type 0
GivesWay a b = Contains (gives_way_to a) b
