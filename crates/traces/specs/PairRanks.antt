-- What the ranks of two vessels say of a pair (COLREGs 1972, Rule 18).
use Rattle.std.specs.Prelude.{ℕ, ◌≡◌, ◌==◌, ◌↔◌, Bool, ◌&&◌, IsTrue}
use Rattle.std.specs.List.{list_any}
use Rattle.meetings.specs.declared.by_rank.ByRank.{ByRank}
use Rattle.ranks.specs.GivingWay.{GivesWay, gives_way_to}
use Rattle.ranks.specs.declared.rank.Rank.{Rank}
use Rattle.ranks.specs.declared.rank.Rank.TheVariants.{Power, Sailing, Fishing, Restricted, NotUnderCommand}

-- It says that A gives way to B, that B gives way to A, and that both are power-driven.
pub record IsByRank (a b : Rank) (by_rank : ByRank) : Type 0 where
  pub gives : IsTrue by_rank.gives ↔ GivesWay a b
  pub stands : IsTrue by_rank.stands ↔ GivesWay b a
  pub both_power : IsTrue by_rank.both_power ↔ ((a ≡ Power) × (b ≡ Power))

-- ---- the same, worked out

-- a number for each rank
abbrev pub rank_index : Rank → ℕ
rank_index Power = 0
rank_index Sailing = 1
rank_index Fishing = 2
rank_index Restricted = 3
rank_index NotUnderCommand = 4

abbrev pub is_rank : Rank → Rank → Bool
is_rank a b = rank_index a == rank_index b

-- A vessel of the first rank gives way to one of the second.
abbrev pub gives_way : Rank → Rank → Bool
gives_way a b = list_any (is_rank b) (gives_way_to a)

abbrev pub by_rank_of : Rank → Rank → ByRank
by_rank_of a b = record { gives = gives_way a b; stands = gives_way b a; both_power = is_rank Power a && is_rank Power b }
