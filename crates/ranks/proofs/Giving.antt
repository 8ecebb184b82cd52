-- To whom a power-driven vessel gives way.
use Rattle.std.proofs.Common.{◌≡◌, zero, suc, refl, arith}
use Rattle.ranks.specs.GivingWay.{GivesWay}
use Rattle.ranks.specs.declared.rank.Rank.{Rank}
use Rattle.ranks.specs.declared.rank.Rank.TheVariants.{Power, Sailing, Fishing, Restricted, NotUnderCommand}

pub not_to_power : GivesWay Power Power → ⊥
not_to_power (zero, lt, here) = cc
not_to_power (suc zero, lt, here) = cc
not_to_power (suc (suc zero), lt, here) = cc
not_to_power (suc (suc (suc zero)), lt, here) = cc
not_to_power (suc (suc (suc (suc k))), lt, here) = absurd (omega arith)

pub to_all_others : (b : Rank) → (b ≡ Power → ⊥) → GivesWay Power b
to_all_others Power other = absurd (other refl)
to_all_others Sailing other = (0, omega arith, refl)
to_all_others Fishing other = (1, omega arith, refl)
to_all_others Restricted other = (2, omega arith, refl)
to_all_others NotUnderCommand other = (3, omega arith, refl)
