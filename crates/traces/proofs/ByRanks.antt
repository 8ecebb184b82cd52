-- What the ranks of two vessels say is what Rule 18 says.
use Rattle.std.proofs.Common.{◌≡◌, true, false, refl}
use Rattle.std.specs.Prelude.{Bool, ◌&&◌, ◌↔◌, IsTrue}
use Rattle.std.specs.Cmp.{IsEquivalence}
use Rattle.std.proofs.lemmas.Map.Views.{Contains-from_any, list_any-from_Contains}
use Rattle.meetings.specs.declared.by_rank.ByRank.{ByRank}
use Rattle.ranks.specs.GivingWay.{GivesWay, gives_way_to}
use Rattle.ranks.specs.declared.rank.Rank.{Rank}
use Rattle.ranks.specs.declared.rank.Rank.TheVariants.{Power, Sailing, Fishing, Restricted, NotUnderCommand}
use Rattle.std.proofs.lemmas.Cmp.{nat_eq_equiv}
use Rattle.traces.specs.PairRanks.{IsByRank, by_rank_of, gives_way, is_rank, rank_index}

same_rank : (a b : Rank) → is_rank a b ≡ true → a ≡ b
same_rank Power Power e = refl
same_rank Sailing Sailing e = refl
same_rank Fishing Fishing e = refl
same_rank Restricted Restricted e = refl
same_rank NotUnderCommand NotUnderCommand e = refl
same_rank a b e = cc

equivalence : IsEquivalence is_rank
equivalence = record {
  refl = λ a. nat_eq_equiv.refl (rank_index a);
  symm = λ a b. nat_eq_equiv.symm (rank_index a) (rank_index b);
  congr = λ a b d. nat_eq_equiv.congr (rank_index a) (rank_index b) (rank_index d);
}

-- ---- two values that hold in the same case are the same

same_truth : (P : Type 0) (x y : Bool) → (IsTrue x ↔ P) → (IsTrue y ↔ P) → x ≡ y
same_truth P true true f g = refl
same_truth P true false f g = let h : false ≡ true = g.1 (f.0 refl) in cc
same_truth P false true f g = let h : false ≡ true = f.1 (g.0 refl) in cc
same_truth P false false f g = refl

gives_exactly : (a b : Rank) → IsTrue (gives_way a b) ↔ GivesWay a b
gives_exactly a b = (λ h. Contains-from_any same_rank b (gives_way_to a) h, λ h. list_any-from_Contains equivalence b (gives_way_to a) h)

pub told_so : (a b : Rank) (gives : Bool) → (IsTrue gives ↔ GivesWay a b) → gives ≡ gives_way a b
told_so a b gives h = same_truth (GivesWay a b) gives (gives_way a b) h (gives_exactly a b)

both_exactly : (a b : Rank) → IsTrue (is_rank Power a && is_rank Power b) ↔ ((a ≡ Power) × (b ≡ Power))
both_exactly Power Power = (λ h. (refl, refl), λ h. refl)
both_exactly a b = (λ h. absurd (cc), λ h. let first = h.0 in let second = h.1 in cc)

pub exactly : (a b : Rank) → IsByRank a b (by_rank_of a b)
exactly a b = record { gives = gives_exactly a b; stands = gives_exactly b a; both_power = both_exactly a b }

pub only : (a b : Rank) (by_rank : ByRank) → IsByRank a b by_rank → by_rank ≡ by_rank_of a b
only a b by_rank h =
    let gives = told_so a b by_rank.gives h.gives in
    let stands = told_so b a by_rank.stands h.stands in
    let both : by_rank.both_power ≡ (is_rank Power a && is_rank Power b) =
    same_truth ((a ≡ Power) × (b ≡ Power)) by_rank.both_power (is_rank Power a && is_rank Power b) h.both_power (both_exactly a b) in
    λ i. record { gives = gives i; stands = stands i; both_power = both i }
