-- The state of a vessel among those that are seen, in the order of their MMSIs.
use Rattle.std.proofs.Common.{ℕ, zero, suc, ◌≡◌, ◌≢◌, ◌-◌, ◌<◌, ◌≤◌, ◌⊎◌, inl, inr, List, [], ◌∷◌, map, length, get_or, true, false, nat_eq, Some, None, refl, ap, ap₂, sym, ◌∙◌, arith}
use Rattle.std.proofs.lemmas.Bool.Decides.{nat_tests}
use Rattle.std.proofs.lemmas.List.{get_or-map, get_or_default, length-map}
use Rattle.std.proofs.lemmas.List.Elements.{All-head, All-tail}
use Rattle.std.proofs.lemmas.List.Kept.{AllPairs-from_increasing}
use Rattle.std.specs.List.{All, Contains}
use Rattle.std.specs.List.Sorted.{IsNonDecreasingBy, IsPartitionPoint}
use Rattle.motion.specs.declared.leg.TickState.{TickState}
use Rattle.meetings.specs.Ranks.{both_power_driven}
use Rattle.meetings.specs.declared.pair.Pair.{Pair}
use Rattle.ranks.specs.declared.rank.Rank.{Rank}
use Rattle.ranks.specs.declared.rank.Rank.TheVariants.{Power}
use Rattle.traces.specs.Audited.{SeenVessels, AreAscending, by_rank_in, rank_in, state_in, unranked}
use Rattle.traces.specs.Inner.Places.{IsPlaceOf}
use Rattle.traces.specs.PairRanks.{by_rank_of}

mmsi_at : (seen : SeenVessels) (k : ℕ) (d : ℕ × TickState) (e : ℕ) → k < length seen → get_or (map (λ (vessel : ℕ × TickState). vessel.0) seen) k e ≡ (get_or seen k d).0
mmsi_at seen k d e lt = get_or-map (λ (vessel : ℕ × TickState). vessel.0) seen k d e lt

-- each has a lesser MMSI than all later ones
pub record AreRising (seen : SeenVessels) : Type 0 where
  pub less : (i j : ℕ) (d : ℕ × TickState) → i < j → j < length seen → (get_or seen i d).0 < (get_or seen j d).0

pub rising : (seen : SeenVessels) → AreAscending seen → AreRising seen
rising seen h = record {
  less = λ i j d lt within.
      let all = AllPairs-from_increasing _ h i j d.0 lt (omega (arith, length-map seen (λ (vessel : ℕ × TickState). vessel.0))) in
      let one = mmsi_at seen i d d.0 (omega arith) in
      let two = mmsi_at seen j d d.0 within in
      omega arith;
}

rising_rest : (v : ℕ × TickState) (seen : SeenVessels) → AreRising (v ∷ seen) → AreRising seen
rising_rest v seen h = record { less = λ i j d lt within. h.less (suc i) (suc j) d (omega arith) (omega arith) }

same_or_before : (i j : ℕ) → i ≤ j → (i ≡ j) ⊎ (i < j)
same_or_before i j le = grind arith

pub in_order : (seen : SeenVessels) → AreAscending seen → IsNonDecreasingBy (λ (vessel : ℕ × TickState). vessel.0) seen
in_order seen h i j d le within =
    elim (same_or_before i j le) [
      | inl same ↦ (let e : (get_or seen i d).0 ≡ (get_or seen j d).0 = ap (λ (k : ℕ). (get_or seen k d).0) same in omega arith)
      | inr before ↦ (let lt : (get_or seen i d).0 < (get_or seen j d).0 = (rising seen h).less i j d before within in omega arith)
    ]

-- ---- one that is not seen

pub state-here : (m : ℕ) (v : ℕ × TickState) (seen : SeenVessels) → v.0 ≡ m → state_in m (v ∷ seen) ≡ Some v.1
state-here m v seen e = let first : nat_eq v.0 m ≡ true = grind (arith, nat_tests) in rw first refl

pub state-later : (m : ℕ) (v : ℕ × TickState) (seen : SeenVessels) → v.0 ≢ m → state_in m (v ∷ seen) ≡ state_in m seen
state-later m v seen ne = let first : nat_eq v.0 m ≡ false = grind (arith, nat_tests) in rw first refl

pub absent : (m : ℕ) (seen : SeenVessels) → All (λ (vessel : ℕ × TickState). vessel.0 ≢ m) seen → state_in m seen ≡ None
absent m [] all = refl
absent m (v ∷ seen) all =
    state-later m v seen (All-head (λ (vessel : ℕ × TickState). vessel.0 ≢ m) v seen all) ∙ absent m seen (All-tail (λ (vessel : ℕ × TickState). vessel.0 ≢ m) v seen all)

three : (a b : ℕ) → (a < b) ⊎ ((a ≡ b) ⊎ (b < a))
three a b = grind arith

-- Those before an index have lesser MMSIs, those from there on no lesser ones, and the one there another.
pub absent_at : (m : ℕ) (seen : SeenVessels) (at : ℕ) → AreAscending seen → IsPartitionPoint (λ (v : ℕ × TickState). v.0 < m) (λ (v : ℕ × TickState). m ≤ v.0) seen at
    → (at < length seen → (d : ℕ × TickState) → (get_or seen at d).0 ≢ m) → state_in m seen ≡ None
absent_at m seen at h parts other = absent m seen (λ k d lt.
    elim (three k at) [
      | inl before ↦ (let below : (get_or seen k d).0 < m = parts.0 k d (omega arith) before in omega arith)
      | inr (inl here) ↦ (let same : (get_or seen k d).0 ≡ (get_or seen at d).0 = ap (λ (j : ℕ). (get_or seen j d).0) here in
          let ne : (get_or seen at d).0 ≢ m = other (omega arith) d in omega arith)
      | inr (inr after) ↦ (let less : (get_or seen at d).0 < (get_or seen k d).0 = (rising seen h).less at k d after lt in
          let ge : m ≤ (get_or seen at d).0 = parts.1 at d (omega arith) (omega arith) in omega arith)
    ])

-- So many have lesser MMSIs where the last of them has one, and the next, if there is one, has no lesser one.
pub parted : (m : ℕ) (seen : SeenVessels) (count : ℕ) (e : ℕ × TickState) → AreAscending seen → count ≤ length seen → (0 < count → (get_or seen (count - 1) e).0 < m)
    → (count < length seen → m ≤ (get_or seen count e).0) → IsPartitionPoint (λ (v : ℕ × TickState). v.0 < m) (λ (v : ℕ × TickState). m ≤ v.0) seen count
parted m seen count e h within below above = (
  λ k d begun inside.
      let last : (get_or seen (count - 1) e).0 < m = below (omega arith) in
      let le : (get_or seen k e).0 ≤ (get_or seen (count - 1) e).0 = in_order seen h k (count - 1) e (omega arith) (omega arith) in
      let same : (get_or seen k d).0 ≡ (get_or seen k e).0 = ap (λ (v : ℕ × TickState). v.0) (get_or_default seen k d e (omega arith)) in
      omega arith,
  λ k d after inside.
      let next : m ≤ (get_or seen count e).0 = above (omega arith) in
      let up : (get_or seen count e).0 ≤ (get_or seen k e).0 = in_order seen h count k e after inside in
      let same : (get_or seen k d).0 ≡ (get_or seen k e).0 = ap (λ (v : ℕ × TickState). v.0) (get_or_default seen k d e inside) in
      omega arith,
)

-- ---- one that is seen

present_at : (m : ℕ) (seen : SeenVessels) (k : ℕ) (v : ℕ × TickState) → AreRising seen → k < length seen → get_or seen k v ≡ v → v.0 ≡ m → state_in m seen ≡ Some v.1
present_at m [] k v up lt is e = absurd (omega arith)
present_at m (u ∷ seen) zero v up lt is e = state-here m u seen (ap (λ (w : ℕ × TickState). w.0) is ∙ e) ∙ ap (λ (w : ℕ × TickState). Some w.1) is
present_at m (u ∷ seen) (suc k) v up lt is e =
    let less : u.0 < (get_or seen k v).0 = up.less 0 (suc k) v (omega arith) lt in
    let same : (get_or seen k v).0 ≡ v.0 = ap (λ (w : ℕ × TickState). w.0) is in
    state-later m u seen (omega arith) ∙ present_at m seen k v (rising_rest u seen up) (omega arith) is e

pub present : (m : ℕ) (seen : SeenVessels) (v : ℕ × TickState) → AreAscending seen → Contains seen v → v.0 ≡ m → state_in m seen ≡ Some v.1
present m seen v h found e = present_at m seen found.0 v (rising seen h) found.1 found.2 e

-- Whose state is found is seen in it.
one_later : (u v : ℕ × TickState) (seen : SeenVessels) → Contains seen v → Contains (u ∷ seen) v
one_later u v seen found = (suc found.0, let lt = found.1 in omega arith, found.2)

pub same_or_other : (a b : ℕ) → (a ≡ b) ⊎ (a ≢ b)
same_or_other a b = grind arith

pub seen_in : (m : ℕ) (seen : SeenVessels) (state : TickState) → state_in m seen ≡ Some state → Contains seen (m, state)
seen_in m [] state e = absurd (cc)
seen_in m (v ∷ seen) state e =
    elim (same_or_other v.0 m) [
      | inl same ↦ (let is : Some v.1 ≡ Some state = sym (state-here m v seen same) ∙ e in
          let state-is : v.1 ≡ state = cc in
          (0, omega arith, both v m state same state-is))
      | inr other ↦ one_later v (m, state) seen (seen_in m seen state (sym (state-later m v seen other) ∙ e))
    ]
  where
    both : (v : ℕ × TickState) (m : ℕ) (state : TickState) → v.0 ≡ m → v.1 ≡ state → v ≡ (m, state)
    both (n, s) m state e f = cc

-- ---- the rank of one among those seen

rank-here : (m : ℕ) (v : ℕ × TickState) (seen : SeenVessels) (r : Rank) (ranks : List Rank) → v.0 ≡ m
    → rank_in m (record { vessels = v ∷ seen; ranks = r ∷ ranks }) ≡ r
rank-here m v seen r ranks e = let first : nat_eq v.0 m ≡ true = grind (arith, nat_tests) in rw first refl

rank-later : (m : ℕ) (v : ℕ × TickState) (seen : SeenVessels) (r : Rank) (ranks : List Rank) → v.0 ≢ m
    → rank_in m (record { vessels = v ∷ seen; ranks = r ∷ ranks }) ≡ rank_in m (record { vessels = seen; ranks = ranks })
rank-later m v seen r ranks ne = let first : nat_eq v.0 m ≡ false = grind (arith, nat_tests) in rw first refl

-- Whoever is not seen has no rank told.
pub rank_absent : (m : ℕ) (seen : SeenVessels) (ranks : List Rank) → All (λ (vessel : ℕ × TickState). vessel.0 ≢ m) seen
    → rank_in m (record { vessels = seen; ranks = ranks }) ≡ Power
rank_absent m [] ranks all = refl
rank_absent m (v ∷ seen) [] all = refl
rank_absent m (v ∷ seen) (r ∷ ranks) all =
    rank-later m v seen r ranks (All-head (λ (vessel : ℕ × TickState). vessel.0 ≢ m) v seen all)
    ∙ rank_absent m seen ranks (All-tail (λ (vessel : ℕ × TickState). vessel.0 ≢ m) v seen all)

-- ---- where ranks do not count

untold : (m : ℕ) (seen : SeenVessels) → rank_in m (unranked seen) ≡ Power
untold m [] = refl
untold m (v ∷ seen) = refl

-- all vessels are power-driven
pub unranked_pair : (pair : Pair) (seen : SeenVessels) → by_rank_in pair (unranked seen) ≡ both_power_driven
unranked_pair pair seen = ap₂ (λ (a b : Rank). by_rank_of a b) (untold pair.subject seen) (untold pair.other seen)

-- ---- where they do

present_rank : (m : ℕ) (seen : SeenVessels) (ranks : List Rank) (k : ℕ) (v : ℕ × TickState) → AreRising seen → k < length seen → get_or seen k v ≡ v → v.0 ≡ m
    → rank_in m (record { vessels = seen; ranks = ranks }) ≡ get_or ranks k Power
present_rank m [] ranks k v up lt is e = absurd (omega arith)
present_rank m (u ∷ seen) [] k v up lt is e = refl
present_rank m (u ∷ seen) (r ∷ ranks) zero v up lt is e = rank-here m u seen r ranks (ap (λ (w : ℕ × TickState). w.0) is ∙ e)
present_rank m (u ∷ seen) (r ∷ ranks) (suc k) v up lt is e =
    let less : u.0 < (get_or seen k v).0 = up.less 0 (suc k) v (omega arith) lt in
    let same : (get_or seen k v).0 ≡ v.0 = ap (λ (w : ℕ × TickState). w.0) is in
    rank-later m u seen r ranks (omega arith) ∙ present_rank m seen ranks k v (rising_rest u seen up) (omega arith) is e

-- Every vessel that is seen has the rank that is given beside her.
pub rank_present : (m : ℕ) (seen : SeenVessels) (ranks : List Rank) (k : ℕ) (v : ℕ × TickState) → AreAscending seen → k < length seen → get_or seen k v ≡ v → v.0 ≡ m
    → rank_in m (record { vessels = seen; ranks = ranks }) ≡ get_or ranks k Power
rank_present m seen ranks k v h lt is e = present_rank m seen ranks k v (rising seen h) lt is e

-- Her place is the only one.
pub place_here : (m : ℕ) (seen : SeenVessels) (at : ℕ) (v : ℕ × TickState) → AreAscending seen → at < length seen → get_or seen at v ≡ v → v.0 ≡ m → IsPlaceOf seen m at
place_here m seen at v h within is e k d lt same =
    let here : (get_or seen at d).0 ≡ m = ap (λ (w : ℕ × TickState). w.0) (sym (get_or_default seen at v d within)) ∙ ap (λ (w : ℕ × TickState). w.0) is ∙ e in
    elim (three k at) [
      | inl before ↦ (let less : (get_or seen k d).0 < (get_or seen at d).0 = (rising seen h).less k at d before within in absurd (omega arith))
      | inr (inl one) ↦ one
      | inr (inr after) ↦ (let less : (get_or seen at d).0 < (get_or seen k d).0 = (rising seen h).less at k d after lt in absurd (omega arith))
    ]

pub place_behind : (m : ℕ) (seen : SeenVessels) (at : ℕ) → AreAscending seen → IsPartitionPoint (λ (v : ℕ × TickState). v.0 < m) (λ (v : ℕ × TickState). m ≤ v.0) seen at
    → IsPlaceOf seen m at
place_behind m seen at h parts k d lt same =
    elim (three k at) [
      | inl before ↦ (let below : (get_or seen k d).0 < m = parts.0 k d (omega arith) before in absurd (omega arith))
      | inr (inl one) ↦ one
      | inr (inr after) ↦ (let less : (get_or seen at d).0 < (get_or seen k d).0 = (rising seen h).less at k d after lt in
          let ge : m ≤ (get_or seen at d).0 = parts.1 at d (omega arith) (omega arith) in absurd (omega arith))
    ]

-- Nobody with the MMSI is seen where she is not at her place.
pub absent_there : (m : ℕ) (seen : SeenVessels) (at : ℕ) → IsPlaceOf seen m at → (at < length seen → (d : ℕ × TickState) → (get_or seen at d).0 ≢ m)
    → All (λ (vessel : ℕ × TickState). vessel.0 ≢ m) seen
absent_there m seen at place other = λ k d lt same.
    let one : k ≡ at = place k d lt same in
    other (omega arith) d (ap (λ (j : ℕ). (get_or seen j d).0) (sym one) ∙ same)
