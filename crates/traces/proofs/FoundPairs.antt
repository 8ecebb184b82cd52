-- The pairs that a search through vessels finds, and those of the vessels in contact.
use Rattle.std.proofs.Common.{ℕ, zero, suc, ◌≡◌, ◌+◌, ◌^◌, ◌<◌, ◌≤◌, inl, inr, List, [], ◌∷◌, length, get_or, drop, Option, Some, None, refl, ap, sym, subst, ◌∙◌, drop-cons, add-one, arith}
use Rattle.std.proofs.lemmas.List.{drop_all}
use Rattle.std.proofs.lemmas.List.Sorted.{All-permutation, Contains-permutation, IsPermutation-sym}
use Rattle.std.specs.List.{Contains}
use Rattle.std.specs.List.Sorted.{IsPermutation}
use Rattle.encounters.specs.Directions.{HasDirection}
use Rattle.fixed_geometry.specs.Sizes.{IsBelow}
use Rattle.meetings.specs.Traces.{AreInContact, IsContact}
use Rattle.meetings.specs.declared.pair.Pair.{Pair}
use Rattle.motion.specs.declared.leg.TickState.{TickState}
use Rattle.traces.specs.Audited.{SeenVessels, AreAscending, ArePlaced, state_in}
use Rattle.traces.specs.Inner.Pairing.{AreAdded, AreJoined, HasPair, HasPairWith, MakePair}
use Rattle.traces.proofs.AddedPairs.{IsUnderWay, ended, gone_on}
use Rattle.traces.proofs.SeenVessels.{present, seen_in}

-- ---- one more vessel

pub cut : (vessels : SeenVessels) (k : ℕ) (d : ℕ × TickState) → k < length vessels → drop k vessels ≡ get_or vessels k d ∷ drop (k + 1) vessels
cut vessels k d lt = rw (add-one, drop-cons vessels k d)

pub with_next : (watch : ℕ) (v : ℕ × TickState) (others : SeenVessels) (k : ℕ) (d : ℕ × TickState) (before now after : List Pair) → k < length others
    → IsUnderWay before (HasPairWith watch v others) now (HasPairWith watch v (drop k others)) → AreAdded now (MakePair watch v (get_or others k d)) after
    → IsUnderWay before (HasPairWith watch v others) after (HasPairWith watch v (drop (k + 1) others))
with_next watch v others k d before now after lt way added =
    gone_on before (HasPairWith watch v others) now (HasPairWith watch v (drop k others)) (MakePair watch v (get_or others k d)) (HasPairWith watch v (drop (k + 1) others)) after
    (λ pair h. subst (λ (xs : SeenVessels). HasPairWith watch v xs pair) (cut others k d lt) h)
    (λ pair h. subst (λ (xs : SeenVessels). HasPairWith watch v xs pair) (sym (cut others k d lt)) h)
    way added

-- ---- the last vessel

pub with_all : (watch : ℕ) (v : ℕ × TickState) (others : SeenVessels) (k : ℕ) (before now : List Pair) → length others ≤ k
    → IsUnderWay before (HasPairWith watch v others) now (HasPairWith watch v (drop k others)) → AreAdded before (HasPairWith watch v others) now
with_all watch v others k before now le way =
    ended before (HasPairWith watch v others) now (HasPairWith watch v (drop k others)) way (λ pair h. subst (λ (xs : SeenVessels). HasPairWith watch v xs pair) (drop_all k others le) h)

-- ---- two vessels that are among them

-- Two of the vessels are in contact and make the pair, in the order of their MMSIs.
pub record JoinsTwo (watch : ℕ) (vessels : SeenVessels) (pair : Pair) : Type 0 where
  pub first : ℕ × TickState
  pub second : ℕ × TickState
  pub has_first : Contains vessels first
  pub has_second : Contains vessels second
  pub joined : AreJoined watch first second pair

pub record JoinsOne (watch : ℕ) (v : ℕ × TickState) (others : SeenVessels) (pair : Pair) : Type 0 where
  pub one : ℕ × TickState
  pub has : Contains others one
  pub pairs : MakePair watch v one pair

later : (u v : ℕ × TickState) (vessels : SeenVessels) → Contains vessels v → Contains (u ∷ vessels) v
later u v vessels found = (suc found.0, let lt = found.1 in omega arith, found.2)

here : (v : ℕ × TickState) (vessels : SeenVessels) → Contains (v ∷ vessels) v
here v vessels = (0, omega arith, refl)

pub joins_one : (watch : ℕ) (v : ℕ × TickState) (others : SeenVessels) (pair : Pair) → HasPairWith watch v others pair → JoinsOne watch v others pair
joins_one watch v [] pair h = absurd h
joins_one watch v (u ∷ others) pair (inl h) = record { one = u; has = here u others; pairs = h }
joins_one watch v (u ∷ others) pair (inr h) = let rest = joins_one watch v others pair h in record { one = rest.one; has = later u rest.one others rest.has; pairs = rest.pairs }

-- Two of the vessels make a pair, whichever comes first.
pub in_either_order : (watch : ℕ) (vessels : SeenVessels) (pair : Pair) (v u : ℕ × TickState) → Contains vessels v → Contains vessels u → MakePair watch v u pair → JoinsTwo watch vessels pair
in_either_order watch vessels pair v u has_v has_u (inl joined) = record { first = v; second = u; has_first = has_v; has_second = has_u; joined = joined }
in_either_order watch vessels pair v u has_v has_u (inr joined) = record { first = u; second = v; has_first = has_u; has_second = has_v; joined = joined }

in_one_order : (watch : ℕ) (v : ℕ × TickState) (others : SeenVessels) (pair : Pair) (u : ℕ × TickState) → Contains others u → MakePair watch v u pair → JoinsTwo watch (v ∷ others) pair
in_one_order watch v others pair u has h = in_either_order watch (v ∷ others) pair v u (here v others) (later v u others has) h

pub joins_two : (watch : ℕ) (vessels : SeenVessels) (pair : Pair) → HasPair watch vessels pair → JoinsTwo watch vessels pair
joins_two watch [] pair h = absurd h
joins_two watch (v ∷ others) pair (inl h) = let found = joins_one watch v others pair h in in_one_order watch v others pair found.one found.has found.pairs
joins_two watch (v ∷ others) pair (inr h) =
    let rest = joins_two watch others pair h in
    record { first = rest.first; second = rest.second; has_first = later v rest.first others rest.has_first; has_second = later v rest.second others rest.has_second; joined = rest.joined }

pub has_with : (watch : ℕ) (v : ℕ × TickState) (others : SeenVessels) (pair : Pair) (k : ℕ) (u : ℕ × TickState) → k < length others → get_or others k u ≡ u → MakePair watch v u pair
    → HasPairWith watch v others pair
has_with watch v [] pair k u lt is h = absurd (omega arith)
has_with watch v (w ∷ others) pair zero u lt is h = inl (subst (λ (x : ℕ × TickState). MakePair watch v x pair) (sym is) h)
has_with watch v (w ∷ others) pair (suc k) u lt is h = inr (has_with watch v others pair k u (omega arith) is h)

has_two : (watch : ℕ) (vessels : SeenVessels) (pair : Pair) (i j : ℕ) (a b : ℕ × TickState) → i < length vessels → j < length vessels
    → get_or vessels i a ≡ a → get_or vessels j b ≡ b → AreJoined watch a b pair → HasPair watch vessels pair
has_two watch [] pair i j a b lt lt' is is' h = absurd (omega arith)
has_two watch (v ∷ others) pair zero zero a b lt lt' is is' h =
    let less : a.0 < b.0 = h.order in
    let same : a.0 ≡ b.0 = ap (λ (x : ℕ × TickState). x.0) (sym is ∙ is') in
    absurd (omega arith)
has_two watch (v ∷ others) pair zero (suc j) a b lt lt' is is' h =
    inl (has_with watch v others pair j b (omega arith) is' (inl (subst (λ (x : ℕ × TickState). AreJoined watch x b pair) (sym is) h)))
has_two watch (v ∷ others) pair (suc i) zero a b lt lt' is is' h =
    inl (has_with watch v others pair i a (omega arith) is (inr (subst (λ (x : ℕ × TickState). AreJoined watch a x pair) (sym is') h)))
has_two watch (v ∷ others) pair (suc i) (suc j) a b lt lt' is is' h = inr (has_two watch others pair i j a b (omega arith) (omega arith) is is' h)

-- ---- by MMSI

in_contact : (watch : ℕ) (x y : Option TickState) (a b : TickState) → x ≡ Some a → y ≡ Some b → IsContact watch a b → AreInContact watch x y
in_contact watch x y a b e f h = subst (λ (z : Option TickState). AreInContact watch z y) (sym e) (subst (λ (z : Option TickState). AreInContact watch (Some a) z) (sym f) h)

pub record AreStates (watch : ℕ) (x y : Option TickState) : Type 0 where
  pub a : TickState
  pub b : TickState
  pub x_is : x ≡ Some a
  pub y_is : y ≡ Some b
  pub near : IsContact watch a b

pub states : (watch : ℕ) (x y : Option TickState) → AreInContact watch x y → AreStates watch x y
states watch (Some a) (Some b) h = record { a = a; b = b; x_is = refl; y_is = refl; near = h }
states watch (Some a) None h = absurd h
states watch None (Some b) h = absurd h
states watch None None h = absurd h

pub is_contact : (watch : ℕ) (seen vessels : SeenVessels) (pair : Pair) → AreAscending seen → IsPermutation seen vessels → JoinsTwo watch vessels pair
    → (pair.subject < pair.other) × AreInContact watch (state_in pair.subject seen) (state_in pair.other seen)
is_contact watch seen vessels pair up same two =
    let back = IsPermutation-sym seen vessels same in
    let subject : pair.subject ≡ two.first.0 = two.joined.subject in
    let other : pair.other ≡ two.second.0 = two.joined.other in
    let less : two.first.0 < two.second.0 = two.joined.order in
    let first = present pair.subject seen two.first up (Contains-permutation vessels seen two.first back two.has_first) (sym subject) in
    let second = present pair.other seen two.second up (Contains-permutation vessels seen two.second back two.has_second) (sym other) in
    (omega arith, in_contact watch (state_in pair.subject seen) (state_in pair.other seen) two.first.1 two.second.1 first second two.joined.near)

pub is_found : (watch : ℕ) (seen vessels : SeenVessels) (pair : Pair) → IsPermutation seen vessels → pair.subject < pair.other
    → AreInContact watch (state_in pair.subject seen) (state_in pair.other seen) → HasPair watch vessels pair
is_found watch seen vessels pair same less h =
    let both = states watch (state_in pair.subject seen) (state_in pair.other seen) h in
    let first = Contains-permutation seen vessels (pair.subject, both.a) same (seen_in pair.subject seen both.a both.x_is) in
    let second = Contains-permutation seen vessels (pair.other, both.b) same (seen_in pair.other seen both.b both.y_is) in
    has_two watch vessels pair first.0 second.0 (pair.subject, both.a) (pair.other, both.b) first.1 second.1 first.2 second.2
    (record { subject = refl; other = refl; order = less; near = both.near })

pub still_placed : (seen vessels : SeenVessels) → IsPermutation seen vessels → ArePlaced seen → ArePlaced vessels
still_placed seen vessels same placed = All-permutation (λ (vessel : ℕ × TickState). IsBelow (2 ^ 33) vessel.1.point × HasDirection vessel.1) seen vessels same placed
