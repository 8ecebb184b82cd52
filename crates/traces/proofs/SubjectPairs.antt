-- The pairs that a search finds in which a subject is.
use Rattle.std.proofs.Common.{ℕ, zero, suc, ◌≡◌, ◌≢◌, ◌+◌, ◌<◌, ◌≤◌, ◌⊎◌, inl, inr, List, [], ◌∷◌, length, get_or, drop, true, false, refl, sym, subst, arith}
use Rattle.std.proofs.lemmas.Bool.Decides.{nat_tests}
use Rattle.std.proofs.lemmas.List.{drop_all}
use Rattle.std.proofs.lemmas.List.Elements.{Contains-get_or}
use Rattle.std.proofs.lemmas.List.Sorted.{Contains-permutation}
use Rattle.std.specs.Prelude.{◌==◌}
use Rattle.std.specs.List.{Contains}
use Rattle.std.specs.List.Sorted.{IsPermutation}
use Rattle.meetings.specs.Traces.{AreInContact}
use Rattle.meetings.specs.declared.pair.Pair.{Pair}
use Rattle.motion.specs.declared.leg.TickState.{TickState}
use Rattle.traces.specs.Audited.{IsAudited, SeenVessels, AreAscending, state_in}
use Rattle.traces.specs.Contacts.{AreContacts}
use Rattle.traces.specs.Inner.Pairing.{AreAdded, AreJoined, HasPair, HasPairOf, HasPairWith, HasSubjectPair}
use Rattle.traces.proofs.AddedPairs.{IsUnderWay, ended, gone_on, none_added}
use Rattle.traces.proofs.SeenVessels.{seen_in}
use Rattle.traces.proofs.FoundPairs.{JoinsTwo, cut, has_with, in_either_order, is_contact, joins_one, joins_two, is_found, states}

-- ---- whether there are subjects

pub no_items : {X : Type 0} (xs : List X) → (length xs == 0) ≡ true → xs ≡ []
no_items [] h = refl
no_items (x ∷ xs) h = let none : suc (length xs) ≡ 0 = grind (arith, nat_tests) in absurd (omega arith)

pub some_items : (xs : List ℕ) → (length xs == 0) ≡ false → xs ≢ []
some_items [] h e = cc
some_items (x ∷ xs) h e = cc

-- ---- one vessel

pub with_subject : (watch : ℕ) (subjects : List ℕ) (v : ℕ × TickState) (others : SeenVessels) (before after : List Pair) → Contains subjects v.0
    → AreAdded before (HasPairWith watch v others) after → AreAdded before (HasPairOf watch subjects v others) after
with_subject watch subjects v others before after is added = record {
  sound = λ pair h. elim (added.sound pair h) [ inl old ↦ inl old | inr new ↦ inr (record { subject = is; makes = new }) ];
  complete = λ pair h. elim h [ inl old ↦ added.complete pair (inl old) | inr new ↦ added.complete pair (inr new.makes) ];
}

pub with_other : (watch : ℕ) (subjects : List ℕ) (v : ℕ × TickState) (others : SeenVessels) (before : List Pair) → ¬ Contains subjects v.0
    → AreAdded before (HasPairOf watch subjects v others) before
with_other watch subjects v others before not = none_added before (HasPairOf watch subjects v others) (λ pair h. not h.subject)

-- ---- one more vessel, and the last one

pub next_vessel : (watch : ℕ) (subjects : List ℕ) (vessels others : SeenVessels) (k : ℕ) (d : ℕ × TickState) (now after : List Pair) → k < length vessels
    → IsUnderWay [] (HasSubjectPair watch subjects vessels others) now (HasSubjectPair watch subjects (drop k vessels) others)
    → AreAdded now (HasPairOf watch subjects (get_or vessels k d) others) after
    → IsUnderWay [] (HasSubjectPair watch subjects vessels others) after (HasSubjectPair watch subjects (drop (k + 1) vessels) others)
next_vessel watch subjects vessels others k d now after lt way added =
    gone_on [] (HasSubjectPair watch subjects vessels others) now (HasSubjectPair watch subjects (drop k vessels) others) (HasPairOf watch subjects (get_or vessels k d) others)
    (HasSubjectPair watch subjects (drop (k + 1) vessels) others) after
    (λ pair h. subst (λ (xs : SeenVessels). HasSubjectPair watch subjects xs others pair) (cut vessels k d lt) h)
    (λ pair h. subst (λ (xs : SeenVessels). HasSubjectPair watch subjects xs others pair) (sym (cut vessels k d lt)) h)
    way added

pub all_vessels : (watch : ℕ) (subjects : List ℕ) (vessels others : SeenVessels) (k : ℕ) (now : List Pair) → length vessels ≤ k
    → IsUnderWay [] (HasSubjectPair watch subjects vessels others) now (HasSubjectPair watch subjects (drop k vessels) others)
    → AreAdded [] (HasSubjectPair watch subjects vessels others) now
all_vessels watch subjects vessels others k now le way =
    ended [] (HasSubjectPair watch subjects vessels others) now (HasSubjectPair watch subjects (drop k vessels) others) way
    (λ pair h. subst (λ (xs : SeenVessels). HasSubjectPair watch subjects xs others pair) (drop_all k vessels le) h)

-- ---- two vessels, one of them a subject

record FindsOne (watch : ℕ) (subjects : List ℕ) (vessels others : SeenVessels) (pair : Pair) : Type 0 where
  one : ℕ × TickState
  has : Contains vessels one
  finds : HasPairOf watch subjects one others pair

finds_one : (watch : ℕ) (subjects : List ℕ) (vessels others : SeenVessels) (pair : Pair) → HasSubjectPair watch subjects vessels others pair → FindsOne watch subjects vessels others pair
finds_one watch subjects [] others pair h = absurd h
finds_one watch subjects (v ∷ vessels) others pair (inl h) = record { one = v; has = (0, omega arith, refl); finds = h }
finds_one watch subjects (v ∷ vessels) others pair (inr h) =
    let rest = finds_one watch subjects vessels others pair h in
    let lt = rest.has.1 in
    record { one = rest.one; has = (suc rest.has.0, omega arith, rest.has.2); finds = rest.finds }

found_at : (watch : ℕ) (subjects : List ℕ) (vessels others : SeenVessels) (pair : Pair) (k : ℕ) (v : ℕ × TickState) → k < length vessels → get_or vessels k v ≡ v
    → HasPairOf watch subjects v others pair → HasSubjectPair watch subjects vessels others pair
found_at watch subjects [] others pair k v lt is h = absurd (omega arith)
found_at watch subjects (w ∷ vessels) others pair zero v lt is h = inl (subst (λ (x : ℕ × TickState). HasPairOf watch subjects x others pair) (sym is) h)
found_at watch subjects (w ∷ vessels) others pair (suc k) v lt is h = inr (found_at watch subjects vessels others pair k v (omega arith) is h)

joins : (watch : ℕ) (subjects : List ℕ) (vessels : SeenVessels) (pair : Pair) → HasSubjectPair watch subjects vessels vessels pair → JoinsTwo watch vessels pair
joins watch subjects vessels pair h =
    let found = finds_one watch subjects vessels vessels pair h in
    let with = joins_one watch found.one vessels pair found.finds.makes in
    in_either_order watch vessels pair found.one with.one found.has with.has with.pairs

chosen : (watch : ℕ) (subjects : List ℕ) (vessels : SeenVessels) (pair : Pair) → HasSubjectPair watch subjects vessels vessels pair
    → (subjects ≡ []) ⊎ Contains subjects pair.subject ⊎ Contains subjects pair.other
chosen watch subjects vessels pair h =
    let found = finds_one watch subjects vessels vessels pair h in
    let with = joins_one watch found.one vessels pair found.finds.makes in
    elim with.pairs [
      | inl joined ↦ inr (inl (subst (Contains subjects) (sym joined.subject) found.finds.subject))
      | inr joined ↦ inr (inr (subst (Contains subjects) (sym joined.other) found.finds.subject))
    ]

makes_one : (watch : ℕ) (subjects : List ℕ) (seen vessels : SeenVessels) (pair : Pair) → subjects ≢ [] → IsPermutation seen vessels → pair.subject < pair.other → IsAudited subjects pair
    → AreInContact watch (state_in pair.subject seen) (state_in pair.other seen) → HasSubjectPair watch subjects vessels vessels pair
makes_one watch subjects seen vessels pair some same less audited h =
    let both = states watch (state_in pair.subject seen) (state_in pair.other seen) h in
    let a : ℕ × TickState = (pair.subject, both.a) in
    let b : ℕ × TickState = (pair.other, both.b) in
    let first = Contains-permutation seen vessels a same (seen_in pair.subject seen both.a both.x_is) in
    let second = Contains-permutation seen vessels b same (seen_in pair.other seen both.b both.y_is) in
    let joined : AreJoined watch a b pair = record { subject = refl; other = refl; order = less; near = both.near } in
    elim audited.chosen [
      | inl none ↦ absurd (some none)
      | inr one ↦ elim one [
        | inl is ↦ found_at watch subjects vessels vessels pair first.0 a first.1 first.2
            (record { subject = is; makes = has_with watch a vessels pair second.0 b second.1 second.2 (inl joined) })
        | inr is ↦ found_at watch subjects vessels vessels pair second.0 b second.1 second.2
            (record { subject = is; makes = has_with watch b vessels pair first.0 a first.1 first.2 (inr joined) })
      ]
    ]

-- ---- the contacts

-- Where there are no subjects, all that were found are the contacts.
pub are_all_contacts : (watch : ℕ) (subjects : List ℕ) (seen vessels : SeenVessels) (pairs : List Pair) → subjects ≡ [] → AreAscending seen → IsPermutation seen vessels
    → AreAdded [] (HasPair watch vessels) pairs → AreContacts subjects watch seen pairs
are_all_contacts watch subjects seen vessels pairs none up same added = record {
  sound = λ k d lt. is_contact watch seen vessels (get_or pairs k d) up same (joins_two watch vessels (get_or pairs k d) (new k d lt));
  audited = λ k d lt. (let less = (is_contact watch seen vessels (get_or pairs k d) up same (joins_two watch vessels (get_or pairs k d) (new k d lt))).0 in
      record { two = λ e. absurd (omega arith); chosen = inl none });
  complete = λ pair less audited h. added.complete pair (inr (is_found watch seen vessels pair same less h));
}
  where
    new : (k : ℕ) (d : Pair) → k < length pairs → HasPair watch vessels (get_or pairs k d)
    new k d lt = elim (added.sound (get_or pairs k d) (Contains-get_or pairs k d lt)) [
      | inl old ↦ absurd (let none = old.1 in omega arith)
      | inr is ↦ is
    ]

-- Where there are some, the pairs that were found with one of them are.
pub are_subject_contacts : (watch : ℕ) (subjects : List ℕ) (seen vessels : SeenVessels) (pairs : List Pair) → subjects ≢ [] → AreAscending seen → IsPermutation seen vessels
    → AreAdded [] (HasSubjectPair watch subjects vessels vessels) pairs → AreContacts subjects watch seen pairs
are_subject_contacts watch subjects seen vessels pairs some up same added = record {
  sound = λ k d lt. is_contact watch seen vessels (get_or pairs k d) up same (joins watch subjects vessels (get_or pairs k d) (new k d lt));
  audited = λ k d lt. (let less = (is_contact watch seen vessels (get_or pairs k d) up same (joins watch subjects vessels (get_or pairs k d) (new k d lt))).0 in
      record { two = λ e. absurd (omega arith); chosen = chosen watch subjects vessels (get_or pairs k d) (new k d lt) });
  complete = λ pair less audited h. added.complete pair (inr (makes_one watch subjects seen vessels pair some same less audited h));
}
  where
    new : (k : ℕ) (d : Pair) → k < length pairs → HasSubjectPair watch subjects vessels vessels (get_or pairs k d)
    new k d lt = elim (added.sound (get_or pairs k d) (Contains-get_or pairs k d lt)) [
      | inl old ↦ absurd (let none = old.1 in omega arith)
      | inr is ↦ is
    ]
