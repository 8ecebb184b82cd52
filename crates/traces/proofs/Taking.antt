-- Both traces of two vessels in contact begin.
use Rattle.std.proofs.Common.{◌≡◌, ◌≢◌, ℕ, ◌⊎◌, inl, inr, List, [], ◌∷◌, ◌++◌, append_assoc, append-nil, refl, sym, ap, subst, ◌∙◌}
use Rattle.std.specs.List.{AllPairs, Contains}
use Rattle.std.proofs.lemmas.List.{map-append}
use Rattle.std.proofs.lemmas.List.Elements.{Contains-append_cases, Contains-append_left}
use Rattle.meetings.specs.declared.pair.Pair.{Pair}
use Rattle.traces.specs.Audited.{AuditNumbers, SeenVessels, state_in}
use Rattle.traces.specs.Inner.TracesKept.{Grew, HaveBoth, IsFresh, MayTake, swapped}
use Rattle.traces.specs.Known.{AreOpened, Known, opened, pairs_of}
use Rattle.traces.specs.declared.all_traces.AllTraces.{AllTraces}
use Rattle.traces.proofs.Different.{different_push}
use Rattle.traces.proofs.Growing.{pair_pushed, pairs_push}
use Rattle.outside.proofs.Members.{in_cons, in_none}
use Rattle.traces.proofs.Ticks.{audited_back, contact_back}

opened_more : (start : ℕ) (xs ys : List Known) → AreOpened start xs → AreOpened start ys → AreOpened start (xs ++ ys)
opened_more start [] ys h k = k
opened_more start (x ∷ xs) ys h k = (h.0, opened_more start xs ys h.1 k)

pub pairs_still : (before new after : List Known) → after ≡ before ++ new → (pair : Pair) → Contains (pairs_of before) pair → Contains (pairs_of after) pair
pairs_still before new after whole pair i =
    subst (λ (ks : List Known). Contains (pairs_of ks) pair) (sym whole)
    (subst (λ (ps : List Pair). Contains ps pair) (sym (map-append (λ (k : Known). k.pair) before new)) (Contains-append_left (pairs_of before) (pairs_of new) pair i))

module _ (numbers : AuditNumbers) (seen : SeenVessels) (old : List Pair) (start : ℕ) where
  pub grew_none : (knowns : List Known) → Grew numbers seen old start knowns knowns
  grew_none knowns = record { new = []; whole = sym (append-nil knowns); opened = tt; fresh = λ known i. in_none known i }

  pub grew_on : (before mid after : List Known) → Grew numbers seen old start before mid → Grew numbers seen old start mid after → Grew numbers seen old start before after
  grew_on before mid after g h = record {
    new = g.new ++ h.new;
    whole = h.whole ∙ (ap (λ (ks : List Known). ks ++ h.new) g.whole ∙ append_assoc before g.new h.new);
    opened = opened_more start g.new h.new g.opened h.opened;
    fresh = λ known i. elim (Contains-append_cases g.new h.new known i) [ inl earlier ↦ g.fresh known earlier | inr now ↦ h.fresh known now ];
  }

  pub grew_one : (knowns : List Known) (pair : Pair) → IsFresh numbers seen old pair → Grew numbers seen old start knowns (knowns ++ opened pair start ∷ [])
  grew_one knowns pair fresh = record {
    new = opened pair start ∷ [];
    whole = refl;
    opened = (refl, tt);
    fresh = λ known i. elim (in_cons (opened pair start) [] known i) [
      | inl same ↦ subst (λ (k : Known). IsFresh numbers seen old k.pair) same fresh
      | inr none ↦ in_none known none
    ];
  }

  module _ (kept : AllTraces) (knowns : List Known) (pair : Pair) (may : MayTake kept numbers seen old knowns pair)
      (chosen : (kept.subjects.items ≡ []) ⊎ Contains kept.subjects.items pair.subject ⊎ Contains kept.subjects.items pair.other) (new : Contains (pairs_of knowns) pair → ⊥) where
    pub fresh_one : IsFresh numbers seen old pair
    fresh_one = record {
      audited = record {
        two = may.two;
        chosen = subst (λ (s : List ℕ). (s ≡ []) ⊎ Contains s pair.subject ⊎ Contains s pair.other) (sym may.of) chosen;
      };
      contact = may.contact;
      new = λ i. new (may.still pair i);
    }

    pub fresh_other : IsFresh numbers seen old (swapped pair)
    fresh_other = record {
      audited = audited_back numbers.subjects pair fresh_one.audited;
      contact = contact_back numbers.detect.watch (state_in pair.subject seen) (state_in pair.other seen) may.contact;
      new = λ i. new (may.both (swapped pair) (may.still (swapped pair) i));
    }

    pub mid : List Known
    mid = knowns ++ opened pair start ∷ []

    pub new_other : Contains (pairs_of mid) (swapped pair) → ⊥
    unfolding mid
    new_other i =
        elim ((pair_pushed knowns pair start (swapped pair)).0 i) [
          | inl there ↦ new (may.both (swapped pair) there)
          | inr same ↦ may.two (ap (λ (p : Pair). p.subject) same)
        ]

    pub once_mid : AllPairs ◌≢◌ (pairs_of mid)
    unfolding mid
    once_mid = subst (λ (ps : List Pair). AllPairs ◌≢◌ ps) (sym (pairs_push knowns pair start)) (different_push (pairs_of knowns) pair may.once new)

    pub after : List Known
    after = mid ++ opened (swapped pair) start ∷ []

    pub mid_is : mid ≡ knowns ++ opened pair start ∷ []
    unfolding mid
    mid_is = refl

    pub after_is : after ≡ mid ++ opened (swapped pair) start ∷ []
    unfolding after
    after_is = refl

    pub once_after : AllPairs ◌≢◌ (pairs_of after)
    unfolding after
    once_after = subst (λ (ps : List Pair). AllPairs ◌≢◌ ps) (sym (pairs_push mid (swapped pair) start)) (different_push (pairs_of mid) (swapped pair) once_mid new_other)

    pub grew_mid : Grew numbers seen old start knowns mid
    unfolding mid
    grew_mid = grew_one knowns pair fresh_one

    pub grew_after : Grew numbers seen old start knowns after
    unfolding after
    grew_after = grew_on knowns mid (mid ++ opened (swapped pair) start ∷ []) grew_mid (grew_one mid (swapped pair) fresh_other)

    in_after : (other : Pair) → Contains (pairs_of after) other → Contains (pairs_of knowns) other ⊎ (pair ≡ other) ⊎ (swapped pair ≡ other)
    unfolding after mid
    in_after other i =
        elim ((pair_pushed mid (swapped pair) start other).0 i) [
          | inl there ↦ elim ((pair_pushed knowns pair start other).0 there) [ inl before ↦ inl before | inr one ↦ inr (inl one) ]
          | inr same ↦ inr (inr same)
        ]

    pub taken_one : Contains (pairs_of after) pair
    unfolding after mid
    taken_one = (pair_pushed mid (swapped pair) start pair).1 (inl ((pair_pushed knowns pair start pair).1 (inr refl)))

    pub taken_other : Contains (pairs_of after) (swapped pair)
    unfolding after
    taken_other = (pair_pushed mid (swapped pair) start (swapped pair)).1 (inr refl)

    pub both_after : HaveBoth after
    both_after other i =
        elim (in_after other i) [
          | inl before ↦ pairs_still knowns grew_after.new after grew_after.whole (swapped other) (may.both other before)
          | inr rest ↦ elim rest [
            | inl one ↦ subst (λ (p : Pair). Contains (pairs_of after) (swapped p)) one taken_other
            | inr two ↦ subst (λ (p : Pair). Contains (pairs_of after) (swapped p)) two taken_one
          ]
        ]
