-- As the traces of one pair after the other begin.
use Rattle.std.proofs.Common.{◌≡◌, ◌≢◌, ℕ, ◌+◌, ◌<◌, ◌⊎◌, inl, inr, List, [], ◌∷◌, length, get_or, take, sym, subst, ◌∙◌, arith}
use Rattle.std.specs.List.{AllPairs, Contains}
use Rattle.std.proofs.lemmas.List.{take_more}
use Rattle.std.proofs.lemmas.List.Elements.{Contains-append_cases}
use Rattle.meetings.specs.Traces.{AreInContact}
use Rattle.meetings.specs.declared.pair.Pair.{Pair}
use Rattle.traces.specs.Audited.{IsAudited, AuditNumbers, SeenVessels, Sighting, state_in}
use Rattle.traces.specs.Contacts.{AreContacts}
use Rattle.traces.specs.Inner.TracesKept.{AreBegun, AreTooMany, Grew, HaveBoth, Holds, IsBeginning, IsTaken, MayTake, swapped}
use Rattle.traces.specs.Known.{Known, pairs_of}
use Rattle.traces.specs.declared.all_traces.AllTraces.{AllTraces}
use Rattle.outside.proofs.Members.{in_cons, in_none}
use Rattle.traces.proofs.Taking.{grew_on, pairs_still}
use Rattle.traces.proofs.Ticks.{audited_back, contact_back}

pub begins_on : (old mid new : AllTraces) → IsBeginning old mid → IsBeginning mid new → IsBeginning old new
begins_on old mid new g h = record {
  subjects = h.subjects ∙ g.subjects;
  last_tick = h.last_tick ∙ g.last_tick;
  given = h.given ∙ g.given;
  latest = h.latest ∙ g.latest;
  ranks = h.ranks ∙ g.ranks;
  more = (let a = g.more in let b = h.more in omega arith);
}

-- The traces of these pairs have begun.
pub record AreBegunSo (kept : AllTraces) (numbers : AuditNumbers) (ticks : List Sighting) (seen : SeenVessels) (start : ℕ) (before : List Known) (front : List Pair) : Type 0 where
  pub after : List Known
  pub holds : Holds kept numbers ticks after
  pub once : AllPairs ◌≢◌ (pairs_of after)
  pub both : HaveBoth after
  pub grew : Grew numbers seen (pairs_of before) start before after
  pub all : (pair : Pair) → Contains front pair → IsAudited numbers.subjects pair → Contains (pairs_of after) pair

module _ (kept : AllTraces) (numbers : AuditNumbers) (ticks : List Sighting) (seen : SeenVessels) (start : ℕ) (before : List Known) where
  -- the next pair may be taken
  pub may_take : (front : List Pair) (pair : Pair) → numbers.subjects ≡ kept.subjects.items → pair.subject < pair.other
      → AreInContact numbers.detect.watch (state_in pair.subject seen) (state_in pair.other seen)
      → (b : AreBegunSo kept numbers ticks seen start before front) → MayTake kept numbers seen (pairs_of before) b.after pair
  may_take front pair of lt near b = record {
    of = of;
    two = λ e. absurd (omega arith);
    contact = near;
    once = b.once;
    both = b.both;
    still = pairs_still before b.grew.new b.after b.grew.whole;
  }

  pub begun_more : (next : AllTraces) (pairs : List Pair) (i : ℕ) (d : Pair) → i < length pairs
      → (b : AreBegunSo kept numbers ticks seen start before (take i pairs)) → IsTaken next numbers ticks seen (pairs_of before) start b.after (get_or pairs i d)
      → AreBegunSo next numbers ticks seen start before (take (i + 1) pairs)
  begun_more next pairs i d lt b t = record {
    after = t.after;
    holds = t.holds;
    once = t.once;
    both = t.both;
    grew = grew_on numbers seen (pairs_of before) start before b.after t.after b.grew t.grew;
    all = λ other there audited. elim (Contains-append_cases (take i pairs) (get_or pairs i d ∷ []) other (subst (λ (ps : List Pair). Contains ps other) (take_more pairs i d lt) there)) [
      | inl earlier ↦ pairs_still b.after t.grew.new t.after t.grew.whole other (b.all other earlier audited)
      | inr last ↦ elim (in_cons (get_or pairs i d) [] other last) [
        | inl same ↦ subst (λ (p : Pair). Contains (pairs_of t.after) p) same (t.taken (subst (λ (p : Pair). IsAudited numbers.subjects p) (sym same) audited))
        | inr none ↦ in_none other none
      ]
    ];
  }

  -- the traces that are too many beside those so far
  pub too_many : (front : List Pair) (b : AreBegunSo kept numbers ticks seen start before front) → AreTooMany numbers seen (pairs_of before) start b.after → AreTooMany numbers seen (pairs_of before) start before
  too_many front b t = record {
    full = t.full;
    many = t.many;
    once = t.once;
    grew = grew_on numbers seen (pairs_of before) start before b.after t.full b.grew t.grew;
    further = t.further;
    fresh = t.fresh;
    new = t.new;
  }

  three : (m n : ℕ) → m ≢ n → (m < n) ⊎ (n < m)
  three m n ne = grind arith

  pub begun_all : (pairs : List Pair) → AreContacts numbers.subjects numbers.detect.watch seen pairs → AreBegunSo kept numbers ticks seen start before pairs → AreBegun kept numbers ticks seen start before
  begun_all pairs contacts b = record {
    after = b.after;
    holds = b.holds;
    once = b.once;
    grew = b.grew;
    all = λ pair audited near. elim (three pair.subject pair.other audited.two) [
      | inl lt ↦ b.all pair (contacts.complete pair lt audited near) audited
      | inr gt ↦ b.both (swapped pair) (b.all (swapped pair)
          (contacts.complete (swapped pair) gt (audited_back numbers.subjects pair audited) (contact_back numbers.detect.watch (state_in pair.subject seen) (state_in pair.other seen) near))
          (audited_back numbers.subjects pair audited))
    ];
  }
