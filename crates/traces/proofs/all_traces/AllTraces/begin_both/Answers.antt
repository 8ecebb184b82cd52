use Rattle.std.proofs.Common.{◌≡◌, ◌⊎◌, ℕ, List, [], ◌∷◌, ◌++◌, length, Err, sym, ap, subst, ◌∙◌}
use Rattle.std.specs.List.{Contains}
use Rattle.meetings.specs.declared.pair.Pair.{Pair}
use Rattle.traces.specs.Audited.{AuditNumbers, SeenVessels, Sighting}
use Rattle.traces.specs.Inner.TracesKept.{AreTooMany, Follows, Holds, IsTaken, MayTake, swapped}
use Rattle.traces.specs.Known.{Known, opened, pairs_of}
use Rattle.traces.specs.declared.all_traces.AllTraces.{AllTraces}
use Rattle.traces.specs.declared.all_traces.TheConstants.{MOST_TRACES}
use Rattle.traces.specs.declared.fault.TickFault.{TickFault}
use Rattle.traces.specs.declared.fault.TickFault.TheVariants.{TooManyPairs}
use Rattle.traces.proofs.Growing.{zip_length}
use Rattle.outside.proofs.ForCallers.{same_fault}
use Rattle.std.proofs.lemmas.Result.{on_ok_weaker}
use Rattle.traces.proofs.Taking.{after, after_is, both_after, fresh_one, fresh_other, grew_after, grew_mid, grew_none, mid, mid_is, new_other, once_after, once_mid, taken_one}
use Rattle.traces.proofs.all_traces.AllTraces.begin_both.Goals as goal

many_known : (kept : AllTraces) (numbers : AuditNumbers) (ticks : List Sighting) (knowns : List Known) → Holds kept numbers ticks knowns → length kept.traces.items ≡ MOST_TRACES → length knowns ≡ MOST_TRACES
many_known kept numbers ticks knowns h e = sym (zip_length (Follows numbers ticks) kept.traces.items knowns h.traces) ∙ e

module _ (numbers : AuditNumbers) (ticks : List Sighting) (seen : SeenVessels) (old : List Pair) (start : ℕ) (own : AllTraces) (knowns : List Known) (pair : Pair) (may : MayTake own numbers seen old knowns pair)
    (chosen : (own.subjects.items ≡ []) ⊎ Contains own.subjects.items pair.subject ⊎ Contains own.subjects.items pair.other) (new : Contains (pairs_of knowns) pair → ⊥) where
  full_at_one : (kept : AllTraces) → Holds kept numbers ticks knowns → length kept.traces.items ≡ MOST_TRACES → AreTooMany numbers seen old start knowns
  full_at_one kept h e = record {
    full = knowns;
    many = many_known kept numbers ticks knowns h e;
    once = may.once;
    grew = grew_none numbers seen old start knowns;
    further = pair;
    fresh = fresh_one numbers seen old start own knowns pair may chosen new;
    new = new;
  }

  abbrev Mid : List Known
  Mid = mid numbers seen old start own knowns pair may chosen new

  held_mid : (kept : AllTraces) → Holds kept numbers ticks (knowns ++ opened pair start ∷ []) → Holds kept numbers ticks Mid
  held_mid kept h = subst (λ (ks : List Known). Holds kept numbers ticks ks) (sym (mid_is numbers seen old start own knowns pair may chosen new)) h

  full_at_two : (kept : AllTraces) → Holds kept numbers ticks (knowns ++ opened pair start ∷ []) → length kept.traces.items ≡ MOST_TRACES → AreTooMany numbers seen old start knowns
  full_at_two kept h e = record {
    full = Mid;
    many = many_known kept numbers ticks Mid (held_mid kept h) e;
    once = once_mid numbers seen old start own knowns pair may chosen new;
    grew = grew_mid numbers seen old start own knowns pair may chosen new;
    further = swapped pair;
    fresh = fresh_other numbers seen old start own knowns pair may chosen new;
    new = new_other numbers seen old start own knowns pair may chosen new;
  }

  both_taken : (kept next : AllTraces) → Holds kept numbers ticks (knowns ++ opened pair start ∷ [])
      → ((numbers : AuditNumbers) (ticks : List Sighting) (knowns : List Known) → Holds kept numbers ticks knowns
      → Holds next numbers ticks (knowns ++ opened (swapped pair) start ∷ [])) → IsTaken next numbers ticks seen old start knowns pair
  both_taken kept next h stands = record {
    after = after numbers seen old start own knowns pair may chosen new;
    holds = subst (λ (ks : List Known). Holds next numbers ticks ks) (sym (after_is numbers seen old start own knowns pair may chosen new))
        (stands numbers ticks Mid (held_mid kept h));
    once = once_after numbers seen old start own knowns pair may chosen new;
    both = both_after numbers seen old start own knowns pair may chosen new;
    grew = grew_after numbers seen old start own knowns pair may chosen new;
    taken = λ audited. taken_one numbers seen old start own knowns pair may chosen new;
  }

chosen_of : (xs ys : List ℕ) (pair : Pair) → xs ≡ ys → (xs ≡ []) ⊎ Contains xs pair.subject ⊎ Contains xs pair.other → (ys ≡ []) ⊎ Contains ys pair.subject ⊎ Contains ys pair.other
chosen_of xs ys pair e h = subst (λ (s : List ℕ). (s ≡ []) ⊎ Contains s pair.subject ⊎ Contains s pair.other) e h

pub returns-then-not-is_chosen-clause-begun : goal.returns-then-not-is_chosen-clause-begun
returns-then-not-is_chosen-clause-begun c = λ numbers ticks seen old knowns h may. record {
  after = knowns;
  holds = h;
  once = may.once;
  both = may.both;
  grew = grew_none numbers seen old c.args.self.now.given knowns;
  taken = λ audited. (let is = c.is_chosen.ensures.1 (chosen_of _ _ c.args.pair (may.of ∙ sym c.deref.ensures.value) audited.chosen) in let not = c.if-not-is_chosen.true in absurd (cc));
}

pub returns-then-is_among-clause-begun : goal.returns-then-is_among-clause-begun
returns-then-is_among-clause-begun c = λ numbers ticks seen old knowns h may. record {
  after = knowns;
  holds = h;
  once = may.once;
  both = may.both;
  grew = grew_none numbers seen old c.args.self.now.given knowns;
  taken = λ audited. (h.pairs c.args.pair).0 (c.is_among.ensures.0 c.if-is_among.true);
}

pub returns-in_err-begin_one-clause-many : goal.returns-in_err-begin_one-clause-many
returns-in_err-begin_one-clause-many c = λ fault numbers ticks seen old knowns h may.
    let same = same_fault c.from_residual.result c.in_err-begin_one.field-0.0 TooManyPairs c.from_residual.ensures.1 fault in
    let err : c.begin_one.result ≡ Err TooManyPairs = c.in_err-begin_one.was ∙ ap (λ (e : TickFault). Err e) (sym same) in
    full_at_one numbers ticks seen old c.args.self.now.given c.args.self.now knowns c.args.pair may (chosen_of _ _ c.args.pair c.deref.ensures.value (c.is_chosen.ensures.0 c.if-not-is_chosen.false))
    (λ i. let is = c.is_among.ensures.1 ((h.pairs c.args.pair).1 i) in let not = c.if-is_among.false in absurd (cc)) c.args.self.now h (c.begin_one.ensures.many err)

pub returns-clause-begun : goal.returns-clause-begun
returns-clause-begun c = on_ok_weaker c.begin_one-2.result (λ stands numbers ticks seen old knowns h may.
    let new : Contains (pairs_of knowns) c.args.pair → ⊥ = λ i. let is = c.is_among.ensures.1 ((h.pairs c.args.pair).1 i) in let not = c.if-is_among.false in absurd (cc) in
    let given = c.in_ok-begin_one.ensures.same.given in
    both_taken numbers ticks seen old c.args.self.now.given c.args.self.now knowns c.args.pair may (chosen_of _ _ c.args.pair c.deref.ensures.value (c.is_chosen.ensures.0 c.if-not-is_chosen.false)) new c.begin_one.new.self c.begin_one-2.new.self
    (c.in_ok-begin_one.ensures.begun numbers ticks knowns h)
    (λ numbers ticks knowns h. subst (λ (n : ℕ). Holds c.begin_one-2.new.self numbers ticks (knowns ++ opened (swapped c.args.pair) n ∷ [])) given (stands numbers ticks knowns h))) c.begin_one-2.ensures.begun

pub returns-clause-many : goal.returns-clause-many
returns-clause-many c = λ fault numbers ticks seen old knowns h may.
    let new : Contains (pairs_of knowns) c.args.pair → ⊥ = λ i. let is = c.is_among.ensures.1 ((h.pairs c.args.pair).1 i) in let not = c.if-is_among.false in absurd (cc) in
    full_at_two numbers ticks seen old c.args.self.now.given c.args.self.now knowns c.args.pair may (chosen_of _ _ c.args.pair c.deref.ensures.value (c.is_chosen.ensures.0 c.if-not-is_chosen.false)) new c.begin_one.new.self
    (c.in_ok-begin_one.ensures.begun numbers ticks knowns h) (c.begin_one-2.ensures.many fault)
