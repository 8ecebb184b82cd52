-- Alarms in their order, and a set of them.
use Rattle.std.proofs.Common.{◌≡◌, ◌⊎◌, ◌↔◌, inl, inr, Bool, true, refl, sym, ap, subst, ◌∙◌}
use Rattle.std.specs.Prelude.{IsTrue, cond}
use Rattle.std.specs.BTreeSet.{BTreeSet, contains}
use Rattle.std.specs.List.{Contains}
use Rattle.std.specs.declared.cmp.Ordering.{Ordering}
use Rattle.std.specs.declared.cmp.Ordering.TheVariants.{Less, Equal, Greater}
use Rattle.std.specs.Cmp.{IsTotalOrder}
use Rattle.std.specs.Ordering.{is_eq, nat_cmp, ordering_then}
use Rattle.std.proofs.lemmas.Cmp.{tied_itself}
use Rattle.std.proofs.lemmas.Map.Views.{btree_set_contains_iff}
use Rattle.std.proofs.lemmas.Map.Lookups.{CmpEqualImpliesEq, exact_unsigned}
use Rattle.early_monitor.specs.contracts.alarm.AlarmOrd.TheImpl.Laws as alarm_laws
use Rattle.early_monitor.specs.declared.alarm.Alarm.{Alarm}
use Rattle.audit_rows.specs.Order.{pair_cmp}
use Rattle.early_monitor.specs.Alarms.{alarm_cmp}

pub alarm_total : IsTotalOrder alarm_cmp
alarm_total = alarm_laws.total-law

then_equal : (a b : Ordering) → ordering_then a b ≡ Equal → (a ≡ Equal) × (b ≡ Equal)
then_equal Less b e = absurd (cc)
then_equal Equal b e = (refl, e)
then_equal Greater b e = absurd (cc)

pub alarm_exact : CmpEqualImpliesEq alarm_cmp
alarm_exact a b e =
    let p = then_equal (nat_cmp a.decided b.decided) (ordering_then (pair_cmp a.pair b.pair) (ordering_then (nat_cmp a.rule b.rule) (nat_cmp a.position b.position))) e in
    let q = then_equal (pair_cmp a.pair b.pair) (ordering_then (nat_cmp a.rule b.rule) (nat_cmp a.position b.position)) p.1 in
    let r = then_equal (nat_cmp a.rule b.rule) (nat_cmp a.position b.position) q.1 in
    let s = then_equal (nat_cmp a.pair.subject b.pair.subject) (nat_cmp a.pair.other b.pair.other) q.0 in
    let decided = exact_unsigned a.decided b.decided p.0 in
    let subject = exact_unsigned a.pair.subject b.pair.subject s.0 in
    let other = exact_unsigned a.pair.other b.pair.other s.1 in
    let rule = exact_unsigned a.rule b.rule r.0 in
    let position = exact_unsigned a.position b.position r.1 in
    λ i. record { decided = decided i; pair = record { subject = subject i; other = other i }; rule = rule i; position = position i }

-- A set to which an alarm is added has it, and what it had.
pub one_more_alarm : (old new : BTreeSet Alarm) (k : Alarm) → ((a : Alarm) → contains alarm_cmp new a ≡ cond (is_eq (alarm_cmp k a)) true (contains alarm_cmp old a))
    → (a : Alarm) → Contains new.keys a ↔ (Contains old.keys a ⊎ (a ≡ k))
one_more_alarm old new k updates a = by_order (alarm_cmp k a) refl
  where
    was : IsTrue (contains alarm_cmp old a) ↔ Contains old.keys a
    was = btree_set_contains_iff alarm_total alarm_exact old a

    now : IsTrue (contains alarm_cmp new a) ↔ Contains new.keys a
    now = btree_set_contains_iff alarm_total alarm_exact new a

    by : (o : Ordering) → alarm_cmp k a ≡ o → contains alarm_cmp new a ≡ cond (is_eq o) true (contains alarm_cmp old a)
    by o is = updates a ∙ ap (λ (p : Ordering). cond (is_eq p) true (contains alarm_cmp old a)) is

    not_same : (o : Ordering) → alarm_cmp k a ≡ o → a ≡ k → o ≡ Equal
    not_same o is same = sym is ∙ ap (alarm_cmp k) same ∙ tied_itself alarm_total k

    by_order : (o : Ordering) → alarm_cmp k a ≡ o → Contains new.keys a ↔ (Contains old.keys a ⊎ (a ≡ k))
    by_order Equal is = (λ i. inr (sym (alarm_exact k a is)), λ h. now.0 (subst (λ (b : Bool). IsTrue b) (sym (by Equal is)) refl))
    by_order Less is = (
      λ i. inl (was.0 (subst (λ (b : Bool). IsTrue b) (by Less is) (now.1 i))),
      λ h. elim h [
        | inl there ↦ now.0 (subst (λ (b : Bool). IsTrue b) (sym (by Less is)) (was.1 there))
        | inr same ↦ absurd (let e = not_same Less is same in cc)
      ],
    )
    by_order Greater is = (
      λ i. inl (was.0 (subst (λ (b : Bool). IsTrue b) (by Greater is) (now.1 i))),
      λ h. elim h [
        | inl there ↦ now.0 (subst (λ (b : Bool). IsTrue b) (sym (by Greater is)) (was.1 there))
        | inr same ↦ absurd (let e = not_same Greater is same in cc)
      ],
    )
