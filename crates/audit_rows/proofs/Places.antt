-- The order of places.
use Rattle.std.proofs.Common.{◌≡◌, ℕ, ◌<◌, ◌≤◌, false, refl, ap, subst, arith, ◌⊎◌, inl, inr}
use Rattle.std.specs.declared.cmp.Ordering.{Ordering}
use Rattle.std.specs.declared.cmp.Ordering.TheVariants.{Less, Equal, Greater}
use Rattle.std.proofs.lemmas.Map.Lookups.{exact_unsigned}
use Rattle.std.proofs.lemmas.Bool.Decides.{nat_tests}
use Rattle.std.specs.Cmp.{IsTotalOrder}
use Rattle.std.specs.Ordering.{nat_cmp, ordering_then, is_gt}
use Rattle.meetings.specs.declared.pair.Pair.{Pair}
use Rattle.audit_rows.specs.contracts.sort_key.SortKeyOrd.TheImpl as place_ord
use Rattle.audit_rows.specs.contracts.sort_key.SortKeyOrd.TheImpl.Laws as place_laws
use Rattle.audit_rows.specs.contracts.topic.TopicOrd.TheImpl as topic_ord
use Rattle.audit_rows.specs.declared.sort_key.SortKey.{SortKey}
use Rattle.audit_rows.specs.declared.topic.Topic.{Topic}
use Rattle.audit_rows.specs.declared.topic.Topic.TheVariants.{Meeting, Verdict}
use Rattle.audit_rows.specs.Order.{pair_cmp, topic_cmp, place_cmp}

-- ---- the order that is derived

abbrev pub derived_cmp : SortKey → SortKey → Ordering
derived_cmp = (place_ord.ghosts).cmp

topics_alike : (a b : Topic) → (topic_ord.ghosts).cmp a b ≡ topic_cmp a b
topics_alike (Meeting a) (Meeting b) = refl
topics_alike (Meeting a) (Verdict b rule) = refl
topics_alike (Verdict a rule) (Meeting b) = refl
topics_alike (Verdict a rule) (Verdict b other) = refl

pub derived_is : derived_cmp ≡ place_cmp
derived_is = λ i a b. ordering_then (nat_cmp a.last b.last) (topics_alike a.topic b.topic i)

pub place_total : IsTotalOrder place_cmp
place_total = subst IsTotalOrder derived_is place_laws.total-law

-- ---- places that compare alike are one

then_equal : (a b : Ordering) → ordering_then a b ≡ Equal → (a ≡ Equal) × (b ≡ Equal)
then_equal Less b e = absurd (cc)
then_equal Equal b e = (refl, e)
then_equal Greater b e = absurd (cc)

same_number : (a b : ℕ) → nat_cmp a b ≡ Equal → a ≡ b
same_number a b e = exact_unsigned a b e

same_pair : (a b : Pair) → pair_cmp a b ≡ Equal → a ≡ b
same_pair a b e =
    let p = then_equal (nat_cmp a.subject b.subject) _ e in
    let s = same_number a.subject b.subject p.0 in
    let o = same_number a.other b.other p.1 in
    λ i. record { subject = s i; other = o i }

same_topic : (a b : Topic) → topic_cmp a b ≡ Equal → a ≡ b
same_topic (Meeting a) (Meeting b) e = ap (λ (p : Pair). Meeting p) (same_pair a b e)
same_topic (Meeting a) (Verdict b rule) e = absurd (cc)
same_topic (Verdict a rule) (Meeting b) e = absurd (cc)
same_topic (Verdict a rule) (Verdict b other) e =
    let p = then_equal (pair_cmp a b) _ e in
    let s = same_pair a b p.0 in
    let r = same_number rule other p.1 in
    λ i. Verdict (s i) (r i)

pub same_place : (a b : SortKey) → place_cmp a b ≡ Equal → a ≡ b
same_place a b e =
    let p = then_equal (nat_cmp a.last b.last) _ e in
    let l = same_number a.last b.last p.0 in
    let t = same_topic a.topic b.topic p.1 in
    λ i. record { last = l i; topic = t i }

-- ---- the last step counts first

-- what ends before another stands before it
pub earlier_first : (a b : SortKey) → a.last < b.last → place_cmp a b ≡ Less
earlier_first a b lt = let e : nat_cmp a.last b.last ≡ Less = grind (arith, nat_tests) in ap (λ (o : Ordering). ordering_then o (topic_cmp a.topic b.topic)) e

pub not_later : (a b : SortKey) → is_gt (place_cmp a b) ≡ false → a.last ≤ b.last
not_later a b h = elim (leb_or a.last b.last) [
  | inl le ↦ le
  | inr gt ↦ (let e : nat_cmp a.last b.last ≡ Greater = grind (arith, nat_tests) in
      let f = ap (λ (o : Ordering). is_gt (ordering_then o (topic_cmp a.topic b.topic))) e in
      absurd (cc))
]
  where
    leb_or : (m n : ℕ) → (m ≤ n) ⊎ (n < m)
    leb_or m n = grind arith
