-- Rows are merged in their one order, where those at one place are one row.
use Rattle.std.proofs.Common.{◌≡◌, List, [], ◌∷◌, ◌⊎◌, inl, inr, refl, sym, ap, subst}
use Rattle.std.specs.List.{Contains}
use Rattle.std.specs.declared.cmp.Ordering.{Ordering}
use Rattle.std.specs.declared.cmp.Ordering.TheVariants.{Less, Equal, Greater}
use Rattle.std.specs.Ordering.{nat_cmp, ordering_then}
use Rattle.std.proofs.lemmas.Map.Lookups.{exact_unsigned}
use Rattle.meetings.specs.declared.pair.Pair.{Pair}
use Rattle.audit_rows.specs.Order.{InOrder, pair_cmp, place_cmp, sort_key_of, topic_cmp}
use Rattle.audit_rows.specs.declared.row.Row.{Row}
use Rattle.audit_rows.specs.declared.sort_key.SortKey.{SortKey}
use Rattle.audit_rows.specs.declared.topic.Topic.{Topic}
use Rattle.audit_rows.specs.declared.topic.Topic.TheVariants.{Meeting, Verdict}
use Rattle.audit_rows.proofs.ForCallers.{place_total}
use Rattle.outside.proofs.Members.{in_cons, in_head, in_none, in_tail}
use Rattle.laws.proofs.Sorting.{AreSorted, one_at_key, one_more as at_its_place, sorted_none}

-- ---- places that compare alike are one

then_equal : (a b : Ordering) → ordering_then a b ≡ Equal → (a ≡ Equal) × (b ≡ Equal)
then_equal Less b e = absurd (cc)
then_equal Equal b e = (refl, e)
then_equal Greater b e = absurd (cc)

same_pair : (a b : Pair) → pair_cmp a b ≡ Equal → a ≡ b
same_pair a b e =
    let p = then_equal (nat_cmp a.subject b.subject) _ e in
    let s = exact_unsigned a.subject b.subject p.0 in
    let o = exact_unsigned a.other b.other p.1 in
    λ i. record { subject = s i; other = o i }

same_topic : (a b : Topic) → topic_cmp a b ≡ Equal → a ≡ b
same_topic (Meeting a) (Meeting b) e = ap (λ (p : Pair). Meeting p) (same_pair a b e)
same_topic (Meeting a) (Verdict b rule) e = absurd (cc)
same_topic (Verdict a rule) (Meeting b) e = absurd (cc)
same_topic (Verdict a rule) (Verdict b other) e =
    let p = then_equal (pair_cmp a b) _ e in
    let s = same_pair a b p.0 in
    let r = exact_unsigned rule other p.1 in
    λ i. Verdict (s i) (r i)

pub same_place : (a b : SortKey) → place_cmp a b ≡ Equal → a ≡ b
same_place a b e =
    let p = then_equal (nat_cmp a.last b.last) _ e in
    let l = exact_unsigned a.last b.last p.0 in
    let t = same_topic a.topic b.topic p.1 in
    λ i. record { last = l i; topic = t i }

-- ---- the rows in order that have a property

abbrev pub AreMerged : (Row → Type 0) → Type 0
AreMerged = AreSorted sort_key_of place_cmp

pub none_merged : AreMerged (λ row. ⊥)
none_merged = sorted_none sort_key_of place_cmp

-- Two rows of a list in order that stand at one place are one.
pub one_at_place : (rows : List Row) (a b : Row) → InOrder rows → Contains rows a → Contains rows b → sort_key_of a ≡ sort_key_of b → a ≡ b
one_at_place = one_at_key sort_key_of place_cmp place_total

-- a row among others, at its place
one_more : (row : Row) (rows : List Row) → InOrder rows → ((other : Row) → Contains rows other → sort_key_of row ≡ sort_key_of other → row ≡ other)
    → AreMerged (λ z. (row ≡ z) ⊎ Contains rows z)
one_more = at_its_place sort_key_of place_cmp place_total same_place

-- Of rows those that are chosen, among others: all have a property by which those at one place are one.
pub chosen_too : (Property Chosen : Row → Type 0) → ((row : Row) → Chosen row ⊎ ¬ Chosen row)
    → ((a b : Row) → Property a → Property b → sort_key_of a ≡ sort_key_of b → a ≡ b)
    → (more rows : List Row) → InOrder rows → ((row : Row) → Contains rows row → Property row) → ((row : Row) → Contains more row → Chosen row → Property row)
    → AreMerged (λ z. (Contains more z × Chosen z) ⊎ Contains rows z)
chosen_too Property Chosen decided one [] rows s all mine = record {
  items = rows;
  ordered = s;
  sound = λ z i. inr i;
  complete = λ z h. elim h [ inl of ↦ in_none z of.0 | inr i ↦ i ];
}
chosen_too Property Chosen decided one (x ∷ xs) rows s all mine =
    let rest = chosen_too Property Chosen decided one xs rows s all (λ row i. mine row (in_tail x xs row i)) in
    let property : (z : Row) → Contains rest.items z → Property z =
    λ z i. elim (rest.sound z i) [ inl of ↦ mine z (in_tail x xs z of.0) of.1 | inr j ↦ all z j ] in
    elim (decided x) [
      | inl chosen ↦ (let now = one_more x rest.items rest.ordered (λ other i e. one x other (mine x (in_head x xs) chosen) (property other i) e) in
          record {
            items = now.items;
            ordered = now.ordered;
            sound = λ z i. elim (now.sound z i) [
              | inl is ↦ inl (subst (λ (w : Row). Contains (x ∷ xs) w × Chosen w) is (in_head x xs, chosen))
              | inr j ↦ elim (rest.sound z j) [ inl of ↦ inl (in_tail x xs z of.0, of.1) | inr k ↦ inr k ]
            ];
            complete = λ z h. elim h [
              | inl of ↦ elim (in_cons x xs z of.0) [
                | inl is ↦ now.complete z (inl is)
                | inr later ↦ now.complete z (inr (rest.complete z (inl (later, of.1))))
              ]
              | inr k ↦ now.complete z (inr (rest.complete z (inr k)))
            ];
          })
      | inr other ↦ record {
        items = rest.items;
        ordered = rest.ordered;
        sound = λ z i. elim (rest.sound z i) [ inl of ↦ inl (in_tail x xs z of.0, of.1) | inr k ↦ inr k ];
        complete = λ z h. elim h [
          | inl of ↦ elim (in_cons x xs z of.0) [
            | inl is ↦ absurd (other (subst Chosen (sym is) of.1))
            | inr later ↦ rest.complete z (inl (later, of.1))
          ]
          | inr k ↦ rest.complete z (inr k)
        ];
      }
    ]
