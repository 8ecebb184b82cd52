-- Shares of one audit whose groups cover all vessels make the whole.
use Rattle.std.proofs.Common.{◌≡◌, ◌≢◌, ℕ, List, [], ◌∷◌, ◌⊎◌, inl, inr, sym, ap, subst, ◌∙◌, arith}
use Rattle.std.specs.Prelude.{◌↔◌, IsSome}
use Rattle.std.specs.List.{Contains}
use Rattle.meetings.specs.declared.pair.Pair.{Pair}
use Rattle.audit_rows.specs.Order.{sort_key_of}
use Rattle.audit_rows.specs.declared.row.Row.{Row}
use Rattle.audit_rows.specs.declared.sort_key.SortKey.{SortKey}
use Rattle.auditor.specs.AuditRows.{AreAuditRows, IsAuditRow}
use Rattle.auditor.specs.Tallies.{pair_of as topic_pair}
use Rattle.traces.specs.Audited.{AuditNumbers, Sighting, seen_state_at}
use Rattle.outside.proofs.Members.{in_cons, in_head, in_none, in_tail}
use Rattle.laws.specs.Reported.{pair_of}
use Rattle.laws.specs.Subjects.{AreJoined, IsKept, Share, for_subjects}
use Rattle.laws.proofs.Merging.{AreMerged, chosen_too, none_merged, one_at_place}
use Rattle.laws.proofs.OtherSubjects.{row_began, rows_of_a_subject, same_pair, subject_seen}

same_number : (a b : ℕ) → (a ≡ b) ⊎ (a ≢ b)
same_number a b = grind arith

is_among : (group : List ℕ) (m : ℕ) → Contains group m ⊎ ¬ Contains group m
is_among [] m = inr (λ i. in_none m i)
is_among (g ∷ group) m =
    elim (same_number g m) [
      | inl is ↦ inl (subst (Contains (g ∷ group)) is (in_head g group))
      | inr other ↦ elim (is_among group m) [
        | inl later ↦ inl (in_tail g group m later)
        | inr not ↦ inr (λ i. elim (in_cons g group m i) [ inl is ↦ other is | inr later ↦ not later ])
      ]
    ]

-- a row that is kept of some share
abbrev IsKeptOf : List Share → Row → Type 0
IsKeptOf shares row = (share : Share) × (Contains shares share × IsKept row share)

-- Each vessel that is seen at some of these ticks is in the group of some share.
abbrev Cover : List Sighting → List Share → Type 0
Cover ticks shares = (mmsi k : ℕ) → IsSome (seen_state_at ticks mmsi k) → (share : Share) × (Contains shares share × Contains share.group mmsi)

module _ (numbers : AuditNumbers) (ticks : List Sighting) (shares : List Share)
    (are : (share : Share) → Contains shares share → AreAuditRows (for_subjects share.group numbers) ticks share.rows) where
  -- What is kept is a row of all pairs.
  pub kept_is_row : (row : Row) → IsKeptOf shares row → IsAuditRow (for_subjects [] numbers) ticks row
  kept_is_row row (share, (inside, kept)) = (rows_of_a_subject numbers ticks share.group row kept.subject).0 (((are share inside).each row).0 kept.told)

  pub row_is_kept : Cover ticks shares → (row : Row) → IsAuditRow (for_subjects [] numbers) ticks row → IsKeptOf shares row
  row_is_kept cover row is =
      let begun = row_began (for_subjects [] numbers) ticks row is in
      let (share, (inside, subject)) = cover (pair_of row).subject begun.0 (subject_seen (for_subjects [] numbers) ticks (pair_of row) begun.0 begun.1) in (
        share,
        (
          inside,
          record {
            told = ((are share inside).each row).1 ((rows_of_a_subject numbers ticks share.group row subject).1 is);
            subject = subject;
          },
        ),
      )

  pub joined_are_whole : Cover ticks shares → (rows : List Row) → AreJoined shares rows ↔ AreAuditRows (for_subjects [] numbers) ticks rows
  joined_are_whole cover rows = (
    (λ joined. record {
      each = λ row. ((λ i. kept_is_row row ((joined.each row).0 i)), (λ is. (joined.each row).1 (row_is_kept cover row is)));
      ordered = joined.ordered;
    }),
    (λ whole. record {
      each = λ row. ((λ i. row_is_kept cover row ((whole.each row).0 i)), (λ kept. (whole.each row).1 (kept_is_row row kept)));
      ordered = whole.ordered;
    }),
  )

  -- Two kept rows at the same place are equal: the share that keeps one of them reports the other too.
  one_kept : (a b : Row) → IsKeptOf shares a → IsKeptOf shares b → sort_key_of a ≡ sort_key_of b → a ≡ b
  one_kept a b (share, (inside, kept)) other e =
      let pair : pair_of a ≡ pair_of b = sym (same_pair a) ∙ (ap (λ (key : SortKey). topic_pair key.topic) e ∙ same_pair b) in
      let subject : Contains share.group (pair_of b).subject = subst (λ (p : Pair). Contains share.group p.subject) pair kept.subject in
      let told : Contains share.rows b = ((are share inside).each b).1 ((rows_of_a_subject numbers ticks share.group b subject).1 (kept_is_row b other)) in
      one_at_place share.rows a b (are share inside).ordered kept.told told e

  -- the rows that are kept of some of the shares
  merged : (some : List Share) → ((share : Share) → Contains some share → Contains shares share) → AreMerged (IsKeptOf some)
  merged [] among =
      let none = none_merged in
      record {
        items = none.items;
        ordered = none.ordered;
        sound = λ row i. absurd (none.sound row i);
        complete = λ row kept. in_none kept.0 kept.1.0;
      }
  merged (share ∷ some) among =
      let rest = merged some (λ other i. among other (in_tail share some other i)) in
      let inside = among share (in_head share some) in
      let all = chosen_too (IsKeptOf shares) (λ row. Contains share.group (pair_of row).subject) (λ row. is_among share.group (pair_of row).subject) one_kept
      share.rows rest.items rest.ordered
      (λ row i. let (other, (j, kept)) = rest.sound row i in (other, (among other (in_tail share some other j), kept)))
      (λ row told subject. (share, (inside, record { told = told; subject = subject }))) in
      record {
        items = all.items;
        ordered = all.ordered;
        sound = λ row i. elim (all.sound row i) [
          | inl mine ↦ (share, (in_head share some, record { told = mine.0; subject = mine.1 }))
          | inr j ↦ (let (other, (k, kept)) = rest.sound row j in (other, (in_tail share some other k, kept)))
        ];
        complete = λ row (other, (i, kept)). elim (in_cons share some other i) [
          | inl is ↦ all.complete row (inl (subst (λ (s : Share). Contains s.rows row × Contains s.group (pair_of row).subject) (sym is) (kept.told, kept.subject)))
          | inr later ↦ all.complete row (inr (rest.complete row (other, (later, kept))))
        ];
      }

  pub some_joined : (rows : List Row) × AreJoined shares rows
  some_joined =
      let all = merged shares (λ share i. i) in
      (all.items, record { each = λ row. (all.sound row, all.complete row); ordered = all.ordered })
