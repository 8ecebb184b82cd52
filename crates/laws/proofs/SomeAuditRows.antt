-- That an audit has no list of rows is refuted: its rows end at steps of the window and name pairs that are seen, and each place has at most one row.
use Rattle.std.proofs.Common.{ℕ, ◌≡◌, ◌+◌, ◌-◌, ◌<◌, ◌≤◌, List, ◌∷◌, length, map, sym, subst, arith}
use Rattle.std.specs.Prelude.{flat_map}
use Rattle.std.specs.List.{Contains}
use Rattle.meetings.specs.declared.pair.Pair.{Pair}
use Rattle.meetings.proofs.ForCallers.{steps_from-length}
use Rattle.audit_rows.specs.Order.{last_step_of, place_cmp, sort_key_of, topic_of}
use Rattle.audit_rows.specs.declared.mark.Mark.{Mark}
use Rattle.audit_rows.specs.declared.row.Row.{Row}
use Rattle.audit_rows.specs.declared.sort_key.SortKey.{SortKey}
use Rattle.audit_rows.specs.declared.topic.Topic.{Topic}
use Rattle.audit_rows.specs.declared.topic.Topic.TheVariants.{Meeting, Verdict}
use Rattle.audit_rows.proofs.ForCallers.{place_total, row_within}
use Rattle.auditor.specs.AuditRows.{AreAuditRows, IsAuditRow}
use Rattle.auditor.specs.AuditTracks.{AreMarksOf}
use Rattle.outside.proofs.Members.{in_head, in_tail}
use Rattle.traces.specs.Audited.{AuditNumbers, Sighting, seen_state_at, trace_steps}
use Rattle.traces.proofs.ForCallers.{in_map}
use Rattle.laws.proofs.Candidates.{begun, below, in_below, in_each, pairs_seen}
use Rattle.laws.proofs.Merging.{same_place}
use Rattle.laws.proofs.OneRow.{one_row_at}
use Rattle.laws.proofs.Sorting.{AreSorted, some_sorted}

module _ (numbers : AuditNumbers) (ticks : List Sighting) where
  -- ---- the places at which rows can stand

  topics_of : Pair → List Topic
  topics_of pair = Meeting pair ∷ map (Verdict pair) (below (length numbers.rules))

  topics : List Topic
  topics = flat_map topics_of (pairs_seen ticks)

  places : List SortKey
  places = flat_map (λ (last : ℕ). map (λ (topic : Topic). record { last = last; topic = topic }) topics) (below (length ticks))

  steps_left : (pair : Pair) (start : ℕ) → length (trace_steps numbers ticks pair start) ≡ length ticks - 1 - start
  steps_left pair start = steps_from-length (seen_state_at ticks pair.subject) (seen_state_at ticks pair.other) start (length ticks - 1 - start)

  -- A topic of a track is one of theirs, and the track ends by the last tick.
  topic_known : (topic : Topic) (first : ℕ) (marks : List Mark) → AreMarksOf numbers ticks topic first marks → Contains topics topic × (first + length marks ≤ length ticks)
  unfolding topics topics_of
  topic_known (Meeting pair) first marks h =
      let known = begun ticks numbers pair first h.begins in
      let within = known.1 in
      let count = h.count in
      let left = steps_left pair first in (
        in_each topics_of (pairs_seen ticks) pair (Meeting pair) known.0 (in_head (Meeting pair) (map (Verdict pair) (below (length numbers.rules)))),
        omega arith,
      )
  topic_known (Verdict pair rule) first marks h =
      let known = begun ticks numbers pair first h.of.begins in
      let within = known.1 in
      let count = h.count in
      let rows = h.of.rows.count in
      let left = steps_left pair first in (
        in_each topics_of (pairs_seen ticks) pair (Verdict pair rule) known.0
            (in_tail (Meeting pair) (map (Verdict pair) (below (length numbers.rules))) (Verdict pair rule) (in_map (Verdict pair) (below (length numbers.rules)) rule (in_below (length numbers.rules) rule h.within))),
        omega arith,
      )

  place_known : (row : Row) → IsAuditRow numbers ticks row → Contains places (sort_key_of row)
  unfolding places
  place_known row (track, (is, of)) =
      let known = topic_known track.topic track.first track.marks is in
      let end = known.1 in
      let within = row_within track row of in
      let before = within.2 in
      let last : last_step_of row < length ticks = omega arith in
      in_each (λ (last : ℕ). map (λ (topic : Topic). record { last = last; topic = topic }) topics) (below (length ticks)) (last_step_of row) (sort_key_of row)
      (in_below (length ticks) (last_step_of row) last)
      (in_map (λ (topic : Topic). record { last = last_step_of row; topic = topic }) topics (topic_of row) (subst (Contains topics) (sym of.2.topic) known.0))

  -- ---- the rows that have a property, as those that lines decide

  pub some_rows_with : (Property : Row → Type 0) → ((row : Row) → Property row → IsAuditRow numbers ticks row) → ¬ ¬ AreSorted sort_key_of place_cmp Property
  some_rows_with Property audited =
      some_sorted sort_key_of place_cmp place_total same_place Property (λ a b x y. one_row_at numbers ticks a b (audited a x) (audited b y)) places (λ row x. place_known row (audited row x))

  pub some_audit_rows : ¬ ((rows : List Row) → ¬ AreAuditRows numbers ticks rows)
  some_audit_rows none = some_rows_with (IsAuditRow numbers ticks) (λ row is. is) (λ all.
      none all.items (record { each = λ row. (all.sound row, all.complete row); ordered = all.ordered }))
