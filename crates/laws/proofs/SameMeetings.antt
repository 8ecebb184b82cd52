-- A meeting of one window is a meeting of another that sees the same from its first step to the tick behind its last, where it is not
-- under way before.
use Rattle.std.proofs.Common.{◌≡◌, ℕ, ◌+◌, ◌-◌, ◌<◌, ◌≤◌, ◌⊎◌, inl, inr, List, [], ◌++◌, length, refl, sym, ap, subst, ◌∙◌, arith}
use Rattle.std.specs.Prelude.{◌↔◌, Option, Some, IsSomeAnd, IfSome}
use Rattle.sectors.specs.declared.class.Class.{Class}
use Rattle.encounters.specs.Engagement.{IsEngaged, IsState, seen_at}
use Rattle.encounters.specs.Risk.{HasRisk}
use Rattle.encounters.specs.declared.detect.Detect.{Detect}
use Rattle.encounters.specs.declared.engagement_state.EngagementState.{EngagementState}
use Rattle.encounters.specs.declared.engagement_state.EngagementState.TheVariants as state
use Rattle.encounters.specs.declared.pair_step.PairStep.{PairStep}
use Rattle.encounters.proofs.ForCallers.{engaged_behind, engaged_from}
use Rattle.meetings.specs.SinceBeginning.{kind_of}
use Rattle.meetings.specs.Traces.{IsContactAt, step_at, steps_from}
use Rattle.meetings.specs.declared.pair.Pair.{Pair}
use Rattle.meetings.proofs.ForCallers.{riskless_before, steps_from-length, steps_from-seen, window_split}
use Rattle.audit_rows.specs.Order.{first_step_of, last_step_of}
use Rattle.audit_rows.specs.Rows.{TellsStretch}
use Rattle.audit_rows.specs.Stretches.{MarksEngagement, distance_of, mark_at, marked_kind}
use Rattle.audit_rows.specs.declared.mark.Mark.{Mark}
use Rattle.audit_rows.specs.declared.mark.Mark.TheVariants.{Nothing, Broken, Undecided, Engaged}
use Rattle.audit_rows.specs.declared.row.Row.{Row}
use Rattle.audit_rows.specs.declared.row.Row.TheVariants as row
use Rattle.audit_rows.specs.declared.topic.Topic.{Topic}
use Rattle.audit_rows.specs.declared.topic.Topic.TheVariants.{Meeting, Verdict as OfVerdict}
use Rattle.auditor.specs.AuditRows.{IsAuditRow}
use Rattle.auditor.specs.AuditTracks.{AreMarksOf, AreMeetingMarks, IsLeastSeparation, IsMeetingMark}
use Rattle.traces.specs.Audited.{Begins, AuditNumbers, Sighting, seen_state_at, trace_steps}
use Rattle.settling.proofs.ForCallers.{go_on, some_mark}
use Rattle.laws.specs.Reported.{pair_of}
use Rattle.laws.specs.Windows.{AreEngagedAt, BeginsAnew, IsMeeting, IsSeenAlike, moved, over, window_steps}
use Rattle.laws.proofs.Contacts.{FirstContact, contact_same, first_contact, risk_in_contact, step_same}
use Rattle.laws.proofs.Engagements.{AgreeFrom, IsNew, agree_back, agree_for, began_since, engaged_moved, engaged_part, state_moved}

-- ---- a meeting's row, by its track

pub record MeetingTrack (numbers : AuditNumbers) (ticks : List Sighting) (pair : Pair) (kind : Class) (first last least : ℕ) : Type 0 where
  pub start : ℕ
  pub marks : List Mark
  pub are : AreMeetingMarks numbers ticks pair start marks
  pub from : ℕ
  pub to : ℕ
  pub tells : TellsStretch (record { topic = Meeting pair; first = start; marks = marks }) (row.Meeting pair kind first last least) from to

track_of : (numbers : AuditNumbers) (ticks : List Sighting) (pair : Pair) (kind : Class) (first last least : ℕ) (topic : Topic) (start : ℕ) (marks : List Mark) (from to : ℕ)
    → AreMarksOf numbers ticks topic start marks → TellsStretch (record { topic = topic; first = start; marks = marks }) (row.Meeting pair kind first last least) from to
    → MeetingTrack numbers ticks pair kind first last least
track_of numbers ticks pair kind first last least (Meeting other) start marks from to are tells =
    let same : pair ≡ other = (let e = tells.topic in cc) in
    record {
      start = start;
      marks = marks;
      are = subst (λ (p : Pair). AreMeetingMarks numbers ticks p start marks) (sym same) are;
      from = from;
      to = to;
      tells = subst (λ (p : Pair). TellsStretch (record { topic = Meeting p; first = start; marks = marks }) (row.Meeting pair kind first last least) from to) (sym same) tells;
    }
track_of numbers ticks pair kind first last least (OfVerdict other rule) start marks from to are tells = let e = tells.topic in absurd (cc)

pub meeting_track : (numbers : AuditNumbers) (ticks : List Sighting) (pair : Pair) (kind : Class) (first last least : ℕ) → IsAuditRow numbers ticks (row.Meeting pair kind first last least)
    → MeetingTrack numbers ticks pair kind first last least
meeting_track numbers ticks pair kind first last least (track, (is, (from, to, tells))) =
    track_of numbers ticks pair kind first last least track.topic track.first track.marks from to is tells

-- ---- marks of engagements

not_engaged : (detect : Detect) (steps : List (Option PairStep)) (i : ℕ) (mark : Mark) → IsMeetingMark detect steps i mark → (MarksEngagement mark → ⊥) → ¬ IsEngaged detect steps i
not_engaged detect steps i Nothing is not = is
not_engaged detect steps i Broken is not = absurd is
not_engaged detect steps i Undecided is not = absurd is
not_engaged detect steps i (Engaged kind least) is not = absurd (not tt)

kind_engaged : (detect : Detect) (steps : List (Option PairStep)) (i : ℕ) (mark : Mark) → IsMeetingMark detect steps i mark → MarksEngagement mark → IsEngaged detect steps i
kind_engaged detect steps i Nothing is marks = absurd marks
kind_engaged detect steps i Broken is marks = absurd marks
kind_engaged detect steps i Undecided is marks = absurd marks
kind_engaged detect steps i (Engaged kind least) ((now, (is, of)), measures) marks = by_state now is of
  where
    by_state : (now : EngagementState) → IsState detect steps i now → kind_of now ≡ Some kind → IsEngaged detect steps i
    by_state state.Apart is of = absurd (cc)
    by_state (state.Engaged k age a b) is of = is.begins.engaged i is.begins.until (omega arith)

mark_moved : (detect : Detect) (xs ys : List (Option PairStep)) (p q m : ℕ) (mark : Mark) → AgreeFrom xs ys p q m → IsNew detect xs p → IsNew detect ys q
    → IsMeetingMark detect xs (p + m) mark → IsMeetingMark detect ys (q + m) mark
mark_moved detect xs ys p q m Nothing same new fresh h = λ engaged. h (engaged_moved detect ys xs q p m (agree_back xs ys p q m same) fresh engaged)
mark_moved detect xs ys p q m Broken same new fresh h = absurd h
mark_moved detect xs ys p q m Undecided same new fresh h = absurd h
mark_moved detect xs ys p q m (Engaged kind least) same new fresh ((now, (is, of)), measures) = (
  (now, (state_moved detect xs ys p q m now same new fresh is, of)),
  subst (λ (o : Option PairStep). IsSomeAnd o (λ pair. IsLeastSeparation least pair.step)) (same.each m (omega arith)) measures,
)

-- ---- the steps of a trace, and those of its window

module _ (numbers : AuditNumbers) (ticks : List Sighting) (pair : Pair) (start : ℕ) (begins : Begins (over ticks numbers) ticks pair start) where
  before_it : List (Option PairStep)
  before_it = steps_from (seen_state_at ticks pair.subject) (seen_state_at ticks pair.other) 0 start

  split : window_steps ticks pair ≡ before_it ++ trace_steps (over ticks numbers) ticks pair start
  unfolding before_it
  split = window_split numbers.detect (seen_state_at ticks pair.subject) (seen_state_at ticks pair.other) (length ticks - 1) start begins.begins

  before_length : length before_it ≡ start
  unfolding before_it
  before_length = steps_from-length (seen_state_at ticks pair.subject) (seen_state_at ticks pair.other) 0 start

  pub window_engaged : (i : ℕ) → IsEngaged numbers.detect (trace_steps (over ticks numbers) ticks pair start) i → AreEngagedAt numbers ticks pair (start + i)
  window_engaged i h =
      let here = engaged_behind numbers.detect before_it (trace_steps (over ticks numbers) ticks pair start) i h in
      subst (λ (steps : List (Option PairStep)). IsEngaged numbers.detect steps (start + i)) (sym split)
      (subst (λ (n : ℕ). IsEngaged numbers.detect (before_it ++ trace_steps (over ticks numbers) ticks pair start) (n + i)) before_length here)

  no_risk_before : (k : ℕ) → k < length before_it → IfSome (seen_at before_it k) (λ seen. ¬ HasRisk numbers.detect seen.step)
  unfolding before_it
  no_risk_before = riskless_before numbers.detect (seen_state_at ticks pair.subject) (seen_state_at ticks pair.other) (length ticks - 1) start begins.begins

  pub trace_engaged : (i : ℕ) → AreEngagedAt numbers ticks pair (start + i) → IsEngaged numbers.detect (trace_steps (over ticks numbers) ticks pair start) i
  trace_engaged i h =
      engaged_from numbers.detect before_it (trace_steps (over ticks numbers) ticks pair start) no_risk_before i
      (subst (λ (n : ℕ). IsEngaged numbers.detect (before_it ++ trace_steps (over ticks numbers) ticks pair start) (n + i)) (sym before_length)
      (subst (λ (steps : List (Option PairStep)). IsEngaged numbers.detect steps (start + i)) split h))

early : (m n : ℕ) → (m < n) ⊎ (n ≤ m)
early m n = grind arith

pub step_seen : (ticks : List Sighting) (pair : Pair) (start count k : ℕ) → k < count
    → seen_at (steps_from (seen_state_at ticks pair.subject) (seen_state_at ticks pair.other) start count) k
    ≡ step_at (seen_state_at ticks pair.subject) (seen_state_at ticks pair.other) (start + k)
step_seen ticks pair start count k lt = steps_from-seen (seen_state_at ticks pair.subject) (seen_state_at ticks pair.other) start count k lt

-- a step with risk begins in contact
risk_near : (detect : Detect) (ticks : List Sighting) (pair : Pair) (start count k : ℕ) → k < count
    → IsSomeAnd (seen_at (steps_from (seen_state_at ticks pair.subject) (seen_state_at ticks pair.other) start count) k) (λ seen. HasRisk detect seen.step)
    → IsContactAt (seen_state_at ticks pair.subject) (seen_state_at ticks pair.other) detect.watch (start + k)
risk_near detect ticks pair start count k lt risk =
    risk_in_contact detect (seen_state_at ticks pair.subject (start + k)) (seen_state_at ticks pair.other (start + k))
    (seen_state_at ticks pair.subject (start + k + 1)) (seen_state_at ticks pair.other (start + k + 1))
    (subst (λ (o : Option PairStep). IsSomeAnd o (λ seen. HasRisk detect seen.step)) (step_seen ticks pair start count k lt) risk)

-- ---- where a meeting's row begins, none is under way

module _ (numbers : AuditNumbers) (ticks : List Sighting) (pair : Pair) (kind : Class) (first last least : ℕ)
    (t : MeetingTrack (over ticks numbers) ticks pair kind first last least) where
  steps_count : length t.marks ≡ length ticks - 1 - t.start
  steps_count = t.are.count ∙ steps_from-length (seen_state_at ticks pair.subject) (seen_state_at ticks pair.other) t.start (length ticks - 1 - t.start)

  pub track_new : IsNew numbers.detect (trace_steps (over ticks numbers) ticks pair t.start) t.from
  track_new = record {
    quiet = λ some.
        let ordered = t.tells.stretch.ordered in
        let within = t.tells.stretch.within in
        not_engaged numbers.detect (trace_steps (over ticks numbers) ticks pair t.start) (t.from - 1) (mark_at t.marks (t.from - 1))
        (t.are.each (t.from - 1) (omega arith)) (t.tells.stretch.before some);
  }

  pub track_anew : BeginsAnew numbers ticks pair first
  track_anew some engaged =
      let is_first : first ≡ t.start + t.from = t.tells.first in
      let ordered = t.tells.stretch.ordered in
      let within = t.tells.stretch.within in
      let count = steps_count in
      let same : 0 + engaged.start ≡ engaged.start = omega arith in
      let until = engaged.until in
      let near : IsContactAt (seen_state_at ticks pair.subject) (seen_state_at ticks pair.other) numbers.detect.watch engaged.start =
      subst (IsContactAt (seen_state_at ticks pair.subject) (seen_state_at ticks pair.other) numbers.detect.watch) same
      (risk_near numbers.detect ticks pair 0 (length ticks - 1) engaged.start (omega arith) engaged.risk) in
      elim (early engaged.start t.start) [
        | inl before ↦ t.are.begins.begins.least engaged.start before near
        | inr since ↦ (let there : t.start + (t.from - 1) ≡ first - 1 = omega arith in
            track_new.quiet (omega arith)
            (trace_engaged numbers ticks pair t.start t.are.begins (t.from - 1) (subst (AreEngagedAt numbers ticks pair) (sym there) engaged)))
      ]

-- ---- the row across two windows

module _ (numbers : AuditNumbers) (pair : Pair) (kind : Class) (least : ℕ) (xs ys : List Sighting) (x y len : ℕ)
    (agree : (t : ℕ) → t ≤ len + 2 → y + t < length ys
    → (seen_state_at xs pair.subject (x + t) ≡ seen_state_at ys pair.subject (y + t)) × (seen_state_at xs pair.other (x + t) ≡ seen_state_at ys pair.other (y + t)))
    (fresh : BeginsAnew numbers ys pair y) where
  steps_x : ℕ → List (Option PairStep)
  steps_x start = trace_steps (over xs numbers) xs pair start

  steps_y : ℕ → List (Option PairStep)
  steps_y start = trace_steps (over ys numbers) ys pair start

  alike : (sx p sy q m : ℕ) → sx + p ≡ x → sy + q ≡ y → m ≤ len + 1 → x + m + 1 < length xs → y + m + 1 < length ys → AgreeFrom (steps_x sx) (steps_y sy) p q m
  unfolding steps_x steps_y
  alike sx p sy q m at_x at_y few in_x in_y = record {
    each = λ j le.
        let x0 : sx + (p + j) ≡ x + j = omega arith in
        let x1 : sx + (p + j) + 1 ≡ x + (j + 1) = omega arith in
        let y0 : y + j ≡ sy + (q + j) = omega arith in
        let y1 : y + (j + 1) ≡ sy + (q + j) + 1 = omega arith in
        let here = agree j (omega arith) (omega arith) in
        let next = agree (j + 1) (omega arith) (omega arith) in
        step_seen xs pair sx (length xs - 1 - sx) (p + j) (omega arith)
        ∙ (step_same
        (ap (seen_state_at xs pair.subject) x0 ∙ (here.0 ∙ ap (seen_state_at ys pair.subject) y0))
        (ap (seen_state_at xs pair.other) x0 ∙ (here.1 ∙ ap (seen_state_at ys pair.other) y0))
        (ap (seen_state_at xs pair.subject) x1 ∙ (next.0 ∙ ap (seen_state_at ys pair.subject) y1))
        (ap (seen_state_at xs pair.other) x1 ∙ (next.1 ∙ ap (seen_state_at ys pair.other) y1))
        ∙ sym (step_seen ys pair sy (length ys - 1 - sy) (q + j) (omega arith)));
  }

  module _ (last_x last_y : ℕ) (end_x : last_x ≡ x + len) (end_y : last_y ≡ y + len) (t : MeetingTrack (over xs numbers) xs pair kind x last_x least)
      (m : ℕ) (some : len ≤ m) (few : m ≤ len + 1) (in_x : x + m + 1 < length xs) (in_y : y + m + 1 < length ys)
      (further : y + len + 2 < length ys → m ≡ len + 1) where
    from_is : t.start + t.from ≡ x
    from_is = sym t.tells.first

    to_is : t.to ≡ t.from + len
    to_is = let first = t.tells.first in let last = t.tells.last in omega arith

    here : IsEngaged numbers.detect (steps_x t.start) t.from
    unfolding steps_x
    here =
        let ordered = t.tells.stretch.ordered in
        let within = t.tells.stretch.within in
        kind_engaged numbers.detect (steps_x t.start) t.from (mark_at t.marks t.from) (t.are.each t.from (omega arith)) (t.tells.stretch.each t.from (omega arith) ordered)

    near : IsContactAt (seen_state_at ys pair.subject) (seen_state_at ys pair.other) numbers.detect.watch y
    unfolding steps_x
    near =
        let engaged = here in
        let since : t.from ≤ engaged.start = began_since numbers.detect (steps_x t.start) t.from t.from (track_new numbers xs pair kind x last_x least t) (omega arith) engaged in
        let until = engaged.until in
        let at : engaged.start ≡ t.from = omega arith in
        let is = from_is in
        let same_x : t.start + t.from ≡ x + 0 = omega arith in
        let same_y : y + 0 ≡ y = omega arith in
        let alike_there = agree 0 (omega arith) (omega arith) in
        subst (IsContactAt (seen_state_at ys pair.subject) (seen_state_at ys pair.other) numbers.detect.watch) same_y
        (contact_same numbers.detect.watch
        (ap (seen_state_at xs pair.subject) same_x ∙ alike_there.0)
        (ap (seen_state_at xs pair.other) same_x ∙ alike_there.1)
        (risk_near numbers.detect xs pair t.start (length xs - 1 - t.start) t.from (omega arith)
        (subst (λ (k : ℕ). IsSomeAnd (seen_at (steps_x t.start) k) (λ seen. HasRisk numbers.detect seen.step)) at engaged.risk)))

    begun : FirstContact (seen_state_at ys pair.subject) (seen_state_at ys pair.other) numbers.detect.watch y
    begun = first_contact (seen_state_at ys pair.subject) (seen_state_at ys pair.other) numbers.detect.watch y near

    module _ (begin : FirstContact (seen_state_at ys pair.subject) (seen_state_at ys pair.other) numbers.detect.watch y) where
      begins_y : Begins (over ys numbers) ys pair begin.start
      begins_y =
          let by = begin.by in
          record {
            audited = t.are.begins.audited;
            begins = record { before_end = omega arith; contact = begin.contact; least = begin.least };
          }

      q : ℕ
      q = y - begin.start

      q_is : begin.start + q ≡ y
      unfolding q
      q_is = let by = begin.by in omega arith

      new_y : IsNew numbers.detect (steps_y begin.start) q
      unfolding steps_y
      new_y = record {
        quiet = λ lt engaged.
            let is = q_is in
            let there : begin.start + (q - 1) ≡ y - 1 = omega arith in
            fresh (omega arith) (subst (AreEngagedAt numbers ys pair) there (window_engaged numbers ys pair begin.start begins_y (q - 1) engaged));
      }

      same_steps : AgreeFrom (steps_x t.start) (steps_y begin.start) t.from q m
      same_steps = alike t.start t.from begin.start q m from_is q_is few in_x in_y

      -- the mark at a step of the other window: within the meeting, and just after it, the same as in the first
      abbrev Stands : ℕ → Mark → Type 0
      Stands i mark = IsMeetingMark numbers.detect (steps_y begin.start) i mark × ((j : ℕ) → j ≤ m → i ≡ q + j → mark ≡ mark_at t.marks (t.from + j))

      between : (i p n : ℕ) → ((p ≤ i) × (i ≤ p + n)) ⊎ ((i < p) ⊎ (p + n < i))
      between i p n = grind arith

      standing : (i : ℕ) → (mark : Mark) × Stands i mark
      unfolding steps_x
      standing i =
          elim (between i q m) [
            | inl inside ↦ (let j : ℕ = i - q in
                let from = inside.0 in
                let to = inside.1 in
                let is = from_is in
                let count = steps_count numbers xs pair kind x last_x least t in
                let there : q + (i - q) ≡ i = omega arith in
                let moved_mark : IsMeetingMark numbers.detect (steps_y begin.start) (q + (i - q)) (mark_at t.marks (t.from + (i - q))) =
                mark_moved numbers.detect (steps_x t.start) (steps_y begin.start) t.from q (i - q) (mark_at t.marks (t.from + (i - q)))
                (agree_for (steps_x t.start) (steps_y begin.start) t.from q m (i - q) (omega arith) same_steps)
                (track_new numbers xs pair kind x last_x least t) new_y (t.are.each (t.from + (i - q)) (omega arith)) in (
                  mark_at t.marks (t.from + (i - q)),
                  (
                    subst (λ (k : ℕ). IsMeetingMark numbers.detect (steps_y begin.start) k (mark_at t.marks (t.from + (i - q)))) there moved_mark,
                    λ j le e. let same : i - q ≡ j = omega arith in ap (λ (k : ℕ). mark_at t.marks (t.from + k)) same,
                  ),
                ))
            | inr outside ↦ (let mark = some_mark numbers.detect (steps_y begin.start) i in
                (mark.0, (mark.1, λ j le e. elim outside [ inl before ↦ absurd (omega arith) | inr behind ↦ absurd (omega arith) ])))
          ]

      y_count : length (steps_y begin.start) ≡ length ys - 1 - begin.start
      unfolding steps_y
      y_count = steps_from-length (seen_state_at ys pair.subject) (seen_state_at ys pair.other) begin.start (length ys - 1 - begin.start)

      module _ (marks : List Mark) (count : length marks ≡ length (steps_y begin.start)) (each : (i : ℕ) → i < length marks → Stands i (mark_at marks i)) where
        are_y : AreMeetingMarks (over ys numbers) ys pair begin.start marks
        unfolding steps_y
        are_y = record { begins = begins_y; count = count; each = λ i lt. (each i lt).0 }

        same_mark : (k : ℕ) → q ≤ k → k ≤ q + m → mark_at marks k ≡ mark_at t.marks (t.from + (k - q))
        same_mark k from to =
            let long = y_count in
            let is = q_is in
            (each k (omega arith)).1 (k - q) (omega arith) (omega arith)

        first_is : y ≡ begin.start + q
        first_is = sym q_is

        last_is : last_y ≡ begin.start + (q + len)
        last_is = let is = q_is in omega arith

        long_enough : q + len < length marks
        long_enough = let long = y_count in let is = q_is in omega arith

        tells_y : TellsStretch (record { topic = Meeting pair; first = begin.start; marks = marks }) (row.Meeting pair kind y last_y least) q (q + len)
        tells_y =
            let ordered = t.tells.stretch.ordered in
            let within = t.tells.stretch.within in
            let end = to_is in
            record {
              topic = refl;
              first = first_is;
              last = last_is;
              stretch = record {
                ordered = omega arith;
                within = long_enough;
                each = λ k from to. subst MarksEngagement (sym (same_mark k from (omega arith))) (t.tells.stretch.each (t.from + (k - q)) (omega arith) (omega arith));
                before = λ lt marks_it.
                    let long = long_enough in
                    new_y.quiet lt (kind_engaged numbers.detect (steps_y begin.start) (q - 1) (mark_at marks (q - 1)) (each (q - 1) (omega arith)).0 marks_it);
                after = λ lt marks_it.
                    let long = y_count in
                    let is = q_is in
                    let all : m ≡ len + 1 = further (omega arith) in
                    let there : t.from + ((q + len + 1) - q) ≡ t.to + 1 = omega arith in
                    let x_count = steps_count numbers xs pair kind x last_x least t in
                    let x_is = from_is in
                    t.tells.stretch.after (omega arith)
                    (subst (λ (k : ℕ). MarksEngagement (mark_at t.marks k)) there
                    (subst MarksEngagement (same_mark (q + len + 1) (omega arith) (omega arith)) marks_it));
              };
              measures =
                  let there : t.from + (q - q) ≡ t.from = omega arith in
                  let reached = t.tells.measures.reached in
                  let after = reached.1 in
                  let before = reached.2 in
                  let back : t.from + ((q + (reached.0 - t.from)) - q) ≡ reached.0 = omega arith in
                  record {
                    of_first = ap marked_kind (same_mark q (omega arith) (omega arith)) ∙ (ap (λ (k : ℕ). marked_kind (mark_at t.marks k)) there ∙ t.tells.measures.of_first);
                    at_least = λ k from to. subst (λ (mark : Mark). IfSome (distance_of mark) (λ distance. least ≤ distance)) (sym (same_mark k from (omega arith)))
                        (t.tells.measures.at_least (t.from + (k - q)) (omega arith) (omega arith));
                    reached = (
                      q + (reached.0 - t.from),
                      omega arith,
                      omega arith,
                      ap distance_of (same_mark (q + (reached.0 - t.from)) (omega arith) (omega arith)) ∙ (ap (λ (k : ℕ). distance_of (mark_at t.marks k)) back ∙ reached.3),
                    );
                  };
            }

      pub row_y : IsAuditRow (over ys numbers) ys (row.Meeting pair kind y last_y least)
      row_y =
          let more = go_on Stands standing [] (length (steps_y begin.start)) (omega arith) (λ i lt. absurd (omega arith)) in (
            record { topic = Meeting pair; first = begin.start; marks = [] ++ more.rest },
            (are_y ([] ++ more.rest) more.count more.each, (q, (q + len), tells_y ([] ++ more.rest) more.count more.each)),
          )

    pub row_there : IsAuditRow (over ys numbers) ys (row.Meeting pair kind y last_y least)
    row_there = row_y begun

-- ---- the law

module _ (numbers : AuditNumbers) (behind : ℕ) (earlier later : List Sighting) (pair : Pair)
    (subject : IsSeenAlike behind earlier later pair.subject) (other : IsSeenAlike behind earlier later pair.other) (first last : ℕ) (in_later : last + 2 < length later)
    (in_earlier : behind + last + 2 < length earlier) where
  window_alike : (k m : ℕ) → k + m + 1 < length later → behind + k + m + 1 < length earlier → AgreeFrom (window_steps later pair) (window_steps earlier pair) k (behind + k) m
  window_alike k m in_l in_e = record {
    each = λ j le.
        let l0 : 0 + (k + j) ≡ k + j = omega arith in
        let l1 : 0 + (k + j) + 1 ≡ k + j + 1 = omega arith in
        let e0 : behind + (k + j) ≡ 0 + (behind + k + j) = omega arith in
        let e1 : behind + (k + j + 1) ≡ 0 + (behind + k + j) + 1 = omega arith in
        step_seen later pair 0 (length later - 1) (k + j) (omega arith)
        ∙ (step_same
        (ap (seen_state_at later pair.subject) l0 ∙ (sym (subject (k + j) (omega arith) (omega arith)) ∙ ap (seen_state_at earlier pair.subject) e0))
        (ap (seen_state_at later pair.other) l0 ∙ (sym (other (k + j) (omega arith) (omega arith)) ∙ ap (seen_state_at earlier pair.other) e0))
        (ap (seen_state_at later pair.subject) l1 ∙ (sym (subject (k + j + 1) (omega arith) (omega arith)) ∙ ap (seen_state_at earlier pair.subject) e1))
        (ap (seen_state_at later pair.other) l1 ∙ (sym (other (k + j + 1) (omega arith) (omega arith)) ∙ ap (seen_state_at earlier pair.other) e1))
        ∙ sym (step_seen earlier pair 0 (length earlier - 1) (behind + k + j) (omega arith)));
  }

  pub anew_later : first ≤ last → BeginsAnew numbers earlier pair (behind + first) → BeginsAnew numbers later pair first
  anew_later ordered anew some engaged =
      let until = engaged.until in
      let m : ℕ = first - 1 - engaged.start in
      let end : engaged.start + m ≡ first - 1 = omega arith in
      let there : behind + engaged.start + m ≡ behind + first - 1 = omega arith in
      let from : engaged.start ≤ engaged.start = omega arith in
      let shifted : IsEngaged numbers.detect (window_steps later pair) (engaged.start + m) = record {
        start = engaged.start;
        until = omega arith;
        risk = engaged.risk;
        seen = λ k lower upper. engaged.seen k lower (omega arith);
        not_clear = λ k lower upper. engaged.not_clear k lower (omega arith);
      } in
      anew (omega arith) (subst (AreEngagedAt numbers earlier pair) there
      (engaged_part numbers.detect (window_steps later pair) (window_steps earlier pair) engaged.start (behind + engaged.start) m
      (window_alike engaged.start m (omega arith) (omega arith)) shifted from))

  pub meeting_later : (kind : Class) (least : ℕ) → IsAuditRow (over earlier numbers) earlier (row.Meeting pair kind (behind + first) (behind + last) least)
      → IsAuditRow (over later numbers) later (row.Meeting pair kind first last least) × BeginsAnew numbers earlier pair (behind + first)
  meeting_later kind least is =
      let t = meeting_track (over earlier numbers) earlier pair kind (behind + first) (behind + last) least is in
      let ordered = t.tells.stretch.ordered in
      let begins = t.tells.first in
      let ends = t.tells.last in
      let anew : BeginsAnew numbers earlier pair (behind + first) = track_anew numbers earlier pair kind (behind + first) (behind + last) least t in
      let fits : first ≤ last = omega arith in
      let len : ℕ = last - first in (
        row_there numbers pair kind least earlier later (behind + first) first len
            (λ k le within. let e : behind + first + k ≡ behind + (first + k) = omega arith in
            (ap (seen_state_at earlier pair.subject) e ∙ subject (first + k) within (omega arith), ap (seen_state_at earlier pair.other) e ∙ other (first + k) within (omega arith)))
            (anew_later fits anew) (behind + last) last (omega arith) (omega arith) t (len + 1) (omega arith) (omega arith) (omega arith) (omega arith) (λ lt. refl),
        anew,
      )

  pub meeting_earlier : (kind : Class) (least : ℕ) → IsAuditRow (over later numbers) later (row.Meeting pair kind first last least) → BeginsAnew numbers earlier pair (behind + first)
      → IsAuditRow (over earlier numbers) earlier (row.Meeting pair kind (behind + first) (behind + last) least)
  meeting_earlier kind least is anew =
      let t = meeting_track (over later numbers) later pair kind first last least is in
      let ordered = t.tells.stretch.ordered in
      let begins = t.tells.first in
      let ends = t.tells.last in
      let fits : first ≤ last = omega arith in
      let len : ℕ = last - first in
      row_there numbers pair kind least later earlier first (behind + first) len
      (λ k le within. let e : behind + (first + k) ≡ behind + first + k = omega arith in (
        sym (subject (first + k) (omega arith) (omega arith)) ∙ ap (seen_state_at earlier pair.subject) e,
        sym (other (first + k) (omega arith) (omega arith)) ∙ ap (seen_state_at earlier pair.other) e,
      ))
      anew last (behind + last) (omega arith) (omega arith) t (len + 1) (omega arith) (omega arith) (omega arith) (omega arith) (λ lt. refl)

-- Both windows report a meeting that begins after both have begun.
pub meetings_of_windows : (numbers : AuditNumbers) (behind : ℕ) (earlier later : List Sighting) (row : Row) → IsSeenAlike behind earlier later (pair_of row).subject
    → IsSeenAlike behind earlier later (pair_of row).other → IsMeeting row
    → last_step_of row + 2 < length later → behind + last_step_of row + 2 < length earlier
    → IsAuditRow (over earlier numbers) earlier (moved behind row)
    ↔ (IsAuditRow (over later numbers) later row × BeginsAnew numbers earlier (pair_of row) (behind + first_step_of row))
meetings_of_windows numbers behind earlier later (row.Meeting pair kind first last least) subject other is in_later in_earlier = (
  meeting_later numbers behind earlier later pair subject other first last in_later in_earlier kind least,
  λ both. meeting_earlier numbers behind earlier later pair subject other first last in_later in_earlier kind least both.0 both.1,
)
meetings_of_windows numbers behind earlier later (row.Verdict pair rule undecided first last) subject other is in_later in_earlier = absurd is
