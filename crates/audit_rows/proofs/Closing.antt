-- What one more mark does to the latest stretch and to the closed rows.
use Rattle.std.proofs.Common.{◌≡◌, ℕ, ◌+◌, ◌-◌, ◌^◌, ◌<◌, ◌≤◌, List, [], ◌∷◌, ◌++◌, length, sym, ap, subst, ◌∙◌, arith, length-append, ◌⊎◌, inl, inr, Some, None, min}
use Rattle.std.specs.Prelude.{Option, MatchOption}
use Rattle.std.specs.Option.{IfSome}
use Rattle.std.proofs.Math.Seq.{get_or-append_seam}
use Rattle.sectors.specs.declared.class.Class.{Class}
use Rattle.audit_rows.specs.declared.lane.Lane.{Lane}
use Rattle.audit_rows.specs.declared.mark.Mark.{Mark}
use Rattle.audit_rows.specs.declared.mark.Mark.TheVariants.{Nothing, Broken, Undecided, Engaged}
use Rattle.audit_rows.specs.declared.row.Row.{Row}
use Rattle.audit_rows.specs.declared.stretch.Opened.{Opened}
use Rattle.audit_rows.specs.declared.stretch.Stretch.{Stretch}
use Rattle.audit_rows.specs.Inner.Closed.{Closes, IsClosedOf}
use Rattle.audit_rows.specs.Inner.Lanes.{AreCountsBefore, EndsIn, IsLatest, IsWhole, Stands, ended, row_of, with_stretch}
use Rattle.audit_rows.specs.Inner.Sorts.{join, sort_of}
use Rattle.audit_rows.specs.Order.{last_step_of}
use Rattle.audit_rows.specs.Rows.{IsRowOf, TellsStretch, TellsOf}
use Rattle.audit_rows.specs.MarkCounts.{AreCounts}
use Rattle.audit_rows.specs.Stretches.{HasKindAndLeast, MarksEngagement, distance_of, marked_kind, mark_at}
use Rattle.audit_rows.specs.Tracks.{Track, longer, next_step}
use Rattle.audit_rows.proofs.MarkCounting.{EndsAs, counts_after, counts_first, counts_none, counts_same, counts_turned}
use Rattle.audit_rows.proofs.Sorts.{join_still, told_sort, to_sort, from_sort, sort_join, is_told, told_by, nothing_told, is_nothing}
use Rattle.audit_rows.proofs.Stretches.{closed_front, closed_further, mark_front, measures_alike, tells_front}

mark_last : (xs : List Mark) (m : Mark) → mark_at (xs ++ m ∷ []) (length xs) ≡ m
mark_last xs m = get_or-append_seam xs m [] Nothing

length_more : (xs : List Mark) (m : Mark) → length (xs ++ m ∷ []) ≡ length xs + 1
length_more xs m = omega (arith, length-append xs (m ∷ []))

which : (k n : ℕ) → k < n + 1 → (k < n) ⊎ (k ≡ n)
which k n lt = grind arith

compared : (a b : ℕ) → (a < b) ⊎ ((a ≡ b) ⊎ (b < a))
compared a b = grind arith

-- ---- the latest stretch

-- one more engaged step
module _ (xs : List Mark) (from : ℕ) (kind other : Class) (least distance : ℕ) (within : from < length xs) (h : HasKindAndLeast xs from (length xs - 1) kind least) where
  abbrev ys : List Mark
  ys = xs ++ Engaged other distance ∷ []

  abbrev least_of_both : ℕ
  least_of_both = min least distance

  engaged_least : (k : ℕ) → from ≤ k → k ≤ length ys - 1 → IfSome (distance_of (mark_at ys k)) (λ d. least_of_both ≤ d)
  engaged_least k low high =
      let n = length_more xs (Engaged other distance) in
      elim (which k (length xs) (omega arith)) [
        | inl lt ↦ subst (λ (m : Mark). IfSome (distance_of m) (λ d. least_of_both ≤ d)) (sym (mark_front xs (Engaged other distance ∷ []) k lt))
            (lesser (distance_of (mark_at xs k)) (h.at_least k low (omega arith)))
        | inr e ↦ subst (λ (m : Mark). IfSome (distance_of m) (λ d. least_of_both ≤ d)) (sym (ap (mark_at ys) e ∙ mark_last xs (Engaged other distance))) (grind arith)
      ]
    where
      lesser : (o : Option ℕ) → IfSome o (λ d. least ≤ d) → IfSome o (λ d. least_of_both ≤ d)
      lesser None g = tt
      lesser (Some d) g = grind arith

  engaged_reached : (min least distance ≡ least) ⊎ (min least distance ≡ distance)
      → (k : ℕ) × (from ≤ k) × (k ≤ length ys - 1) × (distance_of (mark_at ys k) ≡ Some least_of_both)
  engaged_reached (inl e) =
      let n = length_more xs (Engaged other distance) in
      let (k, low, high, is) = h.reached in
      (k, low, omega arith, ap distance_of (mark_front xs (Engaged other distance ∷ []) k (omega arith)) ∙ is ∙ ap (λ (d : ℕ). Some d) (sym e))
  engaged_reached (inr e) =
      let n = length_more xs (Engaged other distance) in
      (length xs, omega arith, omega arith, ap distance_of (mark_last xs (Engaged other distance)) ∙ ap (λ (d : ℕ). Some d) (sym e))

  pub engaged_more : HasKindAndLeast ys from (length ys - 1) kind (min least distance)
  engaged_more = record {
    of_first = ap marked_kind (mark_front xs (Engaged other distance ∷ []) from within) ∙ h.of_first;
    at_least = engaged_least;
    reached = engaged_reached (grind arith);
  }

whole_more : (xs : List Mark) (from : ℕ) (whole m : Mark) → from < length xs → IsWhole xs from whole → sort_of whole ≡ sort_of m → IsWhole (xs ++ m ∷ []) from (join whole m)
whole_more xs from Nothing m within h e = tt
whole_more xs from Broken m within h e = tt
whole_more xs from Undecided m within h e = tt
whole_more xs from (Engaged kind least) Nothing within h e = absurd (cc)
whole_more xs from (Engaged kind least) Broken within h e = absurd (cc)
whole_more xs from (Engaged kind least) Undecided within h e = absurd (cc)
whole_more xs from (Engaged kind least) (Engaged other distance) within h e = engaged_more xs from kind other least distance within h

whole_one : (xs : List Mark) (m : Mark) → IsWhole (xs ++ m ∷ []) (length xs) m
whole_one xs Nothing = tt
whole_one xs Broken = tt
whole_one xs Undecided = tt
whole_one xs (Engaged kind least) =
    let n = length_more xs (Engaged kind least) in
    let ys = xs ++ Engaged kind least ∷ [] in
    record {
      of_first = ap marked_kind (mark_last xs (Engaged kind least));
      at_least = λ k low high. let e : k ≡ length xs = omega arith in subst (λ (m : Mark). IfSome (distance_of m) (λ d. least ≤ d)) (sym (ap (mark_at ys) e ∙ mark_last xs (Engaged kind least))) (omega arith);
      reached = (length xs, omega arith, omega arith, ap distance_of (mark_last xs (Engaged kind least)));
    }

pub same_sort_ends : (xs : List Mark) (m : Mark) (from : ℕ) (whole : Mark) → EndsIn xs from whole → sort_of whole ≡ sort_of m → EndsIn (xs ++ m ∷ []) from (join whole m)
same_sort_ends xs m from whole h e =
    let within = h.within in
    let n = length_more xs m in
    record {
      within = omega arith;
      each = each;
      before = λ some s. h.before some (sym (ap sort_of (mark_front xs (m ∷ []) (from - 1) (omega arith))) ∙ s ∙ sort_join whole m);
      is_whole = whole_more xs from whole m h.within h.is_whole e;
    }
  where
    each : (k : ℕ) → from ≤ k → k < length (xs ++ m ∷ []) → sort_of (mark_at (xs ++ m ∷ []) k) ≡ sort_of (join whole m)
    each k low high =
        elim (which k (length xs) (let n = length_more xs m in omega arith)) [
          | inl lt ↦ ap sort_of (mark_front xs (m ∷ []) k lt) ∙ h.each k low lt ∙ sym (sort_join whole m)
          | inr last ↦ ap (λ (j : ℕ). sort_of (mark_at (xs ++ m ∷ []) j)) last ∙ ap sort_of (mark_last xs m) ∙ sym e ∙ sym (sort_join whole m)
        ]

pub other_sort_ends : (xs : List Mark) (m : Mark) → ((n : ℕ) → n + 1 ≡ length xs → sort_of (mark_at xs n) ≡ sort_of m → ⊥) → EndsIn (xs ++ m ∷ []) (length xs) m
other_sort_ends xs m other =
    let n = length_more xs m in
    record {
      within = omega arith;
      each = λ k low high. let last : k ≡ length xs = omega arith in ap (λ (j : ℕ). sort_of (mark_at (xs ++ m ∷ []) j)) last ∙ ap sort_of (mark_last xs m);
      before = λ some e. other (length xs - 1) (omega arith) (sym (ap sort_of (mark_front xs (m ∷ []) (length xs - 1) (omega arith))) ∙ e);
      is_whole = whole_one xs m;
    }

-- ---- the row of the latest stretch

-- a row whose stretch reaches the end is the one of the latest stretch
module _ (track : Track) (row : Row) (from to begin : ℕ) (whole : Mark) (h : EndsIn track.marks begin whole) (t : TellsStretch track row from to) (end : to + 1 ≡ length track.marks) where
  sort_there : (k : ℕ) → from ≤ k → k ≤ to → sort_of (mark_at track.marks k) ≡ told_sort row
  sort_there k low high = to_sort row (mark_at track.marks k) (t.stretch.each k low high)

  pub same_sort : told_sort row ≡ sort_of whole
  same_sort = let a = h.within in sym (sort_there to t.stretch.ordered (omega arith)) ∙ h.each to (omega arith) (omega arith)

  begins_by : begin ≤ to → (from < begin) ⊎ ((from ≡ begin) ⊎ (begin < from)) → from ≡ begin
  begins_by le (inl lt) = absurd (h.before (omega arith) (sort_there (begin - 1) (omega arith) (omega arith) ∙ same_sort))
  begins_by le (inr (inl same)) = same
  begins_by le (inr (inr lt)) =
      let o = t.stretch.ordered in
      absurd (t.stretch.before (omega arith) (from_sort row (mark_at track.marks (from - 1)) (h.each (from - 1) (omega arith) (omega arith) ∙ sym same_sort)))

  pub same_begin : from ≡ begin
  same_begin = let a = h.within in begins_by (omega arith) (compared from begin)

sort_at_end : (track : Track) (stretch : Stretch) (row : Row) → IsLatest track stretch → IsRowOf track row → last_step_of row + 1 ≡ next_step track → told_sort row ≡ sort_of stretch.mark
sort_at_end track stretch row h (from, to, t) e = let last = t.last in same_sort track row from to h.from stretch.mark h.ends t (omega arith)

same_row : (track : Track) (stretch : Stretch) (row : Row) → IsLatest track stretch → IsRowOf track row → last_step_of row + 1 ≡ next_step track → row_of track.topic stretch ≡ Some row
same_row track stretch row h (from, to, t) e =
    let last = t.last in
    let first = t.first in
    let latest_first = h.first in
    let latest_last = h.last in
    let end : to + 1 ≡ length track.marks = omega arith in
    let begin = same_begin track row from to h.from stretch.mark h.ends t end in
    told_by track.marks from to stretch.first stretch.last track.topic row stretch.mark t.topic (omega arith) (omega arith) (same_sort track row from to h.from stretch.mark h.ends t end) t.measures
    (subst (λ (n : ℕ). IsWhole track.marks n stretch.mark) (sym begin) h.ends.is_whole) (omega arith)

told_at_end : (track : Track) (stretch : Stretch) (row : Row) → IsLatest track stretch → row_of track.topic stretch ≡ Some row → IsRowOf track row × (last_step_of row + 1 ≡ next_step track)
told_at_end track stretch row h is =
    let told = is_told track.topic stretch.mark stretch.first stretch.last row is in
    let within = h.ends.within in
    let latest_first = h.first in
    let latest_last = h.last in
    let begins = told.begins in
    let ends = told.ends in
    let to : ℕ = length track.marks - 1 in (
      (
        h.from,
        to,
        record {
          topic = told.topic;
          first = omega arith;
          last = omega arith;
          stretch = record {
            ordered = omega arith;
            within = omega arith;
            each = λ k low high. from_sort row (mark_at track.marks k) (h.ends.each k low (omega arith) ∙ sym told.sort);
            before = λ some p. h.ends.before some (to_sort row (mark_at track.marks (h.from - 1)) p ∙ told.sort);
            after = λ lt. absurd (omega arith);
          };
          measures = told.measures track.marks h.from h.ends.is_whole;
        },
      ),
      omega arith,
    )

-- ---- what the next mark closes

-- A row that the next mark closes was closed, or reaches the end and does not report the mark.
pub newly_closed : (track : Track) (mark : Mark) (row : Row) → IsClosedOf (longer track mark) row
    → IsClosedOf track row ⊎ (IsRowOf track row × (last_step_of row + 1 ≡ next_step track) × (TellsOf row mark → ⊥))
newly_closed track mark row ((from, to, t), lt) =
    let n = length_more track.marks mark in
    let last = t.last in
    elim (which (to + 1) (length track.marks) (omega arith)) [
      | inl early ↦ inl (closed_front track (mark ∷ []) row (from, to, t) (omega arith))
      | inr end ↦ inr (
        (from, to, tells_front track (mark ∷ []) row from to (omega arith) t),
        omega arith,
        λ tells. t.stretch.after (omega arith) (subst (TellsOf row) (sym (ap (mark_at (track.marks ++ mark ∷ [])) end ∙ mark_last track.marks mark)) tells),
      )
    ]

-- A row that reaches the end is closed by a mark that it does not report.
pub now_closed : (track : Track) (mark : Mark) (row : Row) → IsRowOf track row → last_step_of row + 1 ≡ next_step track → (TellsOf row mark → ⊥)
    → IsClosedOf (longer track mark) row
now_closed track mark row (from, to, t) e other =
    let n = length_more track.marks mark in
    let last = t.last in
    let end : to + 1 ≡ length track.marks = omega arith in
    let ordered = t.stretch.ordered in (
      (
        from,
        to,
        record {
          topic = t.topic;
          first = t.first;
          last = t.last;
          stretch = record {
            ordered = ordered;
            within = omega arith;
            each = λ k low high. subst (TellsOf row) (sym (mark_front track.marks (mark ∷ []) k (omega arith))) (t.stretch.each k low high);
            before = λ some p. t.stretch.before some (subst (TellsOf row) (mark_front track.marks (mark ∷ []) (from - 1) (omega arith)) p);
            after = λ _ p. other (subst (TellsOf row) (ap (mark_at (track.marks ++ mark ∷ [])) end ∙ mark_last track.marks mark) p);
          };
          measures = measures_alike track.marks (track.marks ++ mark ∷ []) from to ordered (λ k le. sym (mark_front track.marks (mark ∷ []) k (omega arith))) row t.measures;
        },
      ),
      omega arith,
    )

pub stays : (track : Track) (mark : Mark) → ((row : Row) → IsRowOf track row → last_step_of row + 1 ≡ next_step track → (TellsOf row mark → ⊥) → ⊥)
    → Closes track mark None
stays track mark none = record {
  rows = λ row. (
    λ h. elim (newly_closed track mark row h) [
      | inl was ↦ inl was
      | inr (r, last, other) ↦ absurd (none row r last other)
    ],
    λ h. elim h [
      | inl was ↦ closed_further track (mark ∷ []) row was
      | inr some ↦ absurd (cc)
    ],
  );
  ended = λ row some. absurd (cc);
}

-- a mark of the same sort closes nothing
pub same_sort_closes : (track : Track) (mark : Mark) (stretch : Stretch) → IsLatest track stretch → sort_of stretch.mark ≡ sort_of mark → Closes track mark None
same_sort_closes track mark stretch h e = stays track mark (λ row r last other. other (from_sort row mark (sym e ∙ sym (sort_at_end track stretch row h r last))))

-- nor does the first mark
pub first_closes : (track : Track) (mark : Mark) → track.marks ≡ [] → Closes track mark None
first_closes track mark e = stays track mark (λ row (from, to, t) last other. let w = t.stretch.within in let l = ap length e in omega arith)

-- a mark of another sort closes the row of the latest stretch, if rows report it
pub other_sort_closes : (track : Track) (mark : Mark) (stretch : Stretch) → IsLatest track stretch → (sort_of stretch.mark ≡ sort_of mark → ⊥) → Closes track mark (row_of track.topic stretch)
other_sort_closes track mark stretch h other = record {
  rows = λ row. (
    λ c. elim (newly_closed track mark row c) [
      | inl was ↦ inl was
      | inr (r, last, _) ↦ inr (same_row track stretch row h r last)
    ],
    λ c. elim c [
      | inl was ↦ closed_further track (mark ∷ []) row was
      | inr is ↦ (let (r, last) = told_at_end track stretch row h is in
          now_closed track mark row r last (λ tells. other (sym (sort_at_end track stretch row h r last) ∙ sym (to_sort row mark tells))))
    ],
  );
  ended = λ row is. told_at_end track stretch row h is;
}

-- the end of the track does so too
pub end_closes : (track : Track) (stretch : Stretch) → IsLatest track stretch → Closes track Nothing (row_of track.topic stretch)
end_closes track stretch h =
    elim (is_nothing stretch.mark) [
      | inl e ↦ (let none : row_of track.topic stretch ≡ None = ap (λ (m : Mark). row_of track.topic (record { first = stretch.first; last = stretch.last; mark = m })) e ∙ nothing_told track.topic stretch.first stretch.last in
          subst (Closes track Nothing) (sym none) (same_sort_closes track Nothing stretch h (ap sort_of e)))
      | inr other ↦ other_sort_closes track Nothing stretch h other
    ]

-- ---- the lane

pub latest_of : (lane : Lane) (track : Track) (opened : Opened) → Stands lane track → lane.latest ≡ Some opened → IsLatest track (ended opened (next_step track))
latest_of lane track opened h e = subst (λ (o : Option Opened). MatchOption o (track.marks ≡ []) (λ (opened : Opened). IsLatest track (ended opened (next_step track)))) e h.latest

pub none_yet : (lane : Lane) (track : Track) → Stands lane track → lane.latest ≡ None → track.marks ≡ []
none_yet lane track h e = subst (λ (o : Option Opened). MatchOption o (track.marks ≡ []) (λ (opened : Opened). IsLatest track (ended opened (next_step track)))) e h.latest

counts_before : (lane : Lane) (track : Track) (o : Option Opened) → Stands lane track → lane.latest ≡ o → AreCountsBefore lane.counts o (next_step track) track.marks
counts_before lane track o h e = subst (λ (o : Option Opened). AreCountsBefore lane.counts o (next_step track) track.marks) e h.counts

-- the last mark is of the latest stretch
ends_as : (track : Track) (stretch : Stretch) → IsLatest track stretch → EndsAs track.marks stretch.mark
ends_as track stretch h =
    let within = h.ends.within in
    record { at = length track.marks - 1; last = omega arith; sort = h.ends.each (length track.marks - 1) (omega arith) (omega arith) }

pub stands_same : (lane : Lane) (track : Track) (mark : Mark) (opened : Opened) → Stands lane track → lane.latest ≡ Some opened → sort_of opened.mark ≡ sort_of mark
    → Stands (record { topic = lane.topic; latest = Some (record { first = opened.first; mark = join opened.mark mark }); counts = lane.counts }) (longer track mark)
stands_same lane track mark opened h e same =
    let l = latest_of lane track opened h e in
    let n = length_more track.marks mark in
    let first = l.first in
    let within = l.ends.within in
    let next : next_step (longer track mark) ≡ next_step track + 1 = omega arith in
    record {
      topic = h.topic;
      latest = record { from = l.from; first = l.first; last = omega arith; ends = same_sort_ends track.marks mark l.from opened.mark l.ends same };
      counts = rw next (counts_same lane.counts opened mark (next_step track) track.marks (omega arith) same (ends_as track (ended opened (next_step track)) l) (counts_before lane track (Some opened) h e));
    }

-- A mark of the sort of the latest stretch leaves the lane unchanged, unless it marks an engagement.
pub stands_still : (lane : Lane) (track : Track) (mark : Mark) (opened : Opened) → Stands lane track → lane.latest ≡ Some opened → sort_of opened.mark ≡ sort_of mark → ¬ MarksEngagement mark
    → Stands lane (longer track mark)
stands_still lane track mark opened h e same other =
    let joined = join_still opened.mark mark same other in
    let there : Some (record { first = opened.first; mark = join opened.mark mark }) ≡ lane.latest = ap (λ (m : Mark). Some (record { first = opened.first; mark = m })) joined ∙ sym e in
    subst (λ (o : Option Opened). Stands (record { topic = lane.topic; latest = o; counts = lane.counts }) (longer track mark)) there (stands_same lane track mark opened h e same)

pub stands_other : (lane : Lane) (track : Track) (mark : Mark) (opened : Opened) (step : ℕ) → step < 2 ^ 32 → Stands lane track → lane.latest ≡ Some opened → step ≡ next_step track
    → (sort_of opened.mark ≡ sort_of mark → ⊥)
    → Stands (record { topic = lane.topic; latest = Some (record { first = step; mark = mark }); counts = with_stretch lane.counts opened step }) (longer track mark)
stands_other lane track mark opened step small h e next other =
    let l = latest_of lane track opened h e in
    let n = length_more track.marks mark in
    let within = l.ends.within in
    let then : next_step (longer track mark) ≡ step + 1 = omega arith in
    record {
      topic = h.topic;
      latest = record { from = length track.marks; first = next; last = omega arith; ends = other_sort_ends track.marks mark (λ k e same. other (sym (l.ends.each k (omega arith) (omega arith)) ∙ same)) };
      counts = rw then (counts_turned lane.counts opened mark step track.marks small (omega arith) (ends_as track (ended opened (next_step track)) l) other (rw next (counts_before lane track (Some opened) h e)));
    }

pub stands_first : (lane : Lane) (track : Track) (mark : Mark) (step : ℕ) → Stands lane track → lane.latest ≡ None → step ≡ next_step track
    → Stands (record { topic = lane.topic; latest = Some (record { first = step; mark = mark }); counts = lane.counts }) (longer track mark)
stands_first lane track mark step h e next =
    let empty = ap length (none_yet lane track h e) in
    let n = length_more track.marks mark in
    let then : next_step (longer track mark) ≡ step + 1 = omega arith in
    record {
      topic = h.topic;
      latest = record { from = length track.marks; first = next; last = omega arith; ends = other_sort_ends track.marks mark (λ k e same. absurd (omega arith)) };
      counts = rw then (counts_first lane.counts mark step track.marks (none_yet lane track h e) (rw next (counts_before lane track None h e)));
    }

pub lane_closes : (lane : Lane) (track : Track) (mark : Mark) (opened : Opened) (step : ℕ) → Stands lane track → lane.latest ≡ Some opened → step ≡ next_step track
    → (sort_of opened.mark ≡ sort_of mark → ⊥) → Closes track mark (row_of lane.topic (ended opened step))
lane_closes lane track mark opened step h e next other = rw (h.topic, next) (other_sort_closes track mark (ended opened (next_step track)) (latest_of lane track opened h e) other)

pub lane_end_closes : (lane : Lane) (track : Track) (opened : Opened) (step : ℕ) → Stands lane track → lane.latest ≡ Some opened → step ≡ next_step track
    → Closes track Nothing (row_of lane.topic (ended opened step))
lane_end_closes lane track opened step h e next = rw (h.topic, next) (end_closes track (ended opened (next_step track)) (latest_of lane track opened h e))

pub lane_first_closes : (lane : Lane) (track : Track) (mark : Mark) → Stands lane track → lane.latest ≡ None → Closes track mark None
lane_first_closes lane track mark h e = first_closes track mark (none_yet lane track h e)

-- the counts of all marks
pub lane_counts : (lane : Lane) (track : Track) (opened : Opened) (step : ℕ) → step < 2 ^ 32 → Stands lane track → lane.latest ≡ Some opened → step ≡ next_step track
    → AreCounts (with_stretch lane.counts opened step) track.marks
lane_counts lane track opened step small h e next = counts_after lane.counts opened step track.marks small (omega arith) (rw next (counts_before lane track (Some opened) h e))

pub lane_counts_none : (lane : Lane) (track : Track) → Stands lane track → lane.latest ≡ None → AreCounts lane.counts track.marks
lane_counts_none lane track h e = counts_none lane.counts (next_step track) track.marks (counts_before lane track None h e)
