-- The rows of the tracks that are kept are those of the audit.
use Rattle.std.proofs.Common.{◌≡◌, ℕ, ◌+◌, ◌-◌, ◌<◌, ◌≤◌, List, [], ◌∷◌, ◌++◌, length, append-nil, refl, sym, ap, subst, ◌∙◌, arith, inl, inr}
use Rattle.std.specs.List.{Contains}
use Rattle.mtl_formulas.specs.FormulaTree.{FormulaTree}
use Rattle.mtl_formulas.specs.Traces.{Trace}
use Rattle.audit_rows.specs.Order.{first_step_of, last_step_of}
use Rattle.audit_rows.specs.Rows.{AreRows, AreRowsBelow, IsRow, IsRowOf}
use Rattle.audit_rows.specs.Tracks.{AreSettled, Track, next_step}
use Rattle.audit_rows.specs.declared.mark.Mark.{Mark}
use Rattle.audit_rows.specs.declared.row.Row.{Row}
use Rattle.audit_rows.proofs.ForCallers.{in_rows, row_in, row_stays, row_was, row_within}
use Rattle.outside.proofs.Members.{in_cons, in_none}
use Rattle.traces.specs.Audited.{AuditNumbers, Sighting}
use Rattle.traces.specs.Known.{AreKnown, Known}
use Rattle.auditor.specs.AuditRows.{AreAuditRows, AreAuditRowsBelow, IsAuditRow}
use Rattle.auditor.specs.AuditTracks.{IsTrack}
use Rattle.auditor.specs.Inner.AuditKeeping.{AreTracksOfAll}
use Rattle.auditor.specs.TraceKeeping.{AreRuleMarksSoFar, AreRuleMarksWhole}
use Rattle.auditor.proofs.SameMarks.{go_on}
use Rattle.auditor.proofs.TracksOf.{GoesOn, HaveRows, becomes, comes}

-- ---- so far

AnyRest : List Mark → Type 0
AnyRest more = Unit {0}

so_far : (tree : FormulaTree) (trace : Trace) (marks : List Mark) → AreRuleMarksSoFar tree trace marks → GoesOn AnyRest tree trace marks
unfolding AnyRest
so_far tree trace marks h = let g = go_on tree trace marks h in record { more = g.0; rest = tt; whole = g.1 }

any : AnyRest []
unfolding AnyRest
any = tt

settled_at : (bound : ℕ) (tracks : List Track) (track : Track) → AreSettled bound tracks → Contains tracks track → bound ≤ track.first + (length track.marks - 1)
settled_at bound [] track s i = in_none track i
settled_at bound (t ∷ ts) track s i =
    elim (in_cons t ts track i) [
      | inl same ↦ subst (λ (x : Track). bound ≤ x.first + (length x.marks - 1)) same s.0
      | inr later ↦ settled_at bound ts track s.1 later
    ]

closed : (bound last first next count : ℕ) → bound ≤ first + (count - 1) → first ≤ last → next ≡ first + count → last < bound → last + 1 < next
closed bound last first next count b f n lt = omega arith

module _ (numbers : AuditNumbers) (ticks : List Sighting) (knowns : List Known) (are : AreKnown numbers ticks knowns) (rows_of : HaveRows numbers ticks knowns) (tracks : List Track) where
  pub audit_rows_below : (bound : ℕ) (rows : List Row) → AreTracksOfAll AreRuleMarksSoFar numbers knowns tracks → AreSettled bound tracks → AreRowsBelow bound tracks rows → AreAuditRowsBelow numbers ticks bound rows
  audit_rows_below bound rows all settled h = record {
    each = λ row. (
      λ i. let (is, lt) = (h.each row).0 i in (there row is lt, lt),
      λ (is, lt). (h.each row).1 (here row is.0 is.1.0 is.1.1 lt, lt),
    );
    ordered = h.ordered;
  }
    where
      there : (row : Row) → IsRow tracks row → last_step_of row < bound → IsAuditRow numbers ticks row
      there row is lt =
          let (track, i, of) = row_in tracks row is in
          let b = becomes AnyRest AreRuleMarksSoFar any so_far numbers ticks knowns are rows_of tracks all track i in
          let (from, _, ends) = row_within track row of in
          let early : first_step_of row ≤ last_step_of row = (row_within track row of).1 in
          let late : last_step_of row + 1 < next_step track = closed bound (last_step_of row) track.first (next_step track) (length track.marks) (settled_at bound tracks track settled i) (omega arith) refl lt in
          (record track { marks = track.marks ++ b.more }, (b.is, row_stays track b.more row late of))

      here : (row : Row) (whole : Track) → IsTrack numbers ticks whole → IsRowOf whole row → last_step_of row < bound → IsRow tracks row
      here row whole is of lt =
          let c = comes AnyRest AreRuleMarksSoFar any so_far numbers ticks knowns are rows_of tracks all whole is in
          let track : Track = c.track in
          let longer : IsRowOf (record track { marks = track.marks ++ c.more }) row = subst (λ (t : Track). IsRowOf t row) c.is of in
          let from : track.first ≤ first_step_of row = (row_within (record track { marks = track.marks ++ c.more }) row longer).0 in
          let early : first_step_of row ≤ last_step_of row = (row_within (record track { marks = track.marks ++ c.more }) row longer).1 in
          let late : last_step_of row + 1 < next_step track = closed bound (last_step_of row) track.first (next_step track) (length track.marks) (settled_at bound tracks track settled c.held) (omega arith) refl lt in
          in_rows tracks track row c.held (row_was track c.more row late longer)

-- ---- at the end

NoRest : List Mark → Type 0
NoRest more = more ≡ []

whole_already : (tree : FormulaTree) (trace : Trace) (marks : List Mark) → AreRuleMarksWhole tree trace marks → GoesOn NoRest tree trace marks
unfolding NoRest
whole_already tree trace marks h = record { more = []; rest = refl; whole = subst (λ (ms : List Mark). AreRuleMarksWhole tree trace ms) (sym (append-nil marks)) h }

nothing : NoRest []
unfolding NoRest
nothing = refl

rest_none : (more : List Mark) → NoRest more → more ≡ []
unfolding NoRest
rest_none more h = h

with_marks : Track → List Mark → Track
with_marks t ms = record t { marks = ms }

same_track : (track : Track) (more : List Mark) → more ≡ [] → record track { marks = track.marks ++ more } ≡ track
unfolding with_marks
same_track track more e =
    ap (λ (ms : List Mark). with_marks track (track.marks ++ ms)) e ∙ ap (λ (ms : List Mark). with_marks track ms) (append-nil track.marks)

module _ (numbers : AuditNumbers) (ticks : List Sighting) (knowns : List Known) (are : AreKnown numbers ticks knowns) (rows_of : HaveRows numbers ticks knowns) (tracks : List Track) where
  pub audit_rows : (rows : List Row) → AreTracksOfAll AreRuleMarksWhole numbers knowns tracks → AreRows tracks rows → AreAuditRows numbers ticks rows
  audit_rows rows all h = record {
    each = λ row. (
      λ i. there row ((h.each row).0 i),
      λ is. (h.each row).1 (here row is.0 is.1.0 is.1.1),
    );
    ordered = h.ordered;
  }
    where
      there : (row : Row) → IsRow tracks row → IsAuditRow numbers ticks row
      there row is =
          let (track, i, of) = row_in tracks row is in
          let b = becomes NoRest AreRuleMarksWhole nothing whole_already numbers ticks knowns are rows_of tracks all track i in
          (track, (subst (λ (t : Track). IsTrack numbers ticks t) (same_track track b.more (rest_none b.more b.rest)) b.is, of))

      here : (row : Row) (whole : Track) → IsTrack numbers ticks whole → IsRowOf whole row → IsRow tracks row
      here row whole is of =
          let c = comes NoRest AreRuleMarksWhole nothing whole_already numbers ticks knowns are rows_of tracks all whole is in
          in_rows tracks c.track row c.held (subst (λ (t : Track). IsRowOf t row) (c.is ∙ same_track c.track c.more (rest_none c.more c.rest)) of)
