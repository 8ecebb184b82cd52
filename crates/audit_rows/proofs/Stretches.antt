-- The stretches of a list of marks and of a front of it.
use Rattle.std.proofs.Common.{◌≡◌, ℕ, ◌+◌, ◌-◌, ◌<◌, ◌≤◌, List, ◌++◌, length, sym, ap, subst, ◌∙◌, arith, length-append}
use Rattle.std.proofs.Math.ListN.{get_or-append}
use Rattle.std.specs.Option.{IfSome}
use Rattle.sectors.specs.declared.class.Class.{Class}
use Rattle.audit_rows.specs.declared.mark.Mark.{Mark}
use Rattle.audit_rows.specs.declared.mark.Mark.TheVariants.{Nothing}
use Rattle.audit_rows.specs.declared.row.Row.{Row}
use Rattle.audit_rows.specs.declared.row.Row.TheVariants.{Meeting, Verdict}
use Rattle.audit_rows.specs.Inner.Closed.{IsClosedOf}
use Rattle.audit_rows.specs.Order.{last_step_of}
use Rattle.audit_rows.specs.Rows.{IsRowOf, Measures, TellsStretch, TellsOf}
use Rattle.audit_rows.specs.Stretches.{HasKindAndLeast, IsStretch, distance_of, marked_kind, mark_at}
use Rattle.audit_rows.specs.Tracks.{Track}

-- a track with more marks after its own
abbrev pub further : Track → List Mark → Track
further track more = record track { marks = track.marks ++ more }

pub mark_front : (xs ys : List Mark) (k : ℕ) → k < length xs → mark_at (xs ++ ys) k ≡ mark_at xs k
mark_front xs ys k lt = get_or-append xs ys Nothing k lt

module _ (P : Mark → Type 0) (xs ys : List Mark) (from to : ℕ) where
  pub stretch_further : to + 1 < length xs → IsStretch P xs from to → IsStretch P (xs ++ ys) from to
  stretch_further lt h =
      let ordered = h.ordered in
      record {
        ordered = h.ordered;
        within = omega (arith, length-append xs ys);
        each = λ k low high. subst P (sym (mark_front xs ys k (omega arith))) (h.each k low high);
        before = λ some p. h.before some (subst P (mark_front xs ys (from - 1) (omega arith)) p);
        after = λ _ p. h.after lt (subst P (mark_front xs ys (to + 1) lt) p);
      }

  pub stretch_front : to < length xs → IsStretch P (xs ++ ys) from to → IsStretch P xs from to
  stretch_front lt h =
      let ordered = h.ordered in
      record {
        ordered = h.ordered;
        within = lt;
        each = λ k low high. subst P (mark_front xs ys k (omega arith)) (h.each k low high);
        before = λ some p. h.before some (subst P (sym (mark_front xs ys (from - 1) (omega arith))) p);
        after = λ next p. h.after (omega (arith, length-append xs ys)) (subst P (sym (mark_front xs ys (to + 1) next)) p);
      }

-- what a row measures is the same of lists that agree so far
module _ (xs ys : List Mark) (from to : ℕ) (ordered : from ≤ to) (agree : (k : ℕ) → k ≤ to → mark_at xs k ≡ mark_at ys k) where
  measured_alike : (kind : Class) (least : ℕ) → HasKindAndLeast xs from to kind least → HasKindAndLeast ys from to kind least
  measured_alike kind least h =
      let (k, low, high, is) = h.reached in
      record {
        of_first = ap marked_kind (sym (agree from ordered)) ∙ h.of_first;
        at_least = λ k low high. subst (λ (m : Mark). IfSome (distance_of m) (λ distance. least ≤ distance)) (agree k high) (h.at_least k low high);
        reached = (k, low, high, ap distance_of (sym (agree k high)) ∙ is);
      }

  pub measures_alike : (row : Row) → Measures row xs from to → Measures row ys from to
  measures_alike (Meeting pair kind first last least) h = measured_alike kind least h
  measures_alike (Verdict pair rule undecided first last) h = tt

pub tells_further : (track : Track) (more : List Mark) (row : Row) (from to : ℕ) → to + 1 < length track.marks → TellsStretch track row from to → TellsStretch (further track more) row from to
tells_further track more row from to lt h = record {
  topic = h.topic;
  first = h.first;
  last = h.last;
  stretch = stretch_further (TellsOf row) track.marks more from to lt h.stretch;
  measures = measures_alike track.marks (track.marks ++ more) from to h.stretch.ordered (λ k le. sym (mark_front track.marks more k (omega arith))) row h.measures;
}

pub tells_front : (track : Track) (more : List Mark) (row : Row) (from to : ℕ) → to < length track.marks → TellsStretch (further track more) row from to → TellsStretch track row from to
tells_front track more row from to lt h = record {
  topic = h.topic;
  first = h.first;
  last = h.last;
  stretch = stretch_front (TellsOf row) track.marks more from to lt h.stretch;
  measures = measures_alike (track.marks ++ more) track.marks from to h.stretch.ordered (λ k le. mark_front track.marks more k (omega arith)) row h.measures;
}

-- What is closed stays as it is.
pub closed_further : (track : Track) (more : List Mark) (row : Row) → IsClosedOf track row → IsClosedOf (further track more) row
closed_further track more row h =
    let t = h.0.2 in
    let last = t.last in
    let lt = h.1 in
    ((h.0.0, h.0.1, tells_further track more row h.0.0 h.0.1 (omega arith) t), omega (arith, length-append track.marks more))

-- A row that is settled in a front is a closed row of the front.
pub closed_front : (track : Track) (more : List Mark) (row : Row) → IsRowOf (further track more) row → last_step_of row + 1 < track.first + length track.marks → IsClosedOf track row
closed_front track more row h lt =
    let t = h.2 in
    let last = t.last in
    ((h.0, h.1, tells_front track more row h.0 h.1 (omega arith) t), lt)
