-- Lemmas for the crates above: the rows of tracks from those of each track, tracks among others, and what later marks leave as it is.
use Rattle.std.proofs.Common.{◌≡◌, ◌≢◌, ℕ, Bool, map, ◌+◌, ◌<◌, ◌≤◌, List, [], ◌∷◌, ◌++◌, length, sym, subst, arith, ◌⊎◌, inl, inr}
use Rattle.std.specs.List.{AllPairs, Contains, filter}
use Rattle.audit_rows.specs.declared.mark.Mark.{Mark}
use Rattle.audit_rows.specs.declared.row.Row.{Row}
use Rattle.audit_rows.specs.declared.row_queue.RowQueue.{RowQueue}
use Rattle.audit_rows.specs.declared.topic.Topic.{Topic}
use Rattle.audit_rows.specs.Order.{InOrder, first_step_of, last_step_of, place_cmp, sort_key_of}
use Rattle.audit_rows.specs.Rows.{AreRowsBelow, IsRow, IsRowOf}
use Rattle.audit_rows.specs.Standing.{QueueStandsFor}
use Rattle.audit_rows.specs.Tracks.{AreSettled, Continue, IsNew, IsNextAt, Track, next_step}
use Rattle.audit_rows.proofs.Queues.{given_rows}
use Rattle.audit_rows.proofs.Fronts.{sorted_filter}
use Rattle.outside.proofs.Members.{in_cons, in_head, in_none, in_tail}
use Rattle.audit_rows.proofs.Stretches.{closed_front, closed_further}
-- the laws, and that rows below a settled bound are those of whatever the tracks become
pub use Rattle.audit_rows.proofs.Fronts.{one_list, front_of_all, still_below, from_filter, in_filter}
pub use Rattle.audit_rows.proofs.Tracks.{settled_by_reach}
-- the order of rows, and lists in strict order
pub use Rattle.audit_rows.proofs.Places.{earlier_first, place_total}
pub use Rattle.audit_rows.proofs.StrictOrder.{all_different, less_than, same_list, tail_sorted}
-- a mark of a track among others, and one that repeats the last
pub use Rattle.audit_rows.proofs.Repeats.{marked_there, repeated}

-- ---- the rows of tracks are those of each of them

pub row_in : (tracks : List Track) (row : Row) → IsRow tracks row → (track : Track) × Contains tracks track × IsRowOf track row
row_in [] row h = absurd h
row_in (t ∷ ts) row (inl h) = (t, in_head t ts, h)
row_in (t ∷ ts) row (inr h) = let (track, i, is) = row_in ts row h in (track, in_tail t ts track i, is)

pub in_rows : (tracks : List Track) (track : Track) (row : Row) → Contains tracks track → IsRowOf track row → IsRow tracks row
in_rows [] track row i h = in_none track i
in_rows (t ∷ ts) track row i h =
    elim (in_cons t ts track i) [
      | inl same ↦ inl (subst (λ (z : Track). IsRowOf z row) (sym same) h)
      | inr later ↦ inr (in_rows ts track row later h)
    ]

pub row_left : (xs ys : List Track) (row : Row) → IsRow xs row → IsRow (xs ++ ys) row
row_left [] ys row h = absurd h
row_left (x ∷ xs) ys row (inl h) = inl h
row_left (x ∷ xs) ys row (inr h) = inr (row_left xs ys row h)

pub row_right : (xs ys : List Track) (row : Row) → IsRow ys row → IsRow (xs ++ ys) row
row_right [] ys row h = h
row_right (x ∷ xs) ys row h = inr (row_right xs ys row h)

pub row_cases : (xs ys : List Track) (row : Row) → IsRow (xs ++ ys) row → IsRow xs row ⊎ IsRow ys row
row_cases [] ys row h = inr h
row_cases (x ∷ xs) ys row (inl h) = inl (inl h)
row_cases (x ∷ xs) ys row (inr h) = elim (row_cases xs ys row h) [ inl here ↦ inl (inr here) | inr there ↦ inr there ]

-- A row lies among the steps of its track.
pub row_within : (track : Track) (row : Row) → IsRowOf track row → (track.first ≤ first_step_of row) × (first_step_of row ≤ last_step_of row) × (last_step_of row < next_step track)
row_within track row (from, to, t) =
    let f = t.first in
    let l = t.last in
    let ordered = t.stretch.ordered in
    let within = t.stretch.within in
    (omega arith, omega arith, omega arith)

-- ---- rows in order

pub different_keys : (rows : List Row) → InOrder rows → AllPairs ◌≢◌ (map sort_key_of rows)
different_keys rows ordered = all_different sort_key_of place_cmp place_total rows ordered

pub ordered_filter : (p : Row → Bool) (rows : List Row) → InOrder rows → InOrder (filter p rows)
ordered_filter p rows ordered = sorted_filter p sort_key_of place_cmp rows ordered

-- ---- a row after which a mark stands is a row whatever marks follow, and only then

pub row_stays : (track : Track) (more : List Mark) (row : Row) → last_step_of row + 1 < next_step track → IsRowOf track row → IsRowOf (record track { marks = track.marks ++ more }) row
row_stays track more row lt h = (closed_further track more row (h, lt)).0

pub row_was : (track : Track) (more : List Mark) (row : Row) → last_step_of row + 1 < next_step track → IsRowOf (record track { marks = track.marks ++ more }) row → IsRowOf track row
row_was track more row lt h = (closed_front track more row h lt).0

-- what a queue has given so far
pub given_below : (queue : RowQueue) (tracks : List Track) (bound : ℕ) (given : List Row) → QueueStandsFor queue tracks bound given → AreRowsBelow bound tracks given
given_below queue tracks bound given h = given_rows queue.pending.entries tracks bound given h.holds

-- ---- a track among others

pub next_there : (before after : List Track) (track : Track) (step : ℕ) → step ≡ next_step track → IsNextAt (before ++ track ∷ after) (length before) step
next_there [] after track step e = e
next_there (t ∷ ts) after track step e = next_there ts after track step e

-- ---- lists of tracks one after the other

pub settled_append : (bound : ℕ) (xs ys : List Track) → AreSettled bound xs → AreSettled bound ys → AreSettled bound (xs ++ ys)
settled_append bound [] ys s t = t
settled_append bound (x ∷ xs) ys s t = (s.0, settled_append bound xs ys s.1 t)

pub settled_left : (bound : ℕ) (xs ys : List Track) → AreSettled bound (xs ++ ys) → AreSettled bound xs
settled_left bound [] ys s = tt
settled_left bound (x ∷ xs) ys s = (s.0, settled_left bound xs ys s.1)

pub settled_right : (bound : ℕ) (xs ys : List Track) → AreSettled bound (xs ++ ys) → AreSettled bound ys
settled_right bound [] ys s = s
settled_right bound (x ∷ xs) ys s = settled_right bound xs ys s.1

-- Tracks that are settled up to a bound are so up to a lower one.
pub settled_lower : (bound lower : ℕ) (tracks : List Track) → lower ≤ bound → AreSettled bound tracks → AreSettled lower tracks
settled_lower bound lower [] le s = tt
settled_lower bound lower (t ∷ ts) le s = let b = s.0 in (omega arith, settled_lower bound lower ts le s.1)

pub new_append : (topic : Topic) (xs ys : List Track) → IsNew topic xs → IsNew topic ys → IsNew topic (xs ++ ys)
new_append topic [] ys h k = k
new_append topic (x ∷ xs) ys h k = (h.0, new_append topic xs ys h.1 k)

pub continue_append : (bound : ℕ) (xs ys later : List Track) (now : List Track) → length xs ≡ length now → Continue bound xs now → Continue bound ys later → Continue bound (xs ++ ys) (now ++ later)
continue_append bound [] ys later [] e c d = d
continue_append bound [] ys later (n ∷ ns) e c d = absurd (omega arith)
continue_append bound (x ∷ xs) ys later [] e c d = absurd c
continue_append bound (x ∷ xs) ys later (n ∷ ns) e c d = (c.0, continue_append bound xs ys later ns (omega arith) c.1 d)
