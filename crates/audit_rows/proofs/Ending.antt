-- The end of all tracks: one more mark of each, with nothing to report.
use Rattle.std.proofs.Common.{◌≡◌, ℕ, zero, suc, ◌+◌, ◌<◌, ◌≤◌, List, [], ◌∷◌, ◌++◌, length, get_or, refl, ap, subst, ◌∙◌, arith, ◌⊎◌, inl, inr, Some, None, add-one}
use Rattle.std.specs.Prelude.{Option}
use Rattle.std.specs.List.{slice_get, AllZip}
use Rattle.std.specs.List.Sorted.{IsStrictlySortedBy}
use Rattle.std.specs.Map.{keys_of, values_of}
use Rattle.audit_rows.specs.declared.lane.Lane.{Lane}
use Rattle.audit_rows.specs.Inner.Lanes.{Stands}
use Rattle.audit_rows.proofs.Tracks.{StandsAt}
use Rattle.audit_rows.proofs.Pending.{inserted}
use Rattle.audit_rows.proofs.Queues.{quiet, closing}
use Rattle.audit_rows.specs.declared.mark.Mark.TheVariants.{Nothing}
use Rattle.audit_rows.specs.declared.sort_key.SortKey.{SortKey}
use Rattle.audit_rows.specs.declared.row.Row.{Row}
use Rattle.audit_rows.specs.Inner.Closed.{Closes, IsClosed, IsClosedOf}
use Rattle.audit_rows.specs.Order.{last_step_of, place_cmp, sort_key_of}
use Rattle.audit_rows.specs.Rows.{AreRows, IsRow, IsRowOf}
use Rattle.audit_rows.specs.Tracks.{EndAt, Track, longer, marked, next_step}
use Rattle.audit_rows.specs.Standing.{Holds}
use Rattle.audit_rows.proofs.Sorts.{tells_of_something}
use Rattle.audit_rows.proofs.Stretches.{closed_further}
use Rattle.audit_rows.proofs.Closing.{newly_closed, now_closed}

-- the first tracks ended
abbrev pub ended : ℕ → List Track → List Track
ended zero tracks = tracks
ended (suc n) [] = []
ended (suc n) (track ∷ tracks) = longer track Nothing ∷ ended n tracks

pub ended_more : (n : ℕ) (tracks : List Track) → marked (ended n tracks) n Nothing ≡ ended (suc n) tracks
ended_more zero [] = refl
ended_more zero (t ∷ ts) = refl
ended_more (suc n) [] = refl
ended_more (suc n) (t ∷ ts) = ap (λ (us : List Track). longer t Nothing ∷ us) (ended_more n ts)

pub ended_at : (n : ℕ) (tracks : List Track) → slice_get (ended n tracks) n ≡ slice_get tracks n
ended_at zero ts = refl
ended_at (suc n) [] = refl
ended_at (suc n) (t ∷ ts) = ended_at n ts

closed_by_end : (track : Track) (row : Row) → IsRowOf track row → IsClosedOf (longer track Nothing) row
closed_by_end track row (from, to, t) =
    let w = t.stretch.within in
    let l = t.last in
    elim (which (last_step_of row + 1) (next_step track) (omega arith)) [
      | inl lt ↦ closed_further track (Nothing ∷ []) row ((from, to, t), lt)
      | inr end ↦ now_closed track Nothing row (from, to, t) end (tells_of_something row)
    ]
  where
    which : (m n : ℕ) → m ≤ n → (m < n) ⊎ (m ≡ n)
    which m n le = grind arith

row_of_ended : (track : Track) (row : Row) → IsClosedOf (longer track Nothing) row → IsRowOf track row
row_of_ended track row h = elim (newly_closed track Nothing row h) [ inl was ↦ was.0 | inr (r, last, other) ↦ r ]

all_closed : (n : ℕ) (tracks : List Track) (row : Row) → length tracks ≤ n → IsRow tracks row → IsClosed (ended n tracks) row
all_closed n [] row le h = absurd h
all_closed zero (t ∷ ts) row le h = absurd (omega arith)
all_closed (suc n) (t ∷ ts) row le (inl h) = inl (closed_by_end t row h)
all_closed (suc n) (t ∷ ts) row le (inr h) = inr (all_closed n ts row (omega arith) h)

all_rows : (n : ℕ) (tracks : List Track) (row : Row) → length tracks ≤ n → IsClosed (ended n tracks) row → IsRow tracks row
all_rows zero [] row le h = h
all_rows (suc n) [] row le h = h
all_rows zero (t ∷ ts) row le h = absurd (omega arith)
all_rows (suc n) (t ∷ ts) row le (inl h) = inl (row_of_ended t row h)
all_rows (suc n) (t ∷ ts) row le (inr h) = inr (all_rows n ts row (omega arith) h)

-- Once all are ended, all rows are closed.
pub rows_of_ended : (entries : List (SortKey × Row)) (tracks : List Track) (n bound : ℕ) (given : List Row) → length tracks ≤ n → Holds entries (ended n tracks) bound given → AreRows tracks (given ++ values_of entries)
rows_of_ended entries tracks n bound given le h = record {
  each = λ row. (λ i. all_rows n tracks row le ((h.rows.each row).0 i), λ is. (h.rows.each row).1 (all_closed n tracks row le is));
  ordered = h.rows.ordered;
}

-- ---- one track after the other

pub end_there : (tracks : List Track) (i : ℕ) (track : Track) (end : ℕ) → EndAt end tracks → slice_get tracks i ≡ Some track → end ≡ next_step track
end_there [] i track end h at = absurd (cc)
end_there (t ∷ ts) zero track end h at = let same : t ≡ track = cc in subst (λ (z : Track). end ≡ next_step z) same h.0
end_there (t ∷ ts) (suc i) track end h at = end_there ts i track end h.1 at

stands_there : (lanes : List Lane) (tracks : List Track) (i : ℕ) (d : Lane) → AllZip Stands lanes tracks → i < length lanes → StandsAt tracks i (get_or lanes i d)
stands_there [] tracks i d z lt = absurd (omega arith)
stands_there (l ∷ ls) [] i d z lt = absurd z
stands_there (l ∷ ls) (t ∷ ts) zero d z lt = record { track = t; at = refl; stands = z.0 }
stands_there (l ∷ ls) (t ∷ ts) (suc i) d z lt = let r = stands_there ls ts i d z.1 (omega arith) in record { track = r.track; at = r.at; stands = r.stands }

pub as_many : (lanes : List Lane) (tracks : List Track) → AllZip Stands lanes tracks → length tracks ≡ length lanes
as_many [] [] z = refl
as_many [] (t ∷ ts) z = absurd z
as_many (l ∷ ls) [] z = absurd z
as_many (l ∷ ls) (t ∷ ts) z = let n = as_many ls ts z.1 in omega arith

module _ (lanes : List Lane) (tracks : List Track) (n bound : ℕ) (given : List Row) (d : Lane) (closed : Option Row) (old : List (SortKey × Row)) (z : AllZip Stands lanes tracks) (lt : n < length lanes)
    (end : ℕ) (ends : EndAt end tracks) (closes : (track : Track) → Stands (get_or lanes n d) track → end ≡ next_step track → Closes track Nothing closed) (h : Holds old (ended n tracks) bound given) where
  there : StandsAt tracks n (get_or lanes n d)
  there = stands_there lanes tracks n d z lt

  further : (es : List (SortKey × Row)) → Holds es (marked (ended n tracks) n Nothing) bound given → Holds es (ended (n + 1) tracks) bound given
  further es g = rw add-one (subst (λ (ts : List Track). Holds es ts bound given) (ended_more n tracks) g)

  pub end_quiet : closed ≡ None → Holds old (ended (n + 1) tracks) bound given
  end_quiet none = further old (quiet old (ended n tracks) bound given n Nothing there.track closed h (ended_at n tracks ∙ there.at) (closes there.track there.stands (end_there tracks n there.track end ends there.at)) none)

  pub end_closing : (row : Row) → closed ≡ Some row → IsStrictlySortedBy place_cmp (keys_of (inserted (sort_key_of row) row old)) → Holds (inserted (sort_key_of row) row old) (ended (n + 1) tracks) bound given
  end_closing row is ordered = further (inserted (sort_key_of row) row old) (closing old (ended n tracks) bound given n Nothing there.track closed h (ended_at n tracks ∙ there.at) (closes there.track there.stands (end_there tracks n there.track end ends there.at)) row is ordered)
