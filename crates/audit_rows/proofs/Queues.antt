-- What a queue of rows stands for after each of its calls.
use Rattle.std.proofs.Common.{◌≡◌, ℕ, ◌<◌, ◌≤◌, List, [], ◌∷◌, ◌++◌, length, get_or, refl, sym, ap, subst, ◌∙◌, arith, ◌⊎◌, inl, inr, append_assoc, Some, None}
use Rattle.std.specs.Prelude.{Option}
use Rattle.std.proofs.Math.ListN.{set}
use Rattle.std.specs.List.{Contains, slice_get, AllZip}
use Rattle.std.specs.Option.{IfSome}
use Rattle.audit_rows.specs.Inner.Lanes.{Stands}
use Rattle.std.specs.List.Sorted.{IsStrictlySortedBy}
use Rattle.std.specs.Map.{keys_of, values_of}
use Rattle.std.proofs.lemmas.List.Elements.{Contains-append_left, Contains-append_right, Contains-append_cases}
use Rattle.audit_rows.specs.declared.mark.Mark.{Mark}
use Rattle.audit_rows.specs.declared.row.Row.{Row}
use Rattle.audit_rows.specs.declared.topic.Topic.{Topic}
use Rattle.audit_rows.specs.declared.sort_key.SortKey.{SortKey}
use Rattle.audit_rows.specs.declared.lane.Lane.{Lane}
use Rattle.audit_rows.specs.Inner.Closed.{AreClosedRows, Closes, IsClosed}
use Rattle.audit_rows.specs.Order.{last_step_of, place_cmp, sort_key_of}
use Rattle.audit_rows.specs.Rows.{AreRowsBelow}
use Rattle.audit_rows.specs.Tracks.{AreSettled, IsNew, IsNextAt, Track, begun, longer, marked, next_step}
use Rattle.audit_rows.specs.Inner.Queues.{IsPopped}
use Rattle.audit_rows.specs.Standing.{Holds}
use Rattle.audit_rows.proofs.StrictOrder.{sorted_front, sorted_append}
use Rattle.audit_rows.proofs.Places.{earlier_first}
use Rattle.audit_rows.proofs.Tracks.{closed_is_row, settled_is_closed, own_topics_marked, settled_marked, own_topics_begun, settled_begun, closed_begun, closed_unbegun, zip_marked, stands_at, closed_before, closed_still, closed_now, ends_late, place_free}
use Rattle.audit_rows.proofs.Pending.{inserted, placed_inserted, has_inserted, still_inserted, only_inserted, free_place, placed_in_order}

-- The rows that were given are those that end below the bound.
pub given_rows : (entries : List (SortKey × Row)) (tracks : List Track) (bound : ℕ) (given : List Row) → Holds entries tracks bound given → AreRowsBelow bound tracks given
given_rows entries tracks bound given h =
    let pending : List Row = values_of entries in
    record {
      each = λ row. (
        λ i. (closed_is_row tracks row ((h.rows.each row).0 (Contains-append_left given pending row i)), h.early row i),
        λ (is, lt). elim (Contains-append_cases given pending row ((h.rows.each row).1 (settled_is_closed bound tracks row h.settled is lt))) [
          | inl i ↦ i
          | inr i ↦ (let le = h.late row i in absurd (omega arith))
        ],
      );
      ordered = sorted_front sort_key_of place_cmp given pending h.rows.ordered;
    }

pub popped : (entries new : List (SortKey × Row)) (tracks : List Track) (old bound : ℕ) (given rows : List Row) → Holds entries tracks old given → old ≤ bound → AreSettled bound tracks
    → IsPopped bound entries rows new → Holds new tracks bound (given ++ rows)
popped entries new tracks old bound given rows h le settled p = record {
  own_topics = h.own_topics;
  settled = settled;
  rows = subst (AreClosedRows tracks) (ap (λ (xs : List Row). given ++ xs) p.front.whole ∙ sym (append_assoc given rows (values_of new))) h.rows;
  placed = p.front.placed;
  early = λ row i. elim (Contains-append_cases given rows row i) [ inl was ↦ (let lt = h.early row was in omega arith) | inr now ↦ p.front.early row now ];
  late = p.late;
}

pub begins : (entries : List (SortKey × Row)) (tracks : List Track) (bound : ℕ) (given : List Row) (topic : Topic) (first : ℕ) → Holds entries tracks bound given → IsNew topic tracks → bound ≤ first
    → Holds entries (tracks ++ begun topic first ∷ []) bound given
begins entries tracks bound given topic first h new le = record {
  own_topics = own_topics_begun topic first tracks h.own_topics new;
  settled = settled_begun bound topic first tracks h.settled le;
  rows = record {
    each = λ row. (λ i. closed_begun topic first tracks row ((h.rows.each row).0 i), λ c. (h.rows.each row).1 (closed_unbegun topic first tracks row c));
    ordered = h.rows.ordered;
  };
  placed = h.placed;
  early = h.early;
  late = h.late;
}

-- one more mark of the track at an index
module _ (old : List (SortKey × Row)) (tracks : List Track) (bound : ℕ) (given : List Row) (index : ℕ) (mark : Mark) (track : Track) (closed : Option Row)
    (h : Holds old tracks bound given) (at : slice_get tracks index ≡ Some track) (closes : Closes track mark closed) where
  before : (row : Row) → IsClosed (marked tracks index mark) row → IsClosed tracks row ⊎ (closed ≡ Some row)
  before row = closed_before track mark closed closes tracks index row at

  still : (row : Row) → IsClosed tracks row → IsClosed (marked tracks index mark) row
  still row = closed_still tracks index mark row

  pub quiet : closed ≡ None → Holds old (marked tracks index mark) bound given
  quiet none = record {
    own_topics = own_topics_marked tracks index mark h.own_topics;
    settled = settled_marked bound tracks index mark h.settled;
    rows = record {
      each = λ row. (λ i. still row ((h.rows.each row).0 i), λ c. elim (before row c) [ inl was ↦ (h.rows.each row).1 was | inr now ↦ absurd (cc) ]);
      ordered = h.rows.ordered;
    };
    placed = h.placed;
    early = h.early;
    late = h.late;
  }

  pub closing : (row : Row) → closed ≡ Some row → IsStrictlySortedBy place_cmp (keys_of (inserted (sort_key_of row) row old)) → Holds (inserted (sort_key_of row) row old) (marked tracks index mark) bound given
  closing row is ordered =
      let pending = values_of old in
      let place = sort_key_of row in
      let more = values_of (inserted place row old) in
      let free = free_place row old h.placed (λ other i. place_free track mark closed closes row is tracks index other at h.own_topics ((h.rows.each other).0 (Contains-append_right given pending other i))) in
      let late = ends_late track mark closed closes row is bound tracks index at h.settled in
      let placed = placed_inserted place row old free h.placed refl in
      let after_bound : (r : Row) → Contains more r → bound ≤ last_step_of r =
      λ r i. elim (only_inserted place row old r i) [ inl was ↦ h.late r was | inr e ↦ subst (λ (z : Row). bound ≤ last_step_of z) e late ] in
      record {
        own_topics = own_topics_marked tracks index mark h.own_topics;
        settled = settled_marked bound tracks index mark h.settled;
        rows = record {
          each = λ r. (
            λ i. elim (Contains-append_cases given more r i) [
              | inl was ↦ still r ((h.rows.each r).0 (Contains-append_left given pending r was))
              | inr in' ↦ elim (only_inserted place row old r in') [
                | inl was ↦ still r ((h.rows.each r).0 (Contains-append_right given pending r was))
                | inr e ↦ subst (IsClosed (marked tracks index mark)) e (closed_now track mark closed closes row is tracks index at)
              ]
            ],
            λ c. elim (before r c) [
              | inl was ↦ elim (Contains-append_cases given pending r ((h.rows.each r).1 was)) [
                | inl i ↦ Contains-append_left given more r i
                | inr i ↦ Contains-append_right given more r (still_inserted place row old r free i)
              ]
              | inr now ↦ (let e : row ≡ r = cc in subst (Contains (given ++ more)) e (Contains-append_right given more row (has_inserted place row old)))
            ],
          );
          ordered = sorted_append sort_key_of place_cmp given more (sorted_front sort_key_of place_cmp given pending h.rows.ordered) (placed_in_order (inserted place row old) placed ordered)
              (λ a b i j. earlier_first (sort_key_of a) (sort_key_of b) (let early = h.early a i in let behind = after_bound b j in omega arith));
        };
        placed = placed;
        early = h.early;
        late = after_bound;
      }

-- ---- the lanes

pub next_of : (o : Option Track) (track : Track) (step : ℕ) → o ≡ Some track → IfSome o (λ t. step ≡ next_step t) → step ≡ next_step track
next_of o track step e h = subst (λ (p : Option Track). IfSome p (λ t. step ≡ next_step t)) e h

pub lanes_marked : (lanes : List Lane) (tracks : List Track) (i : ℕ) (lane after : Lane) (step : ℕ) (mark : Mark) → AllZip Stands lanes tracks → i < length lanes → get_or lanes i lane ≡ lane
    → IsNextAt tracks i step → ((track : Track) → Stands lane track → step ≡ next_step track → Stands after (longer track mark)) → AllZip Stands (set lanes i after) (marked tracks i mark)
lanes_marked lanes tracks i lane after step mark z lt e next stands =
    zip_marked after mark lanes tracks i z (λ track at.
    let s = stands_at lanes tracks i lane z lt e in
    let some : Some s.track ≡ Some track = sym s.at ∙ at in
    let same : s.track ≡ track = cc in
    stands track (subst (Stands lane) same s.stands) (next_of (slice_get tracks i) track step at next))

pub push_zip : (lanes : List Lane) (tracks : List Track) (lane : Lane) (track : Track) → AllZip Stands lanes tracks → Stands lane track → AllZip Stands (lanes ++ lane ∷ []) (tracks ++ track ∷ [])
push_zip [] [] lane track z h = (h, tt)
push_zip [] (t ∷ ts) lane track z h = absurd z
push_zip (l ∷ ls) [] lane track z h = absurd z
push_zip (l ∷ ls) (t ∷ ts) lane track z h = (z.0, push_zip ls ts lane track z.1 h)
