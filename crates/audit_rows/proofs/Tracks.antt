-- What one more mark of one of many tracks does.
use Rattle.std.proofs.Common.{◌≡◌, ℕ, zero, suc, ◌+◌, ◌-◌, ◌<◌, ◌≤◌, List, [], ◌∷◌, ◌++◌, length, get_or, refl, ap, sym, subst, ◌∙◌, arith, length-append, ◌⊎◌, inl, inr, Some, None}
use Rattle.std.specs.Prelude.{Option}
use Rattle.std.proofs.Math.ListN.{set}
use Rattle.std.specs.List.{AllByRecursion, AllZip, slice_get}
use Rattle.audit_rows.specs.declared.mark.Mark.{Mark}
use Rattle.audit_rows.specs.declared.topic.Topic.{Topic}
use Rattle.audit_rows.specs.declared.row.Row.{Row}
use Rattle.audit_rows.specs.declared.lane.Lane.{Lane}
use Rattle.audit_rows.specs.Inner.Closed.{Closes, IsClosed}
use Rattle.audit_rows.specs.Order.{last_step_of, topic_of}
use Rattle.audit_rows.specs.Rows.{IsRow, IsRowOf}
use Rattle.audit_rows.specs.Standing.{HaveOwnTopics}
use Rattle.audit_rows.specs.Tracks.{AreSettled, Continue, IsNew, Track, begun, longer, marked, next_step}
use Rattle.audit_rows.specs.Inner.Lanes.{Stands}
use Rattle.audit_rows.proofs.Stretches.{closed_further, closed_front}

pub closed_is_row : (tracks : List Track) (row : Row) → IsClosed tracks row → IsRow tracks row
closed_is_row [] row h = h
closed_is_row (t ∷ ts) row (inl h) = inl h.0
closed_is_row (t ∷ ts) row (inr h) = inr (closed_is_row ts row h)

-- A row that ends below what is settled is closed.
pub settled_is_closed : (bound : ℕ) (tracks : List Track) (row : Row) → AreSettled bound tracks → IsRow tracks row → last_step_of row < bound → IsClosed tracks row
settled_is_closed bound [] row s h lt = h
settled_is_closed bound (t ∷ ts) row s (inl (from, to, r)) lt = let w = r.stretch.within in let l = r.last in let b = s.0 in inl ((from, to, r), omega arith)
settled_is_closed bound (t ∷ ts) row s (inr h) lt = inr (settled_is_closed bound ts row s.1 h lt)

pub closed_topic : (tracks : List Track) (row : Row) (topic : Topic) → IsNew topic tracks → IsClosed tracks row → topic_of row ≡ topic → ⊥
closed_topic [] row topic new h e = h
closed_topic (t ∷ ts) row topic new (inl ((from, to, r), lt)) e = new.0 (sym r.topic ∙ e)
closed_topic (t ∷ ts) row topic new (inr h) e = closed_topic ts row topic new.1 h e

pub new_marked : (topic : Topic) (tracks : List Track) (i : ℕ) (mark : Mark) → IsNew topic tracks → IsNew topic (marked tracks i mark)
new_marked topic [] i mark h = tt
new_marked topic (t ∷ ts) zero mark h = h
new_marked topic (t ∷ ts) (suc i) mark h = (h.0, new_marked topic ts i mark h.1)

pub none_marked : (tracks : List Track) (i : ℕ) (mark : Mark) → length tracks ≤ i → marked tracks i mark ≡ tracks
none_marked [] i mark le = refl
none_marked (t ∷ ts) zero mark le = absurd (omega arith)
none_marked (t ∷ ts) (suc i) mark le = ap (λ (us : List Track). t ∷ us) (none_marked ts i mark (omega arith))

pub own_topics_marked : (tracks : List Track) (i : ℕ) (mark : Mark) → HaveOwnTopics tracks → HaveOwnTopics (marked tracks i mark)
own_topics_marked [] i mark h = tt
own_topics_marked (t ∷ ts) zero mark h = h
own_topics_marked (t ∷ ts) (suc i) mark h = (new_marked t.topic ts i mark h.0, own_topics_marked ts i mark h.1)

pub settled_marked : (bound : ℕ) (tracks : List Track) (i : ℕ) (mark : Mark) → AreSettled bound tracks → AreSettled bound (marked tracks i mark)
settled_marked bound [] i mark h = tt
settled_marked bound (t ∷ ts) zero mark h = let b = h.0 in (omega (arith, length-append t.marks (mark ∷ [])), h.1)
settled_marked bound (t ∷ ts) (suc i) mark h = (h.0, settled_marked bound ts i mark h.1)

-- the track that a lane stands for
pub record StandsAt (tracks : List Track) (index : ℕ) (lane : Lane) : Type 0 where
  pub track : Track
  pub at : slice_get tracks index ≡ Some track
  pub stands : Stands lane track

pub stands_at : (lanes : List Lane) (tracks : List Track) (i : ℕ) (lane : Lane) → AllZip Stands lanes tracks → i < length lanes → get_or lanes i lane ≡ lane → StandsAt tracks i lane
stands_at [] tracks i lane z lt e = absurd (omega arith)
stands_at (l ∷ ls) [] i lane z lt e = absurd z
stands_at (l ∷ ls) (t ∷ ts) zero lane z lt e = record { track = t; at = refl; stands = subst (λ (z : Lane). Stands z t) e z.0 }
stands_at (l ∷ ls) (t ∷ ts) (suc i) lane z lt e = let r = stands_at ls ts i lane z.1 (omega arith) e in record { track = r.track; at = r.at; stands = r.stands }

pub none_there : (tracks : List Track) (i : ℕ) → length tracks ≤ i → slice_get tracks i ≡ None
none_there [] i le = refl
none_there (t ∷ ts) zero le = absurd (omega arith)
none_there (t ∷ ts) (suc i) le = none_there ts i (omega arith)

pub zip_marked : (after : Lane) (mark : Mark) (lanes : List Lane) (tracks : List Track) (i : ℕ) → AllZip Stands lanes tracks
    → ((track : Track) → slice_get tracks i ≡ Some track → Stands after (longer track mark)) → AllZip Stands (set lanes i after) (marked tracks i mark)
zip_marked after mark [] [] i z h = tt
zip_marked after mark [] (t ∷ ts) i z h = absurd z
zip_marked after mark (l ∷ ls) [] i z h = absurd z
zip_marked after mark (l ∷ ls) (t ∷ ts) zero z h = (h t refl, z.1)
zip_marked after mark (l ∷ ls) (t ∷ ts) (suc i) z h = (z.0, zip_marked after mark ls ts i z.1 h)

pub closed_still : (tracks : List Track) (i : ℕ) (mark : Mark) (row : Row) → IsClosed tracks row → IsClosed (marked tracks i mark) row
closed_still [] i mark row h = h
closed_still (t ∷ ts) zero mark row (inl h) = inl (closed_further t (mark ∷ []) row h)
closed_still (t ∷ ts) zero mark row (inr h) = inr h
closed_still (t ∷ ts) (suc i) mark row (inl h) = inl h
closed_still (t ∷ ts) (suc i) mark row (inr h) = inr (closed_still ts i mark row h)

-- one more mark of one track, which closes a row or none
module _ (track : Track) (mark : Mark) (closed : Option Row) (closes : Closes track mark closed) where
  here : (t : Track) → Some t ≡ Some track → Closes t mark closed
  here t e = let same : t ≡ track = cc in subst (λ (z : Track). Closes z mark closed) (sym same) closes

  pub closed_before : (tracks : List Track) (i : ℕ) (row : Row) → slice_get tracks i ≡ Some track → IsClosed (marked tracks i mark) row → IsClosed tracks row ⊎ (closed ≡ Some row)
  closed_before [] i row at h = absurd h
  closed_before (t ∷ ts) zero row at (inl h) = elim (((here t at).rows row).0 h) [ inl was ↦ inl (inl was) | inr now ↦ inr now ]
  closed_before (t ∷ ts) zero row at (inr h) = inl (inr h)
  closed_before (t ∷ ts) (suc i) row at (inl h) = inl (inl h)
  closed_before (t ∷ ts) (suc i) row at (inr h) = elim (closed_before ts i row at h) [ inl was ↦ inl (inr was) | inr now ↦ inr now ]

  module _ (row : Row) (is : closed ≡ Some row) where
    pub closed_now : (tracks : List Track) (i : ℕ) → slice_get tracks i ≡ Some track → IsClosed (marked tracks i mark) row
    closed_now [] i at = absurd (cc)
    closed_now (t ∷ ts) zero at = inl (((here t at).rows row).1 (inr is))
    closed_now (t ∷ ts) (suc i) at = inr (closed_now ts i at)

    -- it ends where the track did, so not below what is settled
    pub ends_late : (bound : ℕ) (tracks : List Track) (i : ℕ) → slice_get tracks i ≡ Some track → AreSettled bound tracks → bound ≤ last_step_of row
    ends_late bound [] i at s = absurd (cc)
    ends_late bound (t ∷ ts) zero at s =
        let r = (here t at).ended row is in
        let w = r.0.2.stretch.within in
        let b = s.0 in
        let end = r.1 in
        omega arith
    ends_late bound (t ∷ ts) (suc i) at s = ends_late bound ts i at s.1

    topic_taken : (topic : Topic) (tracks : List Track) (i : ℕ) → slice_get tracks i ≡ Some track → IsNew topic tracks → topic_of row ≡ topic → ⊥
    topic_taken topic [] i at new same = absurd (cc)
    topic_taken topic (t ∷ ts) zero at new same = let r = (here t at).ended row is in new.0 (sym r.0.2.topic ∙ same)
    topic_taken topic (t ∷ ts) (suc i) at new same = topic_taken topic ts i at new.1 same

    -- no row that was closed before stands at its place
    pub place_free : (tracks : List Track) (i : ℕ) (other : Row) → slice_get tracks i ≡ Some track → HaveOwnTopics tracks → IsClosed tracks other → topic_of row ≡ topic_of other → last_step_of row ≡ last_step_of other → ⊥
    place_free [] i other at n h same last = h
    place_free (t ∷ ts) zero other at n (inl h) same last = let r = (here t at).ended row is in let end = r.1 in let early = h.1 in absurd (omega arith)
    place_free (t ∷ ts) zero other at n (inr h) same last = let r = (here t at).ended row is in closed_topic ts other t.topic n.0 h (sym same ∙ r.0.2.topic)
    place_free (t ∷ ts) (suc i) other at n (inl ((from, to, r), early)) same last = topic_taken t.topic ts i at n.0 (same ∙ r.topic)
    place_free (t ∷ ts) (suc i) other at n (inr h) same last = place_free ts i other at n.1 h same last

-- ---- settled rows stay

pub row_still : (bound : ℕ) (tracks later : List Track) (row : Row) → Continue bound tracks later → IsClosed tracks row → IsRow later row
row_still bound [] later row c h = absurd h
row_still bound (t ∷ ts) [] row c h = absurd c
row_still bound (t ∷ ts) (l ∷ ls) row c (inl h) = inl (subst (λ (z : Track). IsRowOf z row) (sym c.0.1) (closed_further t c.0.0 row h).0)
row_still bound (t ∷ ts) (l ∷ ls) row c (inr h) = inr (row_still bound ts ls row c.1 h)

not_begun : (bound : ℕ) (later : List Track) (row : Row) → AllByRecursion (λ track. bound ≤ track.first) later → IsRow later row → last_step_of row < bound → ⊥
not_begun bound [] row b h lt = h
not_begun bound (l ∷ ls) row b (inl (from, to, r)) lt = let e = r.last in let s = b.0 in absurd (omega arith)
not_begun bound (l ∷ ls) row b (inr h) lt = not_begun bound ls row b.1 h lt

pub row_before : (bound : ℕ) (tracks later : List Track) (row : Row) → AreSettled bound tracks → Continue bound tracks later → IsRow later row → last_step_of row < bound → IsRow tracks row
row_before bound [] later row s c h lt = not_begun bound later row c h lt
row_before bound (t ∷ ts) [] row s c h lt = absurd c
row_before bound (t ∷ ts) (l ∷ ls) row s c (inl h) lt =
    let (from, to, r) = subst (λ (z : Track). IsRowOf z row) c.0.1 h in
    let e = r.last in
    let b = s.0 in
    inl (closed_front t c.0.0 row (from, to, r) (omega arith)).0
row_before bound (t ∷ ts) (l ∷ ls) row s c (inr h) lt = inr (row_before bound ts ls row s.1 c.1 h lt)

-- ---- a new track

new_begun : (topic other : Topic) (first : ℕ) (tracks : List Track) → IsNew other tracks → (topic ≡ other → ⊥) → IsNew other (tracks ++ begun topic first ∷ [])
new_begun topic other first [] h new = (new, tt)
new_begun topic other first (t ∷ ts) h new = (h.0, new_begun topic other first ts h.1 new)

pub own_topics_begun : (topic : Topic) (first : ℕ) (tracks : List Track) → HaveOwnTopics tracks → IsNew topic tracks → HaveOwnTopics (tracks ++ begun topic first ∷ [])
own_topics_begun topic first [] h new = (tt, tt)
own_topics_begun topic first (t ∷ ts) h new = (new_begun topic t.topic first ts h.0 (λ e. new.0 (sym e)), own_topics_begun topic first ts h.1 new.1)

pub settled_begun : (bound : ℕ) (topic : Topic) (first : ℕ) (tracks : List Track) → AreSettled bound tracks → bound ≤ first → AreSettled bound (tracks ++ begun topic first ∷ [])
settled_begun bound topic first [] h le = (omega arith, tt)
settled_begun bound topic first (t ∷ ts) h le = (h.0, settled_begun bound topic first ts h.1 le)

pub closed_begun : (topic : Topic) (first : ℕ) (tracks : List Track) (row : Row) → IsClosed tracks row → IsClosed (tracks ++ begun topic first ∷ []) row
closed_begun topic first [] row h = absurd h
closed_begun topic first (t ∷ ts) row (inl h) = inl h
closed_begun topic first (t ∷ ts) row (inr h) = inr (closed_begun topic first ts row h)

pub closed_unbegun : (topic : Topic) (first : ℕ) (tracks : List Track) (row : Row) → IsClosed (tracks ++ begun topic first ∷ []) row → IsClosed tracks row
closed_unbegun topic first [] row (inl ((from, to, r), lt)) = let w = r.stretch.within in absurd (omega arith)
closed_unbegun topic first [] row (inr h) = h
closed_unbegun topic first (t ∷ ts) row (inl h) = inl h
closed_unbegun topic first (t ∷ ts) row (inr h) = inr (closed_unbegun topic first ts row h)

pub settled_by_reach : (k reach : ℕ) (tracks : List Track) → AllByRecursion (λ track. k ≤ next_step track + reach) tracks → AreSettled (k - (reach + 1)) tracks
settled_by_reach k reach [] h = tt
settled_by_reach k reach (t ∷ ts) h = let le = h.0 in (omega arith, settled_by_reach k reach ts h.1)
