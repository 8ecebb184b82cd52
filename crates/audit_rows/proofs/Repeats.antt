-- A mark that repeats the last one of its track leaves a queue unchanged, unless it marks an engagement.
use Rattle.std.proofs.Common.{◌≡◌, ℕ, ◌-◌, List, [], ◌∷◌, ◌++◌, length, refl, sym, ap, subst, ◌∙◌, arith, Some, None}
use Rattle.std.specs.Prelude.{Option}
use Rattle.std.specs.List.{AllZip, slice_get}
use Rattle.audit_rows.specs.declared.lane.Lane.{Lane}
use Rattle.audit_rows.specs.declared.mark.Mark.{Mark}
use Rattle.audit_rows.specs.declared.row.Row.{Row}
use Rattle.audit_rows.specs.declared.row_queue.RowQueue.{RowQueue}
use Rattle.audit_rows.specs.declared.stretch.Opened.{Opened}
use Rattle.audit_rows.specs.Inner.Closed.{Closes}
use Rattle.audit_rows.specs.Inner.Lanes.{Stands}
use Rattle.audit_rows.specs.Inner.Sorts.{sort_of}
use Rattle.audit_rows.specs.Rows.{TellsOf}
use Rattle.audit_rows.specs.Standing.{Holds, QueueStandsFor}
use Rattle.audit_rows.specs.Stretches.{mark_at}
use Rattle.audit_rows.specs.Tracks.{Repeats, Track, longer, marked}
use Rattle.audit_rows.proofs.Closing.{latest_of, none_yet, stands_still, stays}
use Rattle.audit_rows.proofs.Queues.{quiet}

-- The lane stands for the track with the mark too.
still_there : (lane : Lane) (track : Track) (mark : Mark) → Repeats track mark → Stands lane track → Stands lane (longer track mark)
still_there lane track mark r h = by lane.latest refl
  where
    by : (o : Option Opened) → lane.latest ≡ o → Stands lane (longer track mark)
    by None e = let some = r.some in let none = ap length (none_yet lane track h e) in absurd (omega arith)
    by (Some opened) e =
        let l = latest_of lane track opened h e in
        let some = r.some in
        let within = l.ends.within in
        stands_still lane track mark opened h e (sym (l.ends.each (length track.marks - 1) (omega arith) (omega arith)) ∙ ap sort_of r.same) r.quiet

zip_still : (lanes : List Lane) (before after : List Track) (track : Track) (mark : Mark) → Repeats track mark → AllZip Stands lanes (before ++ track ∷ after)
    → AllZip Stands lanes (before ++ longer track mark ∷ after)
zip_still [] [] after track mark r z = absurd z
zip_still [] (t ∷ ts) after track mark r z = absurd z
zip_still (l ∷ ls) [] after track mark r z = (still_there l track mark r z.0, z.1)
zip_still (l ∷ ls) (t ∷ ts) after track mark r z = (z.0, zip_still ls ts after track mark r z.1)

closes_none : (track : Track) (mark : Mark) → Repeats track mark → Closes track mark None
closes_none track mark r = stays track mark (λ row (from, to, t) end other.
    let some = r.some in
    let last = t.last in
    let at_last : to ≡ length track.marks - 1 = omega arith in
    other (subst (TellsOf row) (ap (mark_at track.marks) at_last ∙ r.same) (t.stretch.each to t.stretch.ordered (omega arith))))

there : (before after : List Track) (track : Track) → slice_get (before ++ track ∷ after) (length before) ≡ Some track
there [] after track = refl
there (t ∷ ts) after track = there ts after track

pub marked_there : (before after : List Track) (track : Track) (mark : Mark) → marked (before ++ track ∷ after) (length before) mark ≡ before ++ longer track mark ∷ after
marked_there [] after track mark = refl
marked_there (t ∷ ts) after track mark = ap (λ (us : List Track). t ∷ us) (marked_there ts after track mark)

-- The queue stands for the tracks with the mark too.
pub repeated : (queue : RowQueue) (before after : List Track) (track : Track) (mark : Mark) (bound : ℕ) (given : List Row) → Repeats track mark
    → QueueStandsFor queue (before ++ track ∷ after) bound given → QueueStandsFor queue (before ++ longer track mark ∷ after) bound given
repeated queue before after track mark bound given r h = record {
  lanes = zip_still queue.lanes.items before after track mark r h.lanes;
  holds = subst (λ (ts : List Track). Holds queue.pending.entries ts bound given) (marked_there before after track mark)
      (quiet queue.pending.entries (before ++ track ∷ after) bound given (length before) mark track None h.holds (there before after track) (closes_none track mark r) refl);
}
