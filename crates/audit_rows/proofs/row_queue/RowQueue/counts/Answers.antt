use Rattle.std.proofs.Common.{length, sym, ap, subst, arith, ltb-true, ltb-false, Some}
use Rattle.std.specs.Prelude.{Option}
use Rattle.audit_rows.specs.MarkCounts.{IsCountOf}
use Rattle.audit_rows.specs.Tracks.{Track}
use Rattle.audit_rows.proofs.Ending.{as_many, end_there}
use Rattle.audit_rows.proofs.Tracks.{none_there, stands_at}
use Rattle.audit_rows.proofs.row_queue.RowQueue.counts.Goals as goal

pub returns-in_err-lane : goal.returns-in_err-lane
returns-in_err-lane c = λ tracks bound given h end.
    let past = ltb-false _ _ (sym c.in_err-lane.ensures.lookup.0) in
    let same = ap length c.deref.ensures.value in
    let many = as_many c.args.self.now.lanes.items tracks h.lanes in
    subst (λ (o : Option Track). IsCountOf c.from_residual.result o) (sym (none_there tracks c.args.index (omega arith))) c.from_residual.ensures

pub returns : goal.returns
returns c = λ tracks bound given h end.
    let lanes = c.args.self.now.lanes.items in
    let lane = c.in_ok-lane.lane.now in
    let inside = ltb-true _ _ (sym c.in_ok-lane.ensures.lookup.0) in
    let same = ap length c.deref.ensures.value in
    let read = rw c.deref.ensures.value at c.in_ok-lane.ensures.lookup.1 in
    let at = stands_at lanes tracks c.args.index lane h.lanes (omega arith) (sym read) in
    subst (λ (o : Option Track). IsCountOf (Some (c.topic.result, c.counts.result)) o) (sym at.at)
    (c.topic.ensures at.track at.stands, c.counts.ensures at.track at.stands (end_there tracks c.args.index at.track c.args.end end at.at))
