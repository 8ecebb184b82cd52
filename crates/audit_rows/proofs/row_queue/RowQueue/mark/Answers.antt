use Rattle.std.proofs.Common.{◌≡◌, ◌<◌, ◌≤◌, List, length, refl, sym, subst, rules, arith, ℕ}
use Rattle.std.specs.Vec.{vec_len}
use Rattle.audit_rows.specs.declared.sort_key.SortKey.{SortKey}
use Rattle.audit_rows.specs.declared.row.Row.{Row}
use Rattle.audit_rows.specs.Standing.{Holds, QueueStandsFor}
use Rattle.audit_rows.specs.Tracks.{Track, marked}
use Rattle.audit_rows.proofs.Ending.{as_many}
use Rattle.audit_rows.proofs.Pending.{entries_after, keys_in_order}
use Rattle.audit_rows.proofs.Queues.{closing, lanes_marked, next_of, quiet}
use Rattle.audit_rows.proofs.Tracks.{none_marked, stands_at}
use Rattle.audit_rows.proofs.row_queue.RowQueue.mark.Goals as goal

not_below : (m n : ℕ) → (m < n → ⊥) → n ≤ m
not_below m n h = grind arith

pub returns-in_default : goal.returns-in_default
returns-in_default c = λ tracks bound given h next.
    let as_long : vec_len c.args.self.now.lanes ≡ length c.args.self.now.lanes.items = search rules in
    let many = as_many c.args.self.now.lanes.items tracks h.lanes in
    let beyond = not_below c.args.index (vec_len c.args.self.now.lanes) (λ lt. let never = c.in_default.ensures.variant.1 lt in absurd (cc)) in
    subst (λ (ts : List Track). QueueStandsFor c.args.self.now ts bound given) (sym (none_marked tracks c.args.index c.args.mark (omega arith))) h

pub returns-in_default-push : goal.returns-in_default-push
returns-in_default-push c = λ tracks bound given h next.
    let lanes = c.args.self.now.lanes.items in
    let i = c.args.index in
    let lane = c.in-Some.lane.now in
    let as_long : vec_len c.args.self.now.lanes ≡ length lanes = search rules in
    let within = c.in-Some.ensures.variant.0 refl in
    let there : i < length lanes = omega arith in
    let at = stands_at lanes tracks i lane h.lanes there (sym c.in-Some.ensures.value) in
    record {
      lanes = lanes_marked lanes tracks i lane c.push.new.self c.args.step c.args.mark h.lanes there (sym c.in-Some.ensures.value) next c.push.ensures.stands;
      holds = quiet c.args.self.now.pending.entries tracks bound given i c.args.mark at.track c.push.result h.holds at.at (c.push.ensures.closes at.track at.stands (next_of _ at.track c.args.step at.at next)) c.in_default-push.is;
    }

pub returns-in_ok-insert : goal.returns-in_ok-insert
returns-in_ok-insert c = λ tracks bound given h next.
    let lanes = c.args.self.now.lanes.items in
    let i = c.args.index in
    let lane = c.in-Some.lane.now in
    let old = c.args.self.now.pending.entries in
    let row = c.in-Some-push.row in
    let as_long : vec_len c.args.self.now.lanes ≡ length lanes = search rules in
    let within = c.in-Some.ensures.variant.0 refl in
    let there : i < length lanes = omega arith in
    let at = stands_at lanes tracks i lane h.lanes there (sym c.in-Some.ensures.value) in
    let entries = entries_after old _ _ row c.in_ok-insert.ensures.entries c.place.ensures in
    record {
      lanes = lanes_marked lanes tracks i lane c.push.new.self c.args.step c.args.mark h.lanes there (sym c.in-Some.ensures.value) next c.push.ensures.stands;
      holds = subst (λ (es : List (SortKey × Row)). Holds es (marked tracks i c.args.mark) bound given) (sym entries)
          (closing old tracks bound given i c.args.mark at.track c.push.result h.holds at.at (c.push.ensures.closes at.track at.stands (next_of _ at.track c.args.step at.at next)) row c.in-Some-push.is
          (keys_in_order old _ row c.in_ok-insert.ensures.ordered entries));
    }
