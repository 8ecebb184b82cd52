use Rattle.std.proofs.Common.{◌<◌, List, sym, subst, rules}
use Rattle.audit_rows.specs.declared.row.Row.{Row}
use Rattle.audit_rows.specs.Inner.Queues.{IsPopping}
use Rattle.audit_rows.proofs.Popping.{nothing_popped, one_popped, all_popped, enough_popped, first_place}
use Rattle.audit_rows.proofs.row_queue.pop_below.Goals as goal
use Rattle.audit_rows.proofs.row_queue.pop_below.Goals.{in-Some+then-bound-place, in_default}

pub loop-place-init : goal.loop-place-init
loop-place-init c = λ placed. rw c.new-rows.ensures.items (nothing_popped _ _ placed)

pub loop-place-preserved-in-Continue-1 : goal.loop-place-preserved-in-Continue-1
loop-place-preserved-in-Continue-1 c = λ placed.
    let old = c.args.pending.now.entries in
    let place = first_place c.loop-place.pending.entries c.pop_first.new.self.entries (c.in-Some-pop_first.field-0-0, c.in-Some-pop_first.row) c.in-Some.place.now c.in-Some.field-0-1.now
    c.in-Some-pop_first.ensures.removal c.in-Some.ensures.first in
    let early : c.in-Some-pop_first.field-0-0.last < c.args.bound = rw place c.if-bound-place.false in
    let so_far = subst (IsPopping c.args.bound old c.loop-place.rows.items) c.in-Some-pop_first.ensures.removal (c.loop-place.invariant placed) in
    subst (λ (rows : List Row). IsPopping c.args.bound old rows c.pop_first.new.self.entries) (sym c.in_ok-push.ensures.items)
    (one_popped c.args.bound old c.loop-place.rows.items (c.in-Some-pop_first.field-0-0, c.in-Some-pop_first.row) c.pop_first.new.self.entries so_far early)

pub returns : goal.returns
returns c = λ placed.
    elim c.match-first_key_value.branch [
      | in-Some+then-bound-place w ↦ enough_popped _ _ _ _ w.in-Some.place.now (c.loop-place.invariant placed) w.if-bound-place.true w.in-Some.ensures.all_from
      | in_default w ↦ all_popped _ _ _ _ (c.loop-place.invariant placed) (search rules)
    ]
