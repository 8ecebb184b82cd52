-- What a node keeps has the same room from row to row.
use Rattle.std.proofs.Common.{◌≡◌, ℕ, ◌-◌, ◌<◌, refl, ◌∙◌, arith, Bool, true, false, List, length, get_or, set, get_or-set_other, get_or-set_same, inl, inr}
use Rattle.std.specs.Prelude.{nat_lt, if◌then◌else◌}
use Rattle.std.proofs.lemmas.Bool.Decides.{eqb_tells}
use Rattle.std.proofs.lemmas.List.{get_or_default, length-set}
use Rattle.circular_buffer.specs.Buffer.{Buffer, buffer}
use Rattle.mtl_formulas.specs.declared.verdict.Verdict.{Verdict}
use Rattle.mtl_monitor.specs.declared.lookahead.Lookahead.{Lookahead}
use Rattle.mtl_monitor.specs.declared.lookahead.Stretch.{Stretch}
use Rattle.mtl_monitor.specs.declared.node.Operator.{Operator}
use Rattle.mtl_monitor.specs.declared.node.Operator.TheVariants as op
use Rattle.mtl_monitor.specs.declared.node.ProgramNode.{ProgramNode}
use Rattle.mtl_monitor.specs.declared.node.Kept.{Kept}
use Rattle.mtl_monitor.specs.declared.node.Kept.TheVariants as kinds
use Rattle.mtl_monitor.specs.Inner.Lookahead.{nowhere, with_all_after, lookahead_after}
use Rattle.mtl_monitor.specs.Inner.Steps.{value_at, ring_after, kept}
use Rattle.mtl_monitor.specs.Inner.Standing.{node_at, state_at}
use Rattle.mtl_monitor.specs.Inner.Copying.{HasShape, HaveShapes}

ring_room : (test : Bool) (b : Buffer Verdict) (v : Verdict) (cells : ℕ) → b.capacity ≡ cells → (let r : Buffer Verdict = if test then b else ring_after b v in r.capacity) ≡ cells
ring_room true b v cells h = h
ring_room false b v cells h = h

room_with : (test : Bool) (w older : ℕ) (items : List Stretch) (run : Stretch)
    → (let s : Lookahead = if test then record { cells = buffer (with_all_after items) w; older = w; run = nowhere } else record { cells = buffer items w; older = older; run = run } in s.cells.capacity) ≡ w
room_with true w older items run = refl
room_with false w older items run = refl

window_room : (test : Bool) (s : Lookahead) (a b : Verdict) (w : ℕ) → s.cells.capacity ≡ w
    → (let r : Lookahead = if test then s else lookahead_after s a b in r.cells.capacity) ≡ w
window_room true s a b w h = h
window_room false s a b w h = room_with _ s.cells.capacity _ _ _ ∙ h

shape_kept : (o : Operator) (s : Kept) (late : ℕ) (values : List Verdict) (i : ℕ) → HasShape o s → HasShape o (kept o s late values i)
shape_kept (op.Late cells from a) (kinds.Ring d) late values i h = ring_room (nat_lt i from) d.ring (value_at values a) cells h
shape_kept (op.Window kind width from a) (kinds.Window s) late values i h = tt
shape_kept (op.Since width lower from a b) (kinds.Since hits bars) late values i h = tt
shape_kept (op.Until from full lower a behind b) (kinds.Until s) late values i h =
    window_room (nat_lt i from) s.window (value_at values a) (value_at values b) (full - from) h
shape_kept _ _ late values i h = h

pub HaveShapes-next : (nodes : List ProgramNode) (states : List Kept) (k late : ℕ) (values : List Verdict) (i : ℕ) (d s : Kept) → k < length nodes
    → s ≡ kept (node_at nodes k).operator (get_or states k d) late values i → HaveShapes nodes states → HaveShapes nodes (set states k s)
HaveShapes-next nodes states k late values i d s inside is h =
    record { count = length-set states k s ∙ h.count; each = each }
  where
    was : get_or states k d ≡ state_at states k
    was = get_or_default states k d kinds.Plain (omega (arith, h.count))

    here : HasShape (node_at nodes k).operator s
    here = rw (is, was) (shape_kept (node_at nodes k).operator (state_at states k) late values i (h.each k inside))

    each : (j : ℕ) → j < length nodes → HasShape (node_at nodes j).operator (state_at (set states k s) j)
    each j within = elim (eqb_tells j k) [
      | inl equal ↦
          let same : j ≡ k = equal.1 in
          let fits : k < length states = omega (arith, h.count) in
          rw (same, get_or-set_same states k s kinds.Plain fits) here
      | inr other ↦ rw (get_or-set_other states k j s kinds.Plain other.1) (h.each j within)
    ]
