use Rattle.std.proofs.Common.{◌≡◌, ℕ, ◌+◌, ◌-◌, ◌*◌, ◌<◌, ◌≤◌, List, length, refl, sym, ap, ap₂, ◌∙◌, subst, arith}
use Rattle.std.proofs.lemmas.List.{get_or_default}
use Rattle.fixed_geometry.specs.Sizes.{IsWithin}
use Rattle.fixed_geometry.specs.declared.point.Point.{Point}
use Rattle.motion.specs.Displacement.{displacement}
use Rattle.motion.specs.declared.leg.TickState.{TickState}
use Rattle.predictions.specs.declared.changes.Change.{Change}
use Rattle.tracks.specs.declared.accepted.Accepted.{Accepted}
use Rattle.plan_situations.specs.Inner.Runs.{HasGone}
use Rattle.plan_situations.specs.Prediction.{motion_at, point_after, predicted_state}
use Rattle.plan_situations.specs.declared.prediction.Motion.{Motion}
use Rattle.plan_situations.specs.declared.prediction.Run.{Run}
use Rattle.plan_situations.proofs.SecondBySecond.{begun, moved, motion_there, near, past_one, slow, still_near, there}
use Rattle.plan_situations.proofs.prediction.predicted.Goals as goal

wider : (size : ℕ) (p : Point) → size ≤ 7900640400 → IsWithin size p → IsWithin 7900640400 p
wider size p le h = let x = h.x in let y = h.y in record { x = omega arith; y = omega arith }

pub loop-change-init : goal.loop-change-init
loop-change-init c =
    begun c.args.last.now c.args.changes.now c.args.now c.args.time c.requires.changes _ refl refl c.reported_motion.ensures.value c.requires.from c.requires.before c.reported_motion.ensures.motion

pub past_change-run-requires-clause-near : goal.past_change-run-requires-clause-near
past_change-run-requires-clause-near c =
    let not_past = c.loop-change.invariant.not_past in
    let to = c.requires.to in
    wider _ _ (omega arith) (still_near c.args.last.now c.args.changes.now c.args.now c.args.time c.requires.changes c.loop-change.change-index c.loop-change.run c.loop-change.invariant 2222400000 c.requires.accepted.point)

pub loop-change-preserved : goal.loop-change-preserved
loop-change-preserved c =
    past_one c.args.last.now c.args.changes.now c.args.now c.args.time c.requires.changes c.loop-change.change-index c.loop-change.run c.loop-change.invariant
    _ c.past_change-run.result c.loop-change-test.true (get_or_default c.args.changes.now c.loop-change.change-index _ _ c.loop-change-test.true) c.past_change-run.ensures.since c.past_change-run.ensures.point c.past_change-run.ensures.come c.past_change-run.ensures.to_come c.past_change-run.ensures.motion

pub on_to-requires-clause-near : goal.on_to-requires-clause-near
on_to-requires-clause-near c =
    let not_past = c.loop-change.invariant.not_past in
    let to = c.requires.to in
    wider _ _ (omega arith) (still_near c.args.last.now c.args.changes.now c.args.now c.args.time c.requires.changes c.loop-change.change-index c.loop-change.run c.loop-change.invariant 2222400000 c.requires.accepted.point)

at_end : (last : Accepted) (changes : List Change) (now time i : ℕ) (run : Run) → length changes ≤ i → i ≤ length changes → HasGone last changes now time i run
    → HasGone last changes now time (length changes) run
at_end last changes now time i run le ge h = let e : i ≡ length changes = omega arith in subst (λ (k : ℕ). HasGone last changes now time k run) e h

is_there : (last : Accepted) (changes : List Change) (now time : ℕ) (run : Run) (p : Point) → p ≡ point_after last changes now (time - last.time) → motion_at last changes now time ≡ run.motion
    → ◌≡◌ {A = TickState} (record { point = p; direction = run.motion.direction; speed = run.motion.speed }) (predicted_state last changes now time)
unfolding predicted_state
is_there last changes now time run p e f = ap₂ (λ (q : Point) (m : Motion). let s : TickState = record { point = q; direction = m.direction; speed = m.speed } in s) e (sym f)

is_near : (last : Accepted) (time : ℕ) (p : Point) → time ≤ last.time + 10800 → IsWithin (2222400000 + (time - last.time) * 525763) p → IsWithin 7900640400 p
is_near last time p to h = wider _ p (omega arith) h

from_earlier : (last : Accepted) (changes : List Change) (now time : ℕ) (p : Point) → p ≡ point_after last changes now (time - last.time)
    → ((s : ℕ) → last.time ≤ s → s < time → IsWithin 525763 (motion_at last changes now s).velocity)
    → (earlier : ℕ) → last.time ≤ earlier → earlier ≤ time → IsWithin ((time - earlier) * 525763) (displacement (point_after last changes now (earlier - last.time)) p)
from_earlier last changes now time p e slow earlier low high =
    let whole : (earlier - last.time) + (time - earlier) ≡ time - last.time = omega arith in
    let far = moved last changes now (earlier - last.time) (time - earlier) (λ k l h. slow (last.time + k) (omega arith) (omega arith)) in
    subst (λ (q : Point). IsWithin ((time - earlier) * 525763) (displacement (point_after last changes now (earlier - last.time)) q)) (ap (point_after last changes now) whole ∙ sym e) far

pub returns-clause-value : goal.returns-clause-value
returns-clause-value c =
    let gone = at_end c.args.last.now c.args.changes.now c.args.now c.args.time c.loop-change.change-index c.loop-change.run c.loop-change-test.false c.loop-change.auto.change-index-end c.loop-change.invariant in
    is_there c.args.last.now c.args.changes.now c.args.now c.args.time c.loop-change.run c.on_to.result
    (there c.args.last.now c.args.changes.now c.args.now c.args.time c.requires.changes c.loop-change.run gone c.on_to.result c.on_to.ensures)
    (motion_there c.args.last.now c.args.changes.now c.args.now c.args.time c.requires.changes c.loop-change.run gone)

pub returns-clause-state : goal.returns-clause-state
returns-clause-state c =
    let gone = at_end c.args.last.now c.args.changes.now c.args.now c.args.time c.loop-change.change-index c.loop-change.run c.loop-change-test.false c.loop-change.auto.change-index-end c.loop-change.invariant in
    let from = c.requires.from in
    let at : c.on_to.result ≡ point_after c.args.last.now c.args.changes.now c.args.now (c.args.time - c.args.last.now.time) =
    there c.args.last.now c.args.changes.now c.args.now c.args.time c.requires.changes c.loop-change.run gone c.on_to.result c.on_to.ensures in
    record {
      point = is_near c.args.last.now c.args.time c.on_to.result c.requires.to
          (subst (IsWithin (2222400000 + (c.args.time - c.args.last.now.time) * 525763)) (sym at)
          (near c.args.last.now c.args.changes.now c.args.now (c.args.time - c.args.last.now.time) 2222400000 c.requires.accepted.point
          (λ k lt. slow c.args.last.now c.args.changes.now c.args.now c.args.time c.requires.changes c.loop-change.run gone (c.args.last.now.time + k) (omega arith) (omega arith))));
      direction = c.loop-change.invariant.is_motion.below;
      speed = c.loop-change.invariant.is_motion.limited;
    }

pub returns-clause-moves : goal.returns-clause-moves
unfolding predicted_state
returns-clause-moves c =
    let gone = at_end c.args.last.now c.args.changes.now c.args.now c.args.time c.loop-change.change-index c.loop-change.run c.loop-change-test.false c.loop-change.auto.change-index-end c.loop-change.invariant in
    from_earlier c.args.last.now c.args.changes.now c.args.now c.args.time c.on_to.result
    (there c.args.last.now c.args.changes.now c.args.now c.args.time c.requires.changes c.loop-change.run gone c.on_to.result c.on_to.ensures)
    (slow c.args.last.now c.args.changes.now c.args.now c.args.time c.requires.changes c.loop-change.run gone)
