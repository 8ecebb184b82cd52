use Rattle.std.proofs.Common.{ℕ, ◌+◌, arith}
use Rattle.std.specs.Prelude.{None, pos}
use Rattle.std.proofs.lemmas.Int.{ints}
use Rattle.motion.specs.declared.leg.TickState.{TickState}
use Rattle.auditor_rows.proofs.StillVessels.{all_less, still_ascending, still_placed}
use Rattle.auditor_rows.proofs.audits.still.Goals as goal

pub loop-k-preserved : goal.loop-k-preserved
loop-k-preserved c =
    let seen = c.loop-k.seen.items in
    let v : ℕ × TickState = (200000000 + c.loop-k.k, record { point = record { x = pos 0; y = pos 0 }; direction = None; speed = None }) in
    let inv = c.loop-k.invariant in
    record {
      less = rw c.in_ok-push.ensures.items (all_less seen v (200000000 + c.loop-k.k) (200000000 + (c.loop-k.k + 1)) (omega arith) (omega arith) inv.less);
      ascending = rw c.in_ok-push.ensures.items (still_ascending seen v inv.ascending inv.less);
      placed = rw c.in_ok-push.ensures.items (still_placed seen v inv.placed (record { x = omega (arith, ints); y = omega (arith, ints) }, tt));
    }
