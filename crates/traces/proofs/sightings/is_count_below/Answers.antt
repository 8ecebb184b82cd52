use Rattle.std.proofs.Common.{leb-true, leb-false, arith}
use Rattle.traces.proofs.SeenVessels.{parted}
use Rattle.traces.proofs.sightings.is_count_below.Goals.{then-count-gt0, else-count-gt0}
use Rattle.traces.proofs.sightings.is_count_below.Goals as goal

pub returns-then-count-seen : goal.returns-then-count-seen
returns-then-count-seen c = λ yes.
    parted c.args.mmsi c.args.seen.now c.args.count _ c.requires c.if-seen-count.false
    (λ some. elim c.if-count-gt0.branch [
      | then-count-gt0 w ↦ leb-false _ _ (rw w.value-is at c.if-mmsi-seen.false)
      | else-count-gt0 w ↦ absurd (omega (arith, some, w.if-count-gt0.false))
    ])
    (λ more. absurd (omega (arith, more, c.if-count-seen.true)))

pub returns-else-count-seen : goal.returns-else-count-seen
returns-else-count-seen c = λ yes.
    parted c.args.mmsi c.args.seen.now c.args.count _ c.requires c.if-seen-count.false
    (λ some. elim c.if-count-gt0.branch [
      | then-count-gt0 w ↦ leb-false _ _ (rw w.value-is at c.if-mmsi-seen.false)
      | else-count-gt0 w ↦ absurd (omega (arith, some, w.if-count-gt0.false))
    ])
    (λ more. leb-true _ _ yes)
