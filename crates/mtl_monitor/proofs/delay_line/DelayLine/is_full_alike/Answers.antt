use Rattle.std.proofs.Common.{◌≡◌, ◌∙◌, sym, true}
use Rattle.mtl_monitor.specs.Inner.Runs.{IsFullOf}
use Rattle.mtl_monitor.specs.Inner.Steps.{same_verdict}
use Rattle.mtl_monitor.proofs.Runs.{equal_delays}
use Rattle.mtl_monitor.proofs.delay_line.DelayLine.is_full_alike.Goals as goal

pub returns-in-Some-Some : goal.returns-in-Some-Some
returns-in-Some-Some c = λ alike room.
    let mine = c.self.inside.place.value in
    let other = c.other.inside.place.value in
    let full : IsFullOf mine c.in-Some-Some.value = rw c.in-Some-Some.is-0 at c.self.invariant.1 in
    let filled : IsFullOf other c.in-Some-Some.other = rw c.in-Some-Some.is-1 at c.other.invariant.1 in
    let cells : mine.ring.capacity ≡ other.ring.capacity = rw (c.self.view_is, c.other.view_is) room in
    let same : same_verdict mine.run.value other.run.value ≡ true = rw (full.1, filled.1) (sym c.is_same.ensures ∙ alike) in
    sym c.self.view_is ∙ (equal_delays mine.ring other.ring mine.run other.run c.self.invariant.0 c.other.invariant.0 cells full.0 filled.0 same ∙ c.other.view_is)
