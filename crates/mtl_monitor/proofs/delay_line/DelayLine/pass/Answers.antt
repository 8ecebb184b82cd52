use Rattle.std.proofs.Common.{rules}
use Rattle.std.specs.Prelude.{nat_lt}
use Rattle.mtl_monitor.specs.Inner.Runs.{IsRun}
use Rattle.mtl_monitor.proofs.Runs.{IsRun-from, full_stays}
use Rattle.mtl_monitor.proofs.delay_line.DelayLine.pass.Goals as goal

pub returns-then-holds_only-clause-after : goal.returns-then-holds_only-clause-after
returns-then-holds_only-clause-after c =
    let run : IsRun c.args.self.now.ring c.args.self.now.run = rw (← c.self.view_is) c.self.invariant.0 in
    full_stays c.args.self.now c.args.from c.args.i c.args.value run (c.holds_only.ensures c.if-holds_only.true) (search rules)

pub invariant_of-self : goal.invariant_of-self
invariant_of-self c =
    let before = c.deref_mut-place.result.now in
    let run : IsRun before.ring before.run = rw c.deref_mut-place.ensures.value c.self-2.invariant.0 in (
      rw (c.delay-passed.ensures.ring, c.delay-passed.ensures.run) (IsRun-from (nat_lt c.args.i c.args.from) before.ring before.run c.args.value run),
      rw c.deref.ensures at c.only_value-self-inside.ensures,
    )
