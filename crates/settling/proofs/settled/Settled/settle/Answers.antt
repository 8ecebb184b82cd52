use Rattle.std.proofs.Common.{arith, ◌≡◌, ◌+◌, ◌++◌, Err, refl, sym, ap, subst, ◌∙◌}
use Rattle.log_lines.specs.SentLines.{sent}
use Rattle.log_lines.specs.Standing.{keeping_of}
use Rattle.outside.proofs.ForCallers.{same_fault}
use Rattle.settled_ticks.specs.Sightings.{seen_first}
use Rattle.settled_ticks.specs.Standing.{RemembersTicks, handed_out}
use Rattle.settled_ticks.specs.declared.settled_ticks.SettledTicks.{SettledTicks}
use Rattle.settled_ticks.proofs.ForCallers.{remembers_next}
use Rattle.settling.specs.Inner.TakenTicks.{HasTakenSettled}
use Rattle.settling.specs.ScenarioAudit.{audit_numbers}
use Rattle.settling.proofs.TakenTicks.{many_now, more_then, moves_now, settled_below, settling_from, settling_on, sighting_given, stands_then}
use Rattle.settling.proofs.settled.Settled.settle.Goals as goal
use Rattle.traces.specs.Audited.{MoveLittle}
use Rattle.traces.specs.declared.fault.TickFault.{TickFault}
use Rattle.traces.specs.declared.fault.TickFault.TheVariants as fault_kind

pub loop-items-init : goal.loop-items-init
loop-items-init g c = record {
  up = λ lines more given stands judged.
      settling_from c.args.scenario.now (g.T.TickTaker.taker c.args.self.now.taker) c.args.self.now.ticks lines more given
      c.new-items.result.items c.new-items.ensures.items stands;
  further = omega arith;
}

pub next-requires-clause-remembers : goal.next-requires-clause-remembers
next-requires-clause-remembers g c =
    remembers_next (keeping_of c.args.judge.now) c.args.scenario.now _ _ c.loop-items.invariant.further c.requires.remembers

pub next-requires-clause-judged : goal.next-requires-clause-judged
next-requires-clause-judged g c = let log = c.requires.one_log in record { lines = log.lines ++ log.more; judged = log.judged }

pub take_tick-requires-clause-sound : goal.take_tick-requires-clause-sound
take_tick-requires-clause-sound g c =
    let log = c.requires.one_log in
    (c.loop-items.invariant.up log.lines log.more log.given log.stands log.judged).taken.sound

pub take_tick-requires-clause-moves : goal.take_tick-requires-clause-moves
take_tick-requires-clause-moves g c =
    let log = c.requires.one_log in
    let taker = g.T.TickTaker.taker c.loop-items.self.taker in
    let up = c.loop-items.invariant.up log.lines log.more log.given log.stands log.judged in
    subst (MoveLittle taker.latest) (sym c.seen.ensures)
    (moves_now c.args.scenario.now c.loop-items.self.ticks c.next.new.self c.args.judge.now (c.in_ok-next.ensures.handed c.if-branch.true)
    taker (log.lines ++ log.more) (log.given ++ c.loop-items.items.items) log.judged up.taken)

pub take_tick-requires-clause-more : goal.take_tick-requires-clause-more
take_tick-requires-clause-more g c =
    let log = c.requires.one_log in
    more_then c.args.scenario.now c.loop-items.self.ticks c.next.new.self c.args.judge.now (c.in_ok-next.ensures.handed c.if-branch.true)
    (g.T.TickTaker.taker c.loop-items.self.taker) (log.lines ++ log.more) (log.given ++ c.loop-items.items.items)
    (c.loop-items.invariant.up log.lines log.more log.given log.stands log.judged).taken

pub returns-in_err-further-clause-many : goal.returns-in_err-further-clause-many
returns-in_err-further-clause-many g c = λ told lines more given stands judged.
    let scenario = c.args.scenario.now in
    let next = handed_out c.loop-items.self.ticks in
    let residual = c.from_residual-in_err-further in
    let fault = sym (same_fault residual.result _ _ residual.ensures.1 told) in
    let err : c.take_tick.result ≡ Err fault_kind.TooManyPairs = c.in_err-further.was ∙ ap (λ (e : TickFault). Err e) fault in
    let up = c.loop-items.invariant.up lines more given stands judged in
    let handed = c.in_ok-next.ensures.handed c.if-branch.true in
    record {
      count = next + 1;
      settled = settled_below scenario (lines ++ more) next (next + 1) refl up.settled
          (c.in_ok-next.ensures.settled c.if-branch.true (lines ++ more) judged);
      many = many_now scenario (lines ++ more) next _
          (sighting_given c.next.new.self c.seen.result.now c.ranks.result.now c.seen.ensures c.ranks.ensures ∙ handed.seen (lines ++ more) judged)
          (c.take_tick.ensures.many err (audit_numbers scenario) (seen_first scenario (sent scenario (lines ++ more)) next)
          (given ++ c.loop-items.items.items) up.taken.stands);
    }

pub loop-items-preserved : goal.loop-items-preserved
loop-items-preserved g c = record {
  up = λ lines more given stands judged.
      settling_on c.args.scenario.now (g.T.TickTaker.taker c.loop-items.self.taker) c.loop-items.self.ticks
      (g.T.TickTaker.taker c.take_tick.new.self) c.next.new.self c.args.judge.now
      (record { vessels = c.seen.result.now; ranks = c.ranks.result.now }) (lines ++ more) given c.loop-items.items.items
      c.in_ok-further.further.items c.add.new.items.items c.in_ok-further.ensures.takes
      (sighting_given c.next.new.self c.seen.result.now c.ranks.result.now c.seen.ensures c.ranks.ensures) c.in_ok-add.ensures
      (c.in_ok-next.ensures.handed c.if-branch.true) judged
      (c.in_ok-next.ensures.settled c.if-branch.true (lines ++ more) judged) (c.loop-items.invariant.up lines more given stands judged);
  further = let before = c.loop-items.invariant.further in let next = (c.in_ok-next.ensures.handed c.if-branch.true).next in omega arith;
}

pub returns-clause-stands : goal.returns-clause-stands
returns-clause-stands g c = λ lines more given stands judged.
    let taker = g.T.TickTaker.taker c.loop-items.self.taker in
    subst (λ (ticks : SettledTicks). HasTakenSettled taker ticks c.args.scenario.now (lines ++ more) (given ++ c.loop-items.items.items))
    (sym (c.in_ok-next.ensures.same c.if-branch.false))
    (stands_then c.args.scenario.now taker c.loop-items.self.ticks (lines ++ more) (given ++ c.loop-items.items.items)
    (c.loop-items.invariant.up lines more given stands judged) (c.in_ok-next.ensures.open c.if-branch.false (lines ++ more) judged))

pub returns-clause-remembers : goal.returns-clause-remembers
returns-clause-remembers g c =
    subst (λ (ticks : SettledTicks). RemembersTicks (keeping_of c.args.judge.now) c.args.scenario.now (handed_out ticks))
    (sym (c.in_ok-next.ensures.same c.if-branch.false))
    (remembers_next (keeping_of c.args.judge.now) c.args.scenario.now _ _ c.loop-items.invariant.further c.requires.remembers)
