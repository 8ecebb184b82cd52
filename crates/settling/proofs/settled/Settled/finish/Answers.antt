use Rattle.std.proofs.Common.{◌≡◌, ◌++◌, Err, sym, ap, subst, ◌∙◌, arith}
use Rattle.log_lines.specs.SentLines.{sent}
use Rattle.log_lines.specs.Standing.{keeping_of}
use Rattle.outside.proofs.ForCallers.{same_fault}
use Rattle.settled_ticks.specs.Sightings.{seen_first}
use Rattle.settled_ticks.specs.Standing.{handed_out}
use Rattle.settled_ticks.proofs.ForCallers.{remembers_next}
use Rattle.settling.specs.ScenarioAudit.{audit_numbers}
use Rattle.settling.proofs.TakenTicks.{many_at_end, more_then, moves_now, nothing_more, sighting_given, taken_all, taken_on, taken_with_more}
use Rattle.settling.proofs.settled.Settled.finish.Goals as goal
use Rattle.traces.specs.Audited.{MoveLittle}
use Rattle.traces.specs.declared.fault.TickFault.{TickFault}
use Rattle.traces.specs.declared.fault.TickFault.TheVariants as fault_kind

pub loop-rest-init : goal.loop-rest-init
loop-rest-init g c = record {
  up = λ lines more given stands judged.
      let taker = g.T.TickTaker.taker c.args.self.now.taker in
      nothing_more c.args.scenario.now taker c.args.self.now.ticks (lines ++ more) given c.new-rest.result.items c.new-rest.ensures.items
      (taken_with_more c.args.scenario.now taker c.args.self.now.ticks lines more given stands);
  further = omega arith;
}

pub next_at_end-requires-clause-remembers : goal.next_at_end-requires-clause-remembers
next_at_end-requires-clause-remembers g c =
    remembers_next (keeping_of c.args.judge.now) c.args.scenario.now _ _ c.loop-rest.invariant.further c.requires.remembers

pub next_at_end-requires-clause-judged : goal.next_at_end-requires-clause-judged
next_at_end-requires-clause-judged g c = let log = c.requires.one_log in record { lines = log.lines ++ log.more; judged = log.judged }

pub take_tick-requires-clause-sound : goal.take_tick-requires-clause-sound
take_tick-requires-clause-sound g c =
    let log = c.requires.one_log in
    (c.loop-rest.invariant.up log.lines log.more log.given log.stands log.judged).sound

pub take_tick-requires-clause-moves : goal.take_tick-requires-clause-moves
take_tick-requires-clause-moves g c =
    let log = c.requires.one_log in
    let taker = g.T.TickTaker.taker c.loop-rest.self.taker in
    subst (MoveLittle taker.latest) (sym c.seen.ensures)
    (moves_now c.args.scenario.now c.loop-rest.self.ticks c.next_at_end.new.self c.args.judge.now (c.in_ok-next_at_end.ensures.handed c.if-branch.true)
    taker (log.lines ++ log.more) (log.given ++ c.loop-rest.rest.items) log.judged
    (c.loop-rest.invariant.up log.lines log.more log.given log.stands log.judged))

pub take_tick-requires-clause-more : goal.take_tick-requires-clause-more
take_tick-requires-clause-more g c =
    let log = c.requires.one_log in
    more_then c.args.scenario.now c.loop-rest.self.ticks c.next_at_end.new.self c.args.judge.now (c.in_ok-next_at_end.ensures.handed c.if-branch.true)
    (g.T.TickTaker.taker c.loop-rest.self.taker) (log.lines ++ log.more) (log.given ++ c.loop-rest.rest.items)
    (c.loop-rest.invariant.up log.lines log.more log.given log.stands log.judged)

pub returns-in_err-further-clause-many : goal.returns-in_err-further-clause-many
returns-in_err-further-clause-many g c = λ told lines more given stands judged.
    let scenario = c.args.scenario.now in
    let up = c.loop-rest.invariant.up lines more given stands judged in
    let residual = c.from_residual-in_err-further in
    let fault = sym (same_fault residual.result _ _ residual.ensures.1 told) in
    let err : c.take_tick.result ≡ Err fault_kind.TooManyPairs = c.in_err-further.was ∙ ap (λ (e : TickFault). Err e) fault in
    many_at_end scenario c.loop-rest.self.ticks c.next_at_end.new.self c.args.judge.now (c.in_ok-next_at_end.ensures.handed c.if-branch.true) _
    (lines ++ more) judged (sighting_given c.next_at_end.new.self c.seen.result.now c.ranks.result.now c.seen.ensures c.ranks.ensures)
    (c.take_tick.ensures.many err (audit_numbers scenario) (seen_first scenario (sent scenario (lines ++ more)) (handed_out c.loop-rest.self.ticks))
    (given ++ c.loop-rest.rest.items) up.stands)

pub loop-rest-preserved : goal.loop-rest-preserved
loop-rest-preserved g c = record {
  up = λ lines more given stands judged.
      taken_on c.args.scenario.now (g.T.TickTaker.taker c.loop-rest.self.taker) c.loop-rest.self.ticks
      (g.T.TickTaker.taker c.take_tick.new.self) c.next_at_end.new.self c.args.judge.now
      (record { vessels = c.seen.result.now; ranks = c.ranks.result.now }) (lines ++ more) given c.loop-rest.rest.items
      c.in_ok-further.further.items c.add.new.items.items c.in_ok-further.ensures.takes
      (sighting_given c.next_at_end.new.self c.seen.result.now c.ranks.result.now c.seen.ensures c.ranks.ensures) c.in_ok-add.ensures
      (c.in_ok-next_at_end.ensures.handed c.if-branch.true) judged (c.loop-rest.invariant.up lines more given stands judged);
  further = let before = c.loop-rest.invariant.further in let next = (c.in_ok-next_at_end.ensures.handed c.if-branch.true).next in omega arith;
}

pub returns-clause-all : goal.returns-clause-all
returns-clause-all g c = λ lines more given stands judged.
    taken_all c.args.scenario.now (g.T.TickTaker.taker c.loop-rest.self.taker) c.loop-rest.self.ticks (lines ++ more) (given ++ c.loop-rest.rest.items)
    (c.loop-rest.invariant.up lines more given stands judged) (c.in_ok-next_at_end.ensures.all c.if-branch.false)
