use Rattle.std.proofs.Common.{◌∙◌, ◌<◌, ap, ap₂, sym, subst, arith}
use Rattle.std.specs.Option.{option_copied}
use Rattle.meetings.specs.Traces.{IsShortMove}
use Rattle.motion.specs.TickStates.{state_at}
use Rattle.scenario_values.specs.Ticks.{window_end, time_of_tick}
use Rattle.plan_situations.specs.Inner.Facts.{known_at, legs_known}
use Rattle.plan_situations.proofs.Moving.{known_before, none_seen, on_legs}
use Rattle.plan_situations.proofs.track.KnownTrack.at.Goals as goal

pub returns-in-Some-clause-moves : goal.returns-in-Some-clause-moves
returns-in-Some-clause-moves c = λ earlier next.
    let track = c.args.self.now in
    let lt : time_of_tick track.window c.args.tick < track.latest.time = omega (arith, c.if-time-self.false, c.time-time.ensures) in
    let legs = ap (λ o. legs_known (option_copied o)) c.in-Some.is in
    subst (IsShortMove (known_at track earlier)) (sym (c.at.ensures.value ∙ ap₂ state_at c.time-time.ensures (sym legs)))
    (on_legs track c.requires.track earlier c.args.tick next lt)

pub returns-in-None-clause-value : goal.returns-in-None-clause-value
returns-in-None-clause-value c =
    let track = c.args.self.now in
    let lt : time_of_tick track.window c.args.tick < track.latest.time = omega (arith, c.if-time-self.false, c.time-time.ensures) in
    let legs = ap (λ o. legs_known (option_copied o)) c.in-None.is in
    sym (known_before track.latest _ track.changes.now (window_end track.window) (time_of_tick track.window c.args.tick) lt ∙ ap (state_at (time_of_tick track.window c.args.tick)) legs ∙ none_seen _)
