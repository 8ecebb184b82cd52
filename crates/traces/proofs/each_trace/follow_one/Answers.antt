use Rattle.std.proofs.Common.{refl, subst}
use Rattle.traces.specs.Window.{TakesStep}
use Rattle.traces.proofs.UnderWay.{gives_row, takes_row}
use Rattle.traces.proofs.each_trace.follow_one.Goals as goal

pub returns-then-rests-clause-goes_on : goal.returns-then-rests-clause-goes_on
returns-then-rests-clause-goes_on g c = record { sound = c.requires.goes_on; ready = λ kept ready. ready; steps = λ kept. refl }

pub returns-then-rests-clause-takes : goal.returns-then-rests-clause-takes
returns-then-rests-clause-takes g c = λ numbers ticks front known back stands at short up here.
    c.rests.ensures.rests c.if-rests.true numbers ticks front known back stands at short here

pub returns-clause-takes : goal.returns-clause-takes
returns-clause-takes g c = λ numbers ticks front known back stands at short up here.
    let found = c.next_step-next_step.ensures in
    let taken = c.take_step-row.ensures in
    let old = g.K.TraceKeeper.keeper c.args.keeper.now in
    let new = g.K.TraceKeeper.keeper c.step.new.self in
    subst (λ (was : g.row.K-Kept.Denot). TakesStep old new numbers ticks c.args.seen.now c.args.step c.take_step-row.new.self c.args.index was c.step.new.kept front known back)
    (c.rests.ensures.stays c.if-rests.false)
    (takes_row numbers ticks c.args.seen.now c.args.step c.take_step-row.new.self c.args.index c.rests.new.one c.step.new.kept front known back at here old new _ c.in_ok-step.ensures
    (gives_row numbers ticks c.args.seen.now c.rests.new.traces c.next_step-next_step.new.self c.take_step-row.new.self c.args.index
    c.next_step-next_step.result _ c.as_ref-pair_step.ensures.value c.state-was.ensures found.step found.stands taken.row taken.stands c.state-is.ensures
    front known back (c.rests.ensures.stands numbers ticks front known back stands at) at short up))
