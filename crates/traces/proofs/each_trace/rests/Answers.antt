use Rattle.std.proofs.Common.{ap}
use Rattle.traces.specs.Audited.{Sighting, step_of}
use Rattle.traces.specs.Standing.{latest_vessels}
use Rattle.traces.proofs.UnderWay.{takes_none}
use Rattle.traces.proofs.each_trace.rests.Goals as goal

pub returns-in-Some-clause-rests : goal.returns-in-Some-clause-rests
returns-in-Some-clause-rests g c = λ rested numbers ticks front known back stands at short here.
    takes_none numbers ticks c.args.seen.now c.args.step c.glance.new.self c.args.index c.args.one.now c.rest.new.kept front known back at here
    (g.K.TraceKeeper.keeper c.args.keeper.now) c.in-Some.glance (c.rest.ensures.rests rested) (step_of known.pair (latest_vessels c.args.traces.now) c.args.seen.now)
    (ap (λ (s : Sighting). step_of known.pair s.vessels c.args.seen.now) stands.latest) (c.in-Some.ensures.rests numbers ticks front known back stands at short)
