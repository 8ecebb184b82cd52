use Rattle.std.proofs.Common.{length-set, ap, refl, subst, sym, arith}
use Rattle.std.proofs.lemmas.Option.{IfSome_then}
use Rattle.encounters.specs.declared.detect.Detect.{Detect}
use Rattle.traces.specs.Audited.{SeenVessels, step_of}
use Rattle.traces.specs.Inner.Distances.{SeeTheSame}
use Rattle.traces.specs.Inner.TracesKept.{FollowsApart}
use Rattle.traces.specs.Known.{watched}
use Rattle.traces.specs.Standing.{latest_vessels}
use Rattle.traces.proofs.Drifting.{far_at, far_set}
use Rattle.traces.proofs.Growing.{follows_at, trace_changed}
use Rattle.traces.proofs.all_traces.AllTraces.glance.Goals as goal

pub glance-requires-clause-far : goal.glance-requires-clause-far
glance-requires-clause-far c =
    let kept = c.args.self.now in
    far_at kept.detect.watch kept.drift kept.latest.items c.deref.result.now kept.traces.items c.args.index c.deref.ensures.value c.requires.sound.far
    c.index_mut.result.now c.index_mut.ensures.value c.requires.within

pub glance-requires-clause-same : goal.glance-requires-clause-same
glance-requires-clause-same c = λ same.
    subst (λ (before : SeenVessels). SeeTheSame before c.args.seen.now) (sym c.deref.ensures.value) (c.requires.same same)

pub returns-clause-sound : goal.returns-clause-sound
returns-clause-sound c =
    let kept = c.args.self.now in
    let sound = c.requires.sound in
    let count = length-set kept.traces.items c.args.index c.glance.new.self in
    record {
      detect = sound.detect;
      window = sound.window;
      given = sound.given;
      ascending = sound.ascending;
      placed = sound.placed;
      few = omega (arith, count, sound.few);
      drift = sound.drift;
      far = far_set kept.detect.watch kept.drift kept.latest.items c.deref.result.now kept.traces.items c.args.index c.deref.ensures.value sound.far
          c.glance.new.self c.glance.ensures.far;
    }

pub returns-clause-rests : goal.returns-clause-rests
returns-clause-rests c = IfSome_then c.glance.result c.glance.ensures.rests (λ glance rests numbers ticks front known back s at short.
    let kept = c.args.self.now in
    let f = follows_at numbers ticks kept.traces.items front known back c.args.index c.index_mut.result.now c.index_mut.ensures.value at s.holds.traces in
    let seen = step_of known.pair (latest_vessels kept) c.args.seen.now in
    let here : FollowsApart numbers ticks c.glance.new.self known seen glance =
    subst (λ (before : SeenVessels). FollowsApart numbers ticks c.glance.new.self known (step_of known.pair before c.args.seen.now) glance) c.deref.ensures.value
    (rests numbers ticks known f (ap (λ (d : Detect). d.watch) s.holds.detect) short) in
    let (traces, pairs) = trace_changed kept numbers ticks front back known (watched known seen here.answers) c.args.index c.glance.new.self refl at s.holds here.follows in
    record {
      answers = here.answers;
      row = here.row;
      stands = record {
        last_tick = s.last_tick;
        subjects = s.subjects;
        count = s.count;
        latest = s.latest;
        holds = record {
          detect = s.holds.detect;
          act = s.holds.act;
          tick = s.holds.tick;
          traces = traces;
          pairs = pairs;
        };
      };
    })

pub returns-clause-stands : goal.returns-clause-stands
returns-clause-stands c = λ numbers ticks front known back s at.
    let f = follows_at numbers ticks c.args.self.now.traces.items front known back c.args.index c.index_mut.result.now c.index_mut.ensures.value at s.holds.traces in
    let (traces, pairs) = trace_changed c.args.self.now numbers ticks front back known known c.args.index c.glance.new.self refl at s.holds (c.glance.ensures.follows numbers ticks known f) in
    record {
      last_tick = s.last_tick;
      subjects = s.subjects;
      count = s.count;
      latest = s.latest;
      holds = record {
        detect = s.holds.detect;
        act = s.holds.act;
        tick = s.holds.tick;
        traces = traces;
        pairs = pairs;
      };
    }
