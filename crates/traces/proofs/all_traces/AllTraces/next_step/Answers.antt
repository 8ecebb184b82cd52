use Rattle.std.proofs.Common.{◌≡◌, length-set, refl, subst, arith}
use Rattle.traces.specs.Audited.{SeenVessels, step_of}
use Rattle.traces.proofs.Drifting.{far_at, far_set}
use Rattle.traces.proofs.Growing.{follows_at, trace_changed}
use Rattle.traces.proofs.all_traces.AllTraces.next_step.Goals as goal

pub returns-clause-sound : goal.returns-clause-sound
returns-clause-sound c =
    let kept = c.args.self.now in
    let sound = c.requires.sound in
    let count = length-set kept.traces.items c.args.index c.next_step.new.self in
    record {
      detect = sound.detect;
      window = sound.window;
      given = sound.given;
      ascending = sound.ascending;
      placed = sound.placed;
      few = omega (arith, count, sound.few);
      drift = sound.drift;
      far = far_set kept.detect.watch kept.drift kept.latest.items c.deref.result.now kept.traces.items c.args.index c.deref.ensures.value sound.far
          c.next_step.new.self (c.next_step.ensures.far kept.detect.watch kept.drift c.deref.result.now
          (far_at kept.detect.watch kept.drift kept.latest.items c.deref.result.now kept.traces.items c.args.index c.deref.ensures.value sound.far
          c.index_mut.result.now c.index_mut.ensures.value c.requires.within));
    }

pub returns-clause-step : goal.returns-clause-step
returns-clause-step c = λ numbers ticks front known back s at.
    let f = follows_at numbers ticks c.args.self.now.traces.items front known back c.args.index c.index_mut.result.now c.index_mut.ensures.value at s.holds.traces in
    subst (λ (before : SeenVessels). c.next_step.result ≡ step_of known.pair before c.args.seen.now) c.deref.ensures.value
    (c.next_step.ensures.step numbers ticks known f)

pub returns-clause-stands : goal.returns-clause-stands
returns-clause-stands c = λ numbers ticks front known back s at.
    let f = follows_at numbers ticks c.args.self.now.traces.items front known back c.args.index c.index_mut.result.now c.index_mut.ensures.value at s.holds.traces in
    let (traces, pairs) = trace_changed c.args.self.now numbers ticks front back known known c.args.index c.next_step.new.self refl at s.holds (c.next_step.ensures.follows numbers ticks known f) in
    record {
      last_tick = s.last_tick;
      subjects = s.subjects;
      count = s.count;
      latest = s.latest;
      holds = record {
        detect = s.holds.detect;
        act = s.holds.act;
        tick = s.holds.tick;
        traces = traces;
        pairs = pairs;
      };
    }
