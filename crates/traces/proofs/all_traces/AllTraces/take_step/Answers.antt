use Rattle.std.proofs.Common.{◌≡◌, ℕ, List, ◌∷◌, ◌++◌, length-set, refl, sym, ap, ap₂, ◌∙◌, arith}
use Rattle.std.specs.Option.{option_copied}
use Rattle.meetings.specs.Answers.{answer_of}
use Rattle.ranks.specs.declared.rank.Rank.{Rank}
use Rattle.traces.specs.Audited.{AuditNumbers, SeenVessels, Sighting, sighting_at}
use Rattle.traces.specs.Inner.TracesKept.{IsTakenFrom}
use Rattle.traces.specs.Known.{IsUpTo, Known, watched}
use Rattle.traces.specs.Standing.{StandsFor}
use Rattle.traces.specs.declared.all_traces.AllTraces.{AllTraces}
use Rattle.traces.proofs.Drifting.{far_at, far_set}
use Rattle.traces.proofs.Growing.{follows_at, trace_changed}
use Rattle.traces.proofs.all_traces.AllTraces.take_step.Goals as goal

abbrev sighting_of : SeenVessels → List Rank → Sighting
sighting_of vessels ranks = record { vessels = vessels; ranks = ranks }

-- The step is from the latest tick.
taken_from : (kept : AllTraces) (numbers : AuditNumbers) (ticks : List Sighting) (known : Known) (knowns : List Known) (vessels : SeenVessels) (ranks : List Rank)
    → StandsFor kept numbers ticks knowns → IsUpTo ticks known → vessels ≡ kept.latest.items → ranks ≡ kept.ranks.items → IsTakenFrom ticks known vessels ranks
taken_from kept numbers ticks known knowns vessels ranks s up seen told =
    ap (λ (k : ℕ). sighting_at ticks k) up ∙ sym s.latest
    ∙ ap₂ (λ (vs : SeenVessels) (rs : List Rank). sighting_of vs rs) (sym seen) (sym told)

pub returns-clause-sound : goal.returns-clause-sound
returns-clause-sound c =
    let kept = c.args.self.now in
    let sound = c.requires.sound in
    let count = length-set kept.traces.items c.args.index c.take_step.new.self in
    record {
      detect = sound.detect;
      window = sound.window;
      given = sound.given;
      ascending = sound.ascending;
      placed = sound.placed;
      few = omega (arith, count, sound.few);
      drift = sound.drift;
      far = far_set kept.detect.watch kept.drift kept.latest.items c.deref.result.now kept.traces.items c.args.index c.deref.ensures.value sound.far
          c.take_step.new.self (c.take_step.ensures.far kept.detect.watch kept.drift c.deref.result.now
          (far_at kept.detect.watch kept.drift kept.latest.items c.deref.result.now kept.traces.items c.args.index c.deref.ensures.value sound.far
          c.index_mut.result.now c.index_mut.ensures.value c.requires.within));
    }

pub returns-clause-row : goal.returns-clause-row
returns-clause-row c = λ numbers ticks front known back s at short up.
    c.take_step.ensures.row numbers ticks known
    (follows_at numbers ticks c.args.self.now.traces.items front known back c.args.index c.index_mut.result.now c.index_mut.ensures.value at s.holds.traces) short
    (taken_from c.args.self.now numbers ticks known (front ++ known ∷ back) c.deref.result.now c.deref-2.result.now s up c.deref.ensures.value c.deref-2.ensures.value)

pub returns-clause-stands : goal.returns-clause-stands
returns-clause-stands c = λ numbers ticks front known back s at short up.
    let f = follows_at numbers ticks c.args.self.now.traces.items front known back c.args.index c.index_mut.result.now c.index_mut.ensures.value at s.holds.traces in
    let (traces, pairs) = trace_changed c.args.self.now numbers ticks front back known (watched known (option_copied c.args.step) (answer_of c.take_step.result)) c.args.index c.take_step.new.self
    refl at s.holds (c.take_step.ensures.follows numbers ticks known f short
    (taken_from c.args.self.now numbers ticks known (front ++ known ∷ back) c.deref.result.now c.deref-2.result.now s up c.deref.ensures.value c.deref-2.ensures.value)) in
    record {
      last_tick = s.last_tick;
      subjects = s.subjects;
      count = s.count;
      latest = s.latest;
      holds = record {
        detect = s.holds.detect;
        act = s.holds.act;
        tick = s.holds.tick;
        traces = traces;
        pairs = pairs;
      };
    }
