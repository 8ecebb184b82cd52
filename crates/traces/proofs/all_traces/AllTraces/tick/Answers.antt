use Rattle.std.proofs.Common.{◌≡◌, ◌+◌, ◌++◌, ◌∷◌, [], length-append, List, Err, sym, ap, ap₂, subst, ◌∙◌, arith}
use Rattle.std.specs.Prelude.{All}
use Rattle.outside.proofs.ForCallers.{same_fault}
use Rattle.ranks.specs.declared.rank.Rank.{Rank}
use Rattle.traces.specs.Audited.{AreAscending, ArePlaced, SeenVessels, Sighting}
use Rattle.traces.specs.Inner.Distances.{IsDrift, IsFarUntil}
use Rattle.traces.specs.declared.fault.TickFault.{TickFault}
use Rattle.traces.specs.declared.fault.TickFault.TheVariants.{TooManyPairs}
use Rattle.traces.proofs.Drifting.{all_far_after}
use Rattle.traces.proofs.NextTick.{holds_on, known_count_of, known_on, next_tick, no_more}
use Rattle.traces.proofs.Ticks.{last_is}
use Rattle.traces.proofs.all_traces.AllTraces.tick.Goals as goal

abbrev sighting_of : SeenVessels → List Rank → Sighting
sighting_of vessels ranks = record { vessels = vessels; ranks = ranks }

pub returns-in_err-begin-clause-many : goal.returns-in_err-begin-clause-many
returns-in_err-begin-clause-many c = λ fault numbers ticks knowns after are z s.
    let same = same_fault c.from_residual.result c.in_err-begin.field-0.0 TooManyPairs c.from_residual.ensures.1 fault in
    let err : c.begin.result ≡ Err TooManyPairs = c.in_err-begin.was ∙ ap (λ (e : TickFault). Err e) (sym same) in
    c.begin.ensures.many err numbers ticks c.args.ranks.now after (next_tick numbers ticks c.args.self.now after s) (known_on numbers ticks (record { vessels = c.args.seen.now; ranks = c.args.ranks.now }) knowns after are z)
    (holds_on numbers ticks (record { vessels = c.args.seen.now; ranks = c.args.ranks.now }) c.args.self.now after (known_on numbers ticks (record { vessels = c.args.seen.now; ranks = c.args.ranks.now }) knowns after are z) s.holds)

pub returns-clause-sound : goal.returns-clause-sound
returns-clause-sound c =
    let begun = c.begin.new.self in
    let sound = c.in_ok-begin.ensures.sound in
    let same = c.in_ok-begin.ensures.same in
    let seen : c.replace.new.latest.items ≡ c.args.seen.now = c.in_ok-replace.ensures in
    let moves : IsDrift c.drift_between.result begun.latest.items c.args.seen.now =
    subst (λ (before : SeenVessels). IsDrift c.drift_between.result before c.args.seen.now) c.deref.ensures.value c.drift_between.ensures.drift in
    record {
      detect = sound.detect;
      window = sound.window;
      given = omega (arith, same.given, same.last_tick, c.requires.more);
      ascending = subst AreAscending (sym seen) c.requires.ascending;
      placed = subst ArePlaced (sym seen) c.requires.placed;
      few = sound.few;
      drift = omega (arith, sound.drift, c.drift_between.ensures.most);
      far = subst (λ (vessels : SeenVessels). All (IsFarUntil begun.detect.watch (begun.drift + c.drift_between.result) vessels) begun.traces.items) (sym seen)
          (all_far_after begun.detect.watch begun.drift c.drift_between.result begun.latest.items c.args.seen.now begun.traces.items moves sound.far);
    }

pub returns-clause-stands : goal.returns-clause-stands
returns-clause-stands c = λ numbers ticks knowns after are z s.
    let same = c.in_ok-begin.ensures.same in
    let b = c.in_ok-begin.ensures.begun numbers ticks c.args.ranks.now after (next_tick numbers ticks c.args.self.now after s) (known_on numbers ticks (record { vessels = c.args.seen.now; ranks = c.args.ranks.now }) knowns after are z)
    (holds_on numbers ticks (record { vessels = c.args.seen.now; ranks = c.args.ranks.now }) c.args.self.now after (known_on numbers ticks (record { vessels = c.args.seen.now; ranks = c.args.ranks.now }) knowns after are z) s.holds) in
    let counted = length-append ticks ((record { vessels = c.args.seen.now; ranks = c.args.ranks.now }) ∷ []) in
    let count = s.count in
    let given = same.given in
    record {
      new = b.new;
      opened = b.opened;
      stands = record {
        last_tick = same.last_tick ∙ s.last_tick;
        subjects = ap (λ (v : _). v.items) same.subjects ∙ s.subjects;
        count = omega arith;
        latest = ap₂ (λ (vs : SeenVessels) (rs : List Rank). sighting_of vs rs) c.in_ok-replace.ensures c.in_ok-replace-2.ensures ∙ sym (last_is ticks (record { vessels = c.args.seen.now; ranks = c.args.ranks.now }));
        holds = record { detect = b.holds.detect; act = b.holds.act; tick = b.holds.tick; traces = b.holds.traces; pairs = b.holds.pairs };
      };
      are_known = b.are_known;
    }

pub returns-clause-few : goal.returns-clause-few
returns-clause-few c = λ numbers ticks knowns after are z s more.
    let b = c.in_ok-begin.ensures.begun numbers ticks c.args.ranks.now after (next_tick numbers ticks c.args.self.now after s) (known_on numbers ticks (record { vessels = c.args.seen.now; ranks = c.args.ranks.now }) knowns after are z)
    (holds_on numbers ticks (record { vessels = c.args.seen.now; ranks = c.args.ranks.now }) c.args.self.now after (known_on numbers ticks (record { vessels = c.args.seen.now; ranks = c.args.ranks.now }) knowns after are z) s.holds) in
    let count = known_count_of c.begin.new.self numbers (ticks ++ (record { vessels = c.args.seen.now; ranks = c.args.ranks.now }) ∷ []) (after ++ b.new) b.holds in
    let few = c.in_ok-begin.ensures.sound.few in
    no_more numbers (ticks ++ (record { vessels = c.args.seen.now; ranks = c.args.ranks.now }) ∷ []) (after ++ b.new) b.are_known (omega arith) more
