-- What the traces of a window stand for: their numbers, the vessels seen at the ticks that were given, and what is known of each.
use Rattle.std.specs.Prelude.{ℕ, ◌≡◌, ◌+◌, ◌*◌, ◌^◌, ◌≤◌, List, ◌∷◌, ◌++◌, length, All, Option}
use Rattle.encounters.specs.Risk.{IsDetect}
use Rattle.encounters.specs.declared.pair_step.PairStep.{PairStep}
use Rattle.mtl_formulas.specs.declared.atom.Atom.{Atom}
use Rattle.mtl_formulas.specs.declared.glance.Glance.{Glance}
use Rattle.mtl_formulas.specs.declared.verdict.Verdict.{Verdict}
use Rattle.traces.specs.Audited.{AreAscending, ArePlaced, AuditNumbers, SeenVessels, Sighting, last_sighting, trace_ranks}
use Rattle.traces.specs.Inner.Distances.{IsFarUntil}
use Rattle.traces.specs.Inner.TracesKept.{Holds}
use Rattle.traces.specs.Keeping.{IsApartRow}
use Rattle.traces.specs.Known.{AreKnown, AreOpened, Known, watched}
use Rattle.traces.specs.declared.all_traces.AllTraces.{AllTraces}
use Rattle.traces.specs.declared.all_traces.TheConstants.{MOST_TRACES}

-- ---- what the traces are asked

-- how many ticks were given, and how many the window has
abbrev pub given_of : AllTraces → ℕ
given_of kept = kept.given

abbrev pub last_tick_of : AllTraces → ℕ
last_tick_of kept = kept.last_tick

-- the vessels seen at the latest tick
abbrev pub latest_vessels : AllTraces → SeenVessels
latest_vessels kept = kept.latest.items

-- with their ranks
abbrev pub latest_sighting : AllTraces → Sighting
latest_sighting kept = record { vessels = kept.latest.items; ranks = kept.ranks.items }

-- how many traces there are
abbrev pub traces_of : AllTraces → ℕ
traces_of kept = length kept.traces.items

-- ---- what each call finds and leaves, whatever they stand for

pub record IsSound (kept : AllTraces) : Type 0 where
  pub detect : IsDetect kept.detect
  pub window : kept.last_tick ≤ 20000
  pub given : kept.given ≤ kept.last_tick + 1
  pub ascending : AreAscending kept.latest.items
  pub placed : ArePlaced kept.latest.items
  pub few : length kept.traces.items ≤ MOST_TRACES
  pub drift : kept.drift ≤ kept.given * 2 ^ 36
  pub far : All (IsFarUntil kept.detect.watch kept.drift kept.latest.items) kept.traces.items

-- ---- what they stand for

-- Traces of these ticks, with this known of each.
pub record StandsFor (kept : AllTraces) (numbers : AuditNumbers) (ticks : List Sighting) (knowns : List Known) : Type 0 where
  pub last_tick : kept.last_tick ≡ numbers.last_tick
  pub subjects : kept.subjects.items ≡ numbers.subjects
  pub count : kept.given ≡ length ticks
  pub latest : latest_sighting kept ≡ last_sighting ticks
  pub holds : Holds kept numbers ticks knowns

-- The trace of these before which so many stand has taken its next step too: the vessels are apart there, as a glance shows.
pub record StandsApart (kept : AllTraces) (numbers : AuditNumbers) (ticks : List Sighting) (front : List Known) (known : Known) (back : List Known) (seen : Option PairStep) (glance : Glance) : Type 0 where
  pub answers : Atom → Verdict
  pub row : IsApartRow numbers (trace_ranks ticks known.pair known.start) known seen glance answers
  pub stands : StandsFor kept numbers ticks (front ++ watched known seen answers ∷ back)

-- Behind the traces that there were stand those that have begun at the latest tick, and they are all traces of these ticks.
pub record HaveBegun (kept : AllTraces) (numbers : AuditNumbers) (ticks : List Sighting) (start : ℕ) (before : List Known) : Type 0 where
  pub new : List Known
  pub opened : AreOpened start new
  pub stands : StandsFor kept numbers ticks (before ++ new)
  pub are_known : AreKnown numbers ticks (before ++ new)
