-- What is kept of all traces, and how it grows.
use Rattle.std.specs.Prelude.{ℕ, ◌≡◌, ◌≢◌, ◌+◌, ◌≤◌, ◌↔◌, ◌*◌, List, [], ◌∷◌, ◌++◌, length, Option, None, Some, pos, ◌≤ℤ◌}
use Rattle.std.specs.List.{AllPairs, AllZip, Contains}
use Rattle.meetings.specs.Standing as meetings
use Rattle.meetings.specs.Traces.{AreInContact}
use Rattle.meetings.specs.declared.pair.Pair.{Pair}
use Rattle.encounters.specs.declared.pair_step.PairStep.{PairStep}
use Rattle.mtl_formulas.specs.declared.atom.Atom.{Atom}
use Rattle.fixed_geometry.specs.Plane.{norm2_of}
use Rattle.mtl_formulas.specs.declared.glance.Glance.{Glance}
use Rattle.mtl_formulas.specs.declared.glance.Glance.TheVariants.{Apart, Unseen}
use Rattle.mtl_formulas.specs.declared.verdict.Verdict.{Verdict}
use Rattle.traces.specs.Audited.{Begins, IsAudited, AuditNumbers, SeenVessels, Sighting, sighting_at, state_in, terms_of, trace_ranks}
use Rattle.traces.specs.Keeping.{IsApartRow}
use Rattle.traces.specs.Known.{AreKnown, AreOpened, IsKnown, Known, pairs_of, watched}
use Rattle.ranks.specs.declared.rank.Rank.{Rank}
use Rattle.traces.specs.declared.all_traces.AllTraces.{AllTraces}
use Rattle.traces.specs.declared.all_traces.TheConstants.{MOST_TRACES}
use Rattle.traces.specs.declared.followed_trace.FollowedTrace.{FollowedTrace}

-- ---- what it stands for

pub record Follows (numbers : AuditNumbers) (ticks : List Sighting) (trace : FollowedTrace) (known : Known) : Type 0 where
  pub pair : trace.pair ≡ known.pair
  pub start : trace.start ≡ known.start
  pub follows : meetings.FollowsRanked trace.follower (terms_of numbers) (trace_ranks ticks known.pair known.start) known.steps

-- A glance that shows this of the step shows that the vessels stay apart, if they were: they are unseen, or more than `watch` apart.
abbrev pub ShowsApart : ℕ → Option PairStep → Glance → Type 0
ShowsApart watch None glance = glance ≡ Unseen
ShowsApart watch (Some pair) glance = (glance ≡ Apart) × ¬ (norm2_of pair.step.p ≤ℤ pos (watch * watch))

-- It follows its next step too: the vessels are apart there, as a glance shows.
pub record FollowsApart (numbers : AuditNumbers) (ticks : List Sighting) (trace : FollowedTrace) (known : Known) (seen : Option PairStep) (glance : Glance) : Type 0 where
  pub answers : Atom → Verdict
  pub row : IsApartRow numbers (trace_ranks ticks known.pair known.start) known seen glance answers
  pub follows : Follows numbers ticks trace (watched known seen answers)

pub record Holds (kept : AllTraces) (numbers : AuditNumbers) (ticks : List Sighting) (knowns : List Known) : Type 0 where
  pub detect : kept.detect ≡ numbers.detect
  pub act : kept.act ≡ numbers.act
  pub tick : kept.tick ≡ numbers.tick
  pub traces : AllZip (Follows numbers ticks) kept.traces.items knowns
  pub pairs : (pair : Pair) → Contains kept.pairs.keys pair ↔ Contains (pairs_of knowns) pair

-- ---- the step that is taken

-- The next step of the trace is from the tick at which these vessels are seen with these ranks.
abbrev pub IsTakenFrom : List Sighting → Known → SeenVessels → List Rank → Type 0
IsTakenFrom ticks known seen ranks = sighting_at ticks (known.start + length known.steps) ≡ record { vessels = seen; ranks = ranks }

-- ---- what stays as traces begin

-- The numbers, the ticks and the vessels seen are as before, and there are no fewer traces.
pub record IsBeginning (old new : AllTraces) : Type 0 where
  pub subjects : new.subjects ≡ old.subjects
  pub last_tick : new.last_tick ≡ old.last_tick
  pub given : new.given ≡ old.given
  pub latest : new.latest ≡ old.latest
  pub ranks : new.ranks ≡ old.ranks
  pub more : length old.traces.items ≤ length new.traces.items

-- ---- traces that begin

abbrev pub swapped : Pair → Pair
swapped pair = record { subject = pair.other; other = pair.subject }

-- Where the one order of two vessels has a trace, so does the other.
abbrev pub HaveBoth : List Known → Type 0
HaveBoth knowns = (pair : Pair) → Contains (pairs_of knowns) pair → Contains (pairs_of knowns) (swapped pair)

-- The pair is audited and in contact, and had no trace before.
pub record IsFresh (numbers : AuditNumbers) (seen : SeenVessels) (old : List Pair) (pair : Pair) : Type 0 where
  pub audited : IsAudited numbers.subjects pair
  pub contact : AreInContact numbers.detect.watch (state_in pair.subject seen) (state_in pair.other seen)
  pub new : ¬ Contains old pair

-- Behind the traces that there were stand only ones of such pairs, which begin now.
pub record Grew (numbers : AuditNumbers) (seen : SeenVessels) (old : List Pair) (start : ℕ) (before after : List Known) : Type 0 where
  pub new : List Known
  pub whole : after ≡ before ++ new
  pub opened : AreOpened start new
  pub fresh : (known : Known) → Contains new known → IsFresh numbers seen old known.pair

-- The subjects are those kept, and the traces stand once each and in both orders.
pub record MayBegin (kept : AllTraces) (numbers : AuditNumbers) (knowns : List Known) : Type 0 where
  pub chosen : numbers.subjects ≡ kept.subjects.items
  pub once : AllPairs ◌≢◌ (pairs_of knowns)
  pub both : HaveBoth knowns

-- A pair of different vessels in contact may be taken, where those that had a trace before still have it.
pub record MayTake (kept : AllTraces) (numbers : AuditNumbers) (seen : SeenVessels) (old : List Pair) (knowns : List Known) (pair : Pair) : Type 0 where
  pub of : numbers.subjects ≡ kept.subjects.items
  pub two : pair.subject ≢ pair.other
  pub contact : AreInContact numbers.detect.watch (state_in pair.subject seen) (state_in pair.other seen)
  pub once : AllPairs ◌≢◌ (pairs_of knowns)
  pub both : HaveBoth knowns
  pub still : (other : Pair) → Contains old other → Contains (pairs_of knowns) other

-- A pair in contact has both its traces, if it is audited.
pub record IsTaken (kept : AllTraces) (numbers : AuditNumbers) (ticks : List Sighting) (seen : SeenVessels) (old : List Pair) (start : ℕ) (before : List Known) (pair : Pair) : Type 0 where
  pub after : List Known
  pub holds : Holds kept numbers ticks after
  pub once : AllPairs ◌≢◌ (pairs_of after)
  pub both : HaveBoth after
  pub grew : Grew numbers seen old start before after
  pub taken : IsAudited numbers.subjects pair → Contains (pairs_of after) pair

-- All of them have.
pub record AreBegun (kept : AllTraces) (numbers : AuditNumbers) (ticks : List Sighting) (seen : SeenVessels) (start : ℕ) (before : List Known) : Type 0 where
  pub after : List Known
  pub holds : Holds kept numbers ticks after
  pub once : AllPairs ◌≢◌ (pairs_of after)
  pub grew : Grew numbers seen (pairs_of before) start before after
  pub all : (pair : Pair) → IsAudited numbers.subjects pair → AreInContact numbers.detect.watch (state_in pair.subject seen) (state_in pair.other seen)
      → Contains (pairs_of after) pair

-- There are as many traces as there may be, and a further pair begins one.
pub record AreTooMany (numbers : AuditNumbers) (seen : SeenVessels) (old : List Pair) (start : ℕ) (before : List Known) : Type 0 where
  pub full : List Known
  pub many : length full ≡ MOST_TRACES
  pub once : AllPairs ◌≢◌ (pairs_of full)
  pub grew : Grew numbers seen old start before full
  pub further : Pair
  pub fresh : IsFresh numbers seen old further
  pub new : ¬ Contains (pairs_of full) further

-- ---- from one tick to the next

-- As many ticks of the window were given as stand here.
pub record IsNextTick (kept : AllTraces) (numbers : AuditNumbers) (ticks : List Sighting) : Type 0 where
  pub count : kept.given ≡ length ticks
  pub chosen : numbers.subjects ≡ kept.subjects.items
  pub last : numbers.last_tick ≡ kept.last_tick

-- The traces are those that the ticks before this one have begun, with their steps up to it.
pub record AreKnownOn (numbers : AuditNumbers) (ticks : List Sighting) (seen : Sighting) (knowns : List Known) : Type 0 where
  pub each : (known : Known) → Contains knowns known → IsKnown numbers (ticks ++ seen ∷ []) known
  pub all : (pair : Pair) (start : ℕ) → Begins numbers ticks pair start → Contains (pairs_of knowns) pair
  pub before : (pair : Pair) → Contains (pairs_of knowns) pair → (start : ℕ) × Begins numbers ticks pair start
  pub once : AllPairs ◌≢◌ (pairs_of knowns)

-- Behind the traces that there were stand those that begin at the latest of these ticks, and they are all of their traces.
pub record HaveBegunNow (kept : AllTraces) (numbers : AuditNumbers) (ticks : List Sighting) (start : ℕ) (before : List Known) : Type 0 where
  pub new : List Known
  pub opened : AreOpened start new
  pub holds : Holds kept numbers ticks (before ++ new)
  pub are_known : AreKnown numbers ticks (before ++ new)
