-- The value of each atom at a step of an ordered pair (A, B), by the state of their engagement there and by the step, which is
-- seen or not. The rules are those of the COLREGs 1972.
use Rattle.std.specs.Prelude.{ℕ, ◌≡◌, ◌*◌, ◌≤◌, ◌<◌, List, length, slice_get, Option, Some, None, IsSome, IsSomeAnd, IsTrue, pos, ◌<ℤ◌}
use Rattle.fixed_geometry.specs.Bearing.{bearing_of, lies_to_port}
use Rattle.fixed_geometry.specs.Plane.{norm2_of}
use Rattle.closest_approach.specs.Separation.{IsSeparated}
use Rattle.sectors.specs.declared.class.Class.{Class}
use Rattle.sectors.specs.declared.class.Class.TheVariants as class
use Rattle.mtl_formulas.specs.declared.atom.Atom.{Atom}
use Rattle.mtl_formulas.specs.declared.atom.Atom.TheVariants.{Always, Never, Seen, Risk, Engaged, Begin, Overtaking, Overtaken, HeadOn, CrossingGives, CrossingStands, Passing, Unclassified, Age, Opening, Clear, Close, OtherOnPort, Ahead, Alters, Apparent, ToStarboard, ToPort, OtherApparent, RankGives, RankStands, BothPower}
use Rattle.mtl_formulas.specs.declared.verdict.Verdict.{Verdict}
use Rattle.mtl_formulas.specs.declared.verdict.Verdict.TheVariants.{No, Open, Yes}
use Rattle.encounters.specs.Engagement.{IsState, seen_at}
use Rattle.encounters.specs.Risk.{HasRisk, IsOpening}
use Rattle.encounters.specs.declared.engagement_state.EngagementState.{EngagementState}
use Rattle.encounters.specs.declared.pair_step.PairStep.{PairStep}
use Rattle.meetings.specs.Ahead.{crosses_ahead}
use Rattle.meetings.specs.Ranks.{all_power_driven, beginning_at}
use Rattle.meetings.specs.SinceBeginning.{age_of, changes_at, kind_of}
use Rattle.meetings.specs.Terms.{Terms}
use Rattle.meetings.specs.declared.by_rank.ByRank.{ByRank}

-- Yes if it holds, otherwise No
abbrev pub Tells : Type 0 → Verdict → Type 0
Tells Holds Yes = Holds
Tells Holds Open = ⊥
Tells Holds No = ¬ Holds

-- Open if the value is unknown, otherwise the value
abbrev pub WhereKnown : {A : Type 0} → Option A → (A → Verdict → Type 0) → Verdict → Type 0
WhereKnown None Says verdict = verdict ≡ Open
WhereKnown (Some x) Says verdict = Says x verdict

-- a distance in metres_in_tenths, in tenths of a millimetre
abbrev pub metres_in_tenths : ℕ → ℕ
metres_in_tenths m = 10000 * m

-- They are nearer than this many metres_in_tenths at the step's first tick.
abbrev pub IsClose : ℕ → PairStep → Type 0
IsClose m pair = norm2_of pair.step.p <ℤ pos (metres_in_tenths m * metres_in_tenths m)

-- They are engaged, and neither overtakes the other: an overtaking vessel keeps out of the way whatever her rank (Rules 13 and 18).
pub record RankCounts (state : EngagementState) : Type 0 where
  pub engaged : IsSome (age_of state)
  pub not_overtaking : ¬ (kind_of state ≡ Some class.Overtaking)
  pub not_overtaken : ¬ (kind_of state ≡ Some class.Overtaken)

module _ (terms : Terms) (ranks : ByRank) (state : EngagementState) (seen : Option PairStep) where
  -- engaged, with the engagement's kind
  abbrev pub IsOfKind : Class → Type 0
  IsOfKind kind = kind_of state ≡ Some kind

  -- The ranks are those when the engagement begins.
  abbrev pub IsAtomValue : Atom → Verdict → Type 0
  IsAtomValue Always verdict = verdict ≡ Yes
  IsAtomValue Never verdict = verdict ≡ No
  IsAtomValue Seen verdict = Tells (IsSome seen) verdict
  IsAtomValue Risk verdict = Tells (IsSomeAnd seen (λ pair. HasRisk terms.detect pair.step)) verdict
  IsAtomValue Engaged verdict = Tells (IsSome (age_of state)) verdict
  IsAtomValue Begin verdict = Tells (age_of state ≡ Some 0) verdict
  IsAtomValue Overtaking verdict = Tells (IsOfKind class.Overtaking) verdict
  IsAtomValue Overtaken verdict = Tells (IsOfKind class.Overtaken) verdict
  IsAtomValue HeadOn verdict = Tells (IsOfKind class.HeadOn) verdict
  IsAtomValue CrossingGives verdict = Tells (IsOfKind class.CrossingGives) verdict
  IsAtomValue CrossingStands verdict = Tells (IsOfKind class.CrossingStands) verdict
  IsAtomValue Passing verdict = Tells (IsOfKind class.Passing) verdict
  IsAtomValue Unclassified verdict = Tells (IsOfKind class.Unclassified) verdict
  IsAtomValue (Age seconds) verdict = Tells (IsSomeAnd (age_of state) (λ age. seconds ≤ age * terms.tick)) verdict
  IsAtomValue Opening verdict = WhereKnown seen (λ pair. Tells (IsOpening pair.step)) verdict
  IsAtomValue (Clear m) verdict = WhereKnown seen (λ pair. Tells (IsSeparated pair.step (metres_in_tenths m))) verdict
  IsAtomValue (Close m) verdict = WhereKnown seen (λ pair. Tells (IsClose m pair)) verdict
  IsAtomValue OtherOnPort verdict = WhereKnown seen (λ pair. WhereKnown pair.a.direction (λ direction.
      WhereKnown (bearing_of pair.step.p) (λ bearing. Tells (IsTrue (lies_to_port direction bearing))))) verdict
  IsAtomValue Ahead verdict = WhereKnown seen (λ pair. WhereKnown pair.b.direction (λ direction.
      Tells (IsTrue (crosses_ahead direction pair.step)))) verdict
  IsAtomValue Alters verdict = verdict ≡ (changes_at terms.act state seen).alters
  IsAtomValue Apparent verdict = verdict ≡ (changes_at terms.act state seen).apparent
  IsAtomValue ToStarboard verdict = verdict ≡ (changes_at terms.act state seen).to_starboard
  IsAtomValue ToPort verdict = verdict ≡ (changes_at terms.act state seen).to_port
  IsAtomValue OtherApparent verdict = verdict ≡ (changes_at terms.act state seen).other_apparent
  IsAtomValue RankGives verdict = Tells (RankCounts state × IsTrue ranks.gives) verdict
  IsAtomValue RankStands verdict = Tells (RankCounts state × IsTrue ranks.stands) verdict
  IsAtomValue BothPower verdict = Tells (IsSome (age_of state) × IsTrue ranks.both_power) verdict

  -- The answer to each atom is its value.
  abbrev pub AreAnswers : (Atom → Verdict) → Type 0
  AreAnswers answers = (atom : Atom) → IsAtomValue atom (answers atom)

-- The row at step i of a list of steps has the values by the state there, and by the ranks at the step at which the
-- engagement there began.
pub record IsRankedRow (terms : Terms) (ranks : ℕ → ByRank) (steps : List (Option PairStep)) (i : ℕ) (answers : Atom → Verdict) : Type 0 where
  pub state : EngagementState
  pub is_state : IsState terms.detect steps i state
  pub values : AreAnswers terms (ranks (beginning_at i state)) state (seen_at steps i) answers

-- One row per step.
pub record AreRankedRows (terms : Terms) (ranks : ℕ → ByRank) (steps : List (Option PairStep)) (rows : List (Atom → Verdict)) : Type 0 where
  pub count : length rows ≡ length steps
  pub each : (i : ℕ) → i < length steps → IsSomeAnd (slice_get rows i) (IsRankedRow terms ranks steps i)

-- the same for vessels of unknown ranks
abbrev pub IsAtomRow : Terms → List (Option PairStep) → ℕ → (Atom → Verdict) → Type 0
IsAtomRow terms = IsRankedRow terms all_power_driven

abbrev pub AreAtomRows : Terms → List (Option PairStep) → List (Atom → Verdict) → Type 0
AreAtomRows terms = AreRankedRows terms all_power_driven
