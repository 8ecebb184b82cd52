-- What a row answers by what it keeps are the atoms' values.
use Rattle.std.proofs.Common.{◌≡◌, ℕ, zero, suc, ◌*◌, ◌≤◌, IsTrue, refl, sym, ap, subst, ◌∙◌, arith}
use Rattle.std.specs.Prelude.{Bool, true, false, ◌&&◌, ◌==◌, not, ◌↔◌, Option, None, Some, IsSomeAnd, IsSome, is_some, nat_le}
use Rattle.std.proofs.lemmas.Int.{ints}
use Rattle.std.proofs.lemmas.Option.{same_Some}
use Rattle.fixed_geometry.specs.Bearing.{bearing_of, lies_to_port}
use Rattle.motion.specs.Steps.{RelativeMove}
use Rattle.sectors.specs.declared.class.Class.{Class}
use Rattle.sectors.specs.declared.class.Class.TheVariants as class
use Rattle.mtl_formulas.specs.declared.atom.Atom.{Atom}
use Rattle.mtl_formulas.specs.declared.atom.Atom.TheVariants as atom
use Rattle.mtl_formulas.specs.declared.verdict.Verdict.{Verdict}
use Rattle.mtl_formulas.specs.declared.verdict.Verdict.TheVariants.{No, Open, Yes}
use Rattle.encounters.specs.Risk.{HasRisk, IsOpening}
use Rattle.encounters.specs.declared.detect.Detect.{Detect}
use Rattle.encounters.specs.declared.engagement_state.EngagementState.{EngagementState}
use Rattle.encounters.specs.declared.engagement_state.EngagementState.TheVariants.{Apart, Engaged}
use Rattle.encounters.specs.declared.pair_step.PairStep.{PairStep}
use Rattle.closest_approach.specs.Separation.{IsSeparated}
use Rattle.meetings.specs.Ahead.{crosses_ahead}
use Rattle.meetings.specs.Answers.{Kept, answer_of}
use Rattle.meetings.specs.Atoms.{AreAnswers, IsClose, RankCounts, Tells, WhereKnown, metres_in_tenths}
use Rattle.meetings.specs.Inner.Tests.{ahead, class_index, direction_of, is_age, is_close, is_first, is_kind, is_opening, is_separated, meeting_of, on_port, on_port_by, other_direction_of, rank_counts, seen_as, step_of, told}
use Rattle.meetings.specs.SinceBeginning.{age_of, changes_at, kind_of}
use Rattle.meetings.specs.Terms.{Terms}
use Rattle.meetings.specs.declared.by_rank.ByRank.{ByRank}
use Rattle.meetings.proofs.SeparatedByEnds.{separated_exactly}

tells : (P : Type 0) (b : Bool) → (IsTrue b → P) → (P → IsTrue b) → Tells P (told b)
tells P true to from = to refl
tells P false to from = λ p. let no : false ≡ true = from p in cc

-- ---- of the state

class_from : ℕ → Class
class_from zero = class.Overtaking
class_from (suc zero) = class.Overtaken
class_from (suc (suc zero)) = class.HeadOn
class_from (suc (suc (suc zero))) = class.CrossingGives
class_from (suc (suc (suc (suc zero)))) = class.CrossingStands
class_from (suc (suc (suc (suc (suc zero))))) = class.Passing
class_from _ = class.Unclassified

class_again : (kind : Class) → class_from (class_index kind) ≡ kind
unfolding class_from
class_again class.Overtaking = refl
class_again class.Overtaken = refl
class_again class.HeadOn = refl
class_again class.CrossingGives = refl
class_again class.CrossingStands = refl
class_again class.Passing = refl
class_again class.Unclassified = refl

same_class : (kind other : Class) → IsTrue (class_index kind == class_index other) → kind ≡ other
same_class kind other h =
    let same : class_index kind ≡ class_index other = grind (arith, h) in
    sym (class_again kind) ∙ (ap class_from same ∙ class_again other)

same_index : (kind other : Class) → kind ≡ other → IsTrue (class_index kind == class_index other)
same_index kind other h = let same : class_index kind ≡ class_index other = ap class_index h in grind (arith, same)

of_kind : (kind : Class) (state : EngagementState) → Tells (kind_of state ≡ Some kind) (told (is_kind kind (meeting_of state)))
of_kind kind Apart = λ h. cc
of_kind kind (Engaged own age a b) = tells (Some own ≡ Some kind) (class_index own == class_index kind)
    (λ h. ap Some (same_class own kind h)) (λ h. same_index own kind (same_Some own kind h))

engaged : (state : EngagementState) → Tells (IsSome (age_of state)) (told (is_some (meeting_of state)))
engaged Apart = λ h. cc
engaged (Engaged kind age a b) = refl

first : (state : EngagementState) → Tells (age_of state ≡ Some 0) (told (is_first (meeting_of state)))
first Apart = λ h. cc
first (Engaged kind age a b) = tells (Some age ≡ Some 0) (age == 0)
    (λ h. let zero : age ≡ 0 = grind (arith, h) in ap Some zero) (λ h. let zero : age ≡ 0 = same_Some age 0 h in grind (arith, zero))

lasts : (tick seconds : ℕ) (state : EngagementState) → Tells (IsSomeAnd (age_of state) (λ age. seconds ≤ age * tick)) (told (is_age tick seconds (meeting_of state)))
lasts tick seconds Apart = λ h. h
lasts tick seconds (Engaged kind age a b) = tells (seconds ≤ age * tick) (nat_le seconds (age * tick)) (λ h. grind (arith, h)) (λ h. grind (arith, h))

-- ---- of the step

at_risk : (detect : Detect) (seen : Option PairStep) (risk : Bool) → (IsTrue risk ↔ IsSomeAnd seen (λ pair. HasRisk detect pair.step))
    → Tells (IsSomeAnd seen (λ pair. HasRisk detect pair.step)) (told risk)
at_risk detect seen risk h = tells (IsSomeAnd seen (λ pair. HasRisk detect pair.step)) risk h.0 h.1

is_seen : (seen : Option PairStep) → Tells (IsSome seen) (told (is_some (step_of seen)))
is_seen None = λ h. cc
is_seen (Some pair) = refl

opening : (seen : Option PairStep) → WhereKnown seen (λ pair. Tells (IsOpening pair.step)) (seen_as (λ step. told (is_opening step)) (step_of seen))
opening None = refl
opening (Some pair) = tells (IsOpening pair.step) (is_opening pair.step) (λ h. grind (arith, ints, h)) (λ h. grind (arith, ints, h))

clear : (m : ℕ) (seen : Option PairStep)
    → WhereKnown seen (λ pair. Tells (IsSeparated pair.step (metres_in_tenths m))) (seen_as (λ step. told (is_separated step (metres_in_tenths m))) (step_of seen))
clear m None = refl
clear m (Some pair) = let h = separated_exactly pair.step (metres_in_tenths m) in tells (IsSeparated pair.step (metres_in_tenths m)) (is_separated pair.step (metres_in_tenths m)) h.0 h.1

close : (m : ℕ) (seen : Option PairStep) → WhereKnown seen (λ pair. Tells (IsClose m pair)) (seen_as (λ step. told (is_close (metres_in_tenths m) step)) (step_of seen))
close m None = refl
close m (Some pair) = tells (IsClose m pair) (is_close (metres_in_tenths m) pair.step) (λ h. grind (arith, ints, h)) (λ h. grind (arith, ints, h))

port_by : (direction bearing : Option ℕ) → WhereKnown direction (λ d. WhereKnown bearing (λ b. Tells (IsTrue (lies_to_port d b)))) (on_port_by direction bearing)
port_by None bearing = refl
port_by (Some d) None = refl
port_by (Some d) (Some b) = tells (IsTrue (lies_to_port d b)) (lies_to_port d b) (λ h. h) (λ h. h)

port : (seen : Option PairStep) → WhereKnown seen (λ pair. WhereKnown pair.a.direction (λ d. WhereKnown (bearing_of pair.step.p) (λ b. Tells (IsTrue (lies_to_port d b)))))
    (seen_as (on_port (direction_of seen)) (step_of seen))
port None = refl
port (Some pair) = port_by pair.a.direction (bearing_of pair.step.p)

ahead_by : (direction : Option ℕ) (step : RelativeMove) → WhereKnown direction (λ d. Tells (IsTrue (crosses_ahead d step))) (ahead direction step)
ahead_by None step = refl
ahead_by (Some d) step = tells (IsTrue (crosses_ahead d step)) (crosses_ahead d step) (λ h. h) (λ h. h)

crosses : (seen : Option PairStep) → WhereKnown seen (λ pair. WhereKnown pair.b.direction (λ d. Tells (IsTrue (crosses_ahead d pair.step))))
    (seen_as (ahead (other_direction_of seen)) (step_of seen))
crosses None = refl
crosses (Some pair) = ahead_by pair.b.direction pair.step

-- ---- of the ranks

both : (P : Type 0) (holds by_rank : Bool) → Tells P (told holds) → Tells (P × IsTrue by_rank) (told (holds && by_rank))
both P true true h = (h, refl)
both P true false h = λ p. let no : false ≡ true = p.1 in cc
both P false by_rank h = λ p. h p.0

counts_by : (state : EngagementState) (met overtaking overtaken : Bool) → Tells (IsSome (age_of state)) (told met) → Tells (kind_of state ≡ Some class.Overtaking) (told overtaking)
    → Tells (kind_of state ≡ Some class.Overtaken) (told overtaken) → Tells (RankCounts state) (told (met && (not overtaking && not overtaken)))
counts_by state false overtaking overtaken h k l = λ counts. h counts.engaged
counts_by state true true overtaken h k l = λ counts. counts.not_overtaking k
counts_by state true false true h k l = λ counts. counts.not_overtaken l
counts_by state true false false h k l = record { engaged = h; not_overtaking = k; not_overtaken = l }

counts : (state : EngagementState) → Tells (RankCounts state) (told (rank_counts (meeting_of state)))
counts state = counts_by state (is_some (meeting_of state)) (is_kind class.Overtaking (meeting_of state)) (is_kind class.Overtaken (meeting_of state))
    (engaged state) (of_kind class.Overtaking state) (of_kind class.Overtaken state)

-- ---- all atoms

abbrev pub row_of : Terms → ByRank → EngagementState → Option PairStep → Bool → Kept
row_of terms ranks state seen risk = record {
  step = step_of seen;
  direction = direction_of seen;
  other_direction = other_direction_of seen;
  risk = risk;
  meeting = meeting_of state;
  tick = terms.tick;
  changes = changes_at terms.act state seen;
  by_rank = ranks;
}

module _ (terms : Terms) (ranks : ByRank) (state : EngagementState) (seen : Option PairStep) (risk : Bool)
    (decides : IsTrue risk ↔ IsSomeAnd seen (λ pair. HasRisk terms.detect pair.step)) where
  pub values : AreAnswers terms ranks state seen (answer_of (row_of terms ranks state seen risk))
  values atom.Always = refl
  values atom.Never = refl
  values atom.Seen = is_seen seen
  values atom.Risk = at_risk terms.detect seen risk decides
  values atom.Engaged = engaged state
  values atom.Begin = first state
  values atom.Overtaking = of_kind class.Overtaking state
  values atom.Overtaken = of_kind class.Overtaken state
  values atom.HeadOn = of_kind class.HeadOn state
  values atom.CrossingGives = of_kind class.CrossingGives state
  values atom.CrossingStands = of_kind class.CrossingStands state
  values atom.Passing = of_kind class.Passing state
  values atom.Unclassified = of_kind class.Unclassified state
  values (atom.Age seconds) = lasts terms.tick seconds state
  values atom.Opening = opening seen
  values (atom.Clear m) = clear m seen
  values (atom.Close m) = close m seen
  values atom.OtherOnPort = port seen
  values atom.Ahead = crosses seen
  values atom.Alters = refl
  values atom.Apparent = refl
  values atom.ToStarboard = refl
  values atom.ToPort = refl
  values atom.OtherApparent = refl
  values atom.RankGives = both (RankCounts state) (rank_counts (meeting_of state)) ranks.gives (counts state)
  values atom.RankStands = both (RankCounts state) (rank_counts (meeting_of state)) ranks.stands (counts state)
  values atom.BothPower = both (IsSome (age_of state)) (is_some (meeting_of state)) ranks.both_power (engaged state)

-- The same row by other ranks: only the atoms of ranks answer by these.
module _ (terms : Terms) (before ranks : ByRank) (state : EngagementState) (seen : Option PairStep) (row : Kept)
    (are : AreAnswers terms before state seen (answer_of row)) where
  counts_too : Tells (RankCounts state) (told (rank_counts row.meeting))
  counts_too = counts_by state (is_some row.meeting) (is_kind class.Overtaking row.meeting) (is_kind class.Overtaken row.meeting)
      (are atom.Engaged) (are atom.Overtaking) (are atom.Overtaken)

  pub ranked : AreAnswers terms ranks state seen (answer_of (record row { by_rank = ranks }))
  ranked atom.RankGives = both (RankCounts state) (rank_counts row.meeting) ranks.gives counts_too
  ranked atom.RankStands = both (RankCounts state) (rank_counts row.meeting) ranks.stands counts_too
  ranked atom.BothPower = both (IsSome (age_of state)) (is_some row.meeting) ranks.both_power (are atom.Engaged)
  ranked atom.Always = are atom.Always
  ranked atom.Never = are atom.Never
  ranked atom.Seen = are atom.Seen
  ranked atom.Risk = are atom.Risk
  ranked atom.Engaged = are atom.Engaged
  ranked atom.Begin = are atom.Begin
  ranked atom.Overtaking = are atom.Overtaking
  ranked atom.Overtaken = are atom.Overtaken
  ranked atom.HeadOn = are atom.HeadOn
  ranked atom.CrossingGives = are atom.CrossingGives
  ranked atom.CrossingStands = are atom.CrossingStands
  ranked atom.Passing = are atom.Passing
  ranked atom.Unclassified = are atom.Unclassified
  ranked (atom.Age seconds) = are (atom.Age seconds)
  ranked atom.Opening = are atom.Opening
  ranked (atom.Clear m) = are (atom.Clear m)
  ranked (atom.Close m) = are (atom.Close m)
  ranked atom.OtherOnPort = are atom.OtherOnPort
  ranked atom.Ahead = are atom.Ahead
  ranked atom.Alters = are atom.Alters
  ranked atom.Apparent = are atom.Apparent
  ranked atom.ToStarboard = are atom.ToStarboard
  ranked atom.ToPort = are atom.ToPort
  ranked atom.OtherApparent = are atom.OtherApparent

-- If they are not engaged, the ranks do not count.
module _ (terms : Terms) (before ranks : ByRank) (seen : Option PairStep) (answers : Atom → Verdict) where
  unranked : (verdict : Verdict) (counts : Bool) (other : Bool) (Counts : Type 0) → (Counts → ⊥) → Tells (Counts × IsTrue counts) verdict → Tells (Counts × IsTrue other) verdict
  unranked Yes counts other Counts none h = absurd (none h.0)
  unranked No counts other Counts none h = λ both. none both.0
  unranked Open counts other Counts none h = h

  pub apart : AreAnswers terms before Apart seen answers → AreAnswers terms ranks Apart seen answers
  apart are atom.RankGives = unranked (answers atom.RankGives) before.gives ranks.gives (RankCounts Apart) (λ counts. let engaged = counts.engaged in cc) (are atom.RankGives)
  apart are atom.RankStands = unranked (answers atom.RankStands) before.stands ranks.stands (RankCounts Apart) (λ counts. let engaged = counts.engaged in cc) (are atom.RankStands)
  apart are atom.BothPower = unranked (answers atom.BothPower) before.both_power ranks.both_power (IsSome (age_of Apart)) (λ engaged. cc) (are atom.BothPower)
  apart are atom.Always = are atom.Always
  apart are atom.Never = are atom.Never
  apart are atom.Seen = are atom.Seen
  apart are atom.Risk = are atom.Risk
  apart are atom.Engaged = are atom.Engaged
  apart are atom.Begin = are atom.Begin
  apart are atom.Overtaking = are atom.Overtaking
  apart are atom.Overtaken = are atom.Overtaken
  apart are atom.HeadOn = are atom.HeadOn
  apart are atom.CrossingGives = are atom.CrossingGives
  apart are atom.CrossingStands = are atom.CrossingStands
  apart are atom.Passing = are atom.Passing
  apart are atom.Unclassified = are atom.Unclassified
  apart are (atom.Age seconds) = are (atom.Age seconds)
  apart are atom.Opening = are atom.Opening
  apart are (atom.Clear m) = are (atom.Clear m)
  apart are (atom.Close m) = are (atom.Close m)
  apart are atom.OtherOnPort = are atom.OtherOnPort
  apart are atom.Ahead = are atom.Ahead
  apart are atom.Alters = are atom.Alters
  apart are atom.Apparent = are atom.Apparent
  apart are atom.ToStarboard = are atom.ToStarboard
  apart are atom.ToPort = are atom.ToPort
  apart are atom.OtherApparent = are atom.OtherApparent

  pub where_engaged : (state : EngagementState) → (IsSome (age_of state) → before ≡ ranks) → AreAnswers terms before state seen answers → AreAnswers terms ranks state seen answers
  where_engaged Apart same are = apart are
  where_engaged (Engaged kind age a b) same are = subst (λ (r : ByRank). AreAnswers terms r (Engaged kind age a b) seen answers) (same refl) are
