-- Passing at a safe distance, with four equal distances and with one.
use Rattle.std.proofs.Common.{◌≡◌, ℕ, ◌<◌, List, length, refl, sym, subst, arith}
use Rattle.std.proofs.Math.Path.{fun_ext}
use Rattle.std.proofs.lemmas.Option.{slice_get_within}
use Rattle.std.specs.Prelude.{Option, None, Some, IsSome, IsSomeAnd, slice_get}
use Rattle.sectors.specs.declared.class.Class.{Class}
use Rattle.sectors.specs.declared.class.Class.TheVariants as class
use Rattle.mtl_formulas.specs.declared.atom.Atom.{Atom}
use Rattle.mtl_formulas.specs.declared.atom.Atom.TheVariants as atom
use Rattle.mtl_formulas.specs.declared.verdict.Verdict.{Verdict}
use Rattle.mtl_formulas.specs.declared.verdict.Verdict.TheVariants.{No, Open, Yes}
use Rattle.mtl_formulas.specs.FormulaValue.{answer_at}
use Rattle.mtl_formulas.specs.VerdictOrder.{turned_round, least, greatest}
use Rattle.mtl_formulas.specs.Traces.{Trace, value_in}
use Rattle.rule_set.specs.RuleTrees.{passes_safely}
use Rattle.rule_set.specs.declared.numbers.Safe.TheVariants.{One, PerKind}
use Rattle.encounters.specs.Engagement.{seen_at}
use Rattle.encounters.specs.declared.engagement_state.EngagementState.{EngagementState}
use Rattle.encounters.specs.declared.engagement_state.EngagementState.TheVariants.{Apart, Engaged}
use Rattle.encounters.specs.declared.pair_step.PairStep.{PairStep}
use Rattle.meetings.specs.Atoms.{AreAnswers, AreRankedRows, IsRankedRow, Tells}
use Rattle.meetings.specs.SinceBeginning.{age_of, kind_of}
use Rattle.meetings.specs.Ranks.{beginning_at}
use Rattle.meetings.specs.declared.by_rank.ByRank.{ByRank}
use Rattle.meetings.specs.Terms.{Terms}

-- ---- by the verdicts of the atoms

-- the value of an implication: of `engaged -> clear`, that with one distance
abbrev implied : Verdict → Verdict → Verdict
implied v w = greatest (turned_round v) w

-- the value with four equal distances, by those of `engaged`, of the atom of each kind and of `clear`
abbrev at_four : Verdict → (Class → Verdict) → Verdict → Verdict
at_four engaged kinds clear =
    least (least (least
    (implied (least engaged (kinds class.HeadOn)) clear)
    (implied (least engaged (greatest (kinds class.Overtaking) (kinds class.Overtaken))) clear))
    (implied (least engaged (greatest (kinds class.CrossingGives) (kinds class.CrossingStands))) clear))
    (implied (least engaged (greatest (kinds class.Passing) (kinds class.Unclassified))) clear)

-- Yes for the kind of the engagement, No for every other
abbrev only : Class → Class → Verdict
only class.Overtaking class.Overtaking = Yes
only class.Overtaken class.Overtaken = Yes
only class.HeadOn class.HeadOn = Yes
only class.CrossingGives class.CrossingGives = Yes
only class.CrossingStands class.CrossingStands = Yes
only class.Passing class.Passing = Yes
only class.Unclassified class.Unclassified = Yes
only _ _ = No

least_yes : (v : Verdict) → least v Yes ≡ v
least_yes No = refl
least_yes Open = refl
least_yes Yes = refl

-- Engaged with one kind, the formula with four distances asks for `clear` alone.
clear_alone : (kind : Class) (clear : Verdict) → at_four Yes (only kind) clear ≡ clear
clear_alone class.Overtaking clear = simp least_yes
clear_alone class.Overtaken clear = simp least_yes
clear_alone class.HeadOn clear = simp least_yes
clear_alone class.CrossingGives clear = simp least_yes
clear_alone class.CrossingStands clear = simp least_yes
clear_alone class.Passing clear = refl
clear_alone class.Unclassified clear = refl

-- ---- by the state of the engagement

yes_of : (P : Type 0) (v : Verdict) → Tells P v → P → v ≡ Yes
yes_of P Yes tells p = refl
yes_of P Open tells p = absurd tells
yes_of P No tells p = absurd (tells p)

no_of : (P : Type 0) (v : Verdict) → Tells P v → (¬ P) → v ≡ No
no_of P Yes tells fails = absurd (fails tells)
no_of P Open tells fails = absurd tells
no_of P No tells fails = refl

is_only : (own kind : Class) (v : Verdict) → Tells (Some own ≡ Some kind) v → v ≡ only own kind
is_only class.Overtaking class.Overtaking v tells = yes_of (Some class.Overtaking ≡ Some class.Overtaking) v tells refl
is_only class.Overtaken class.Overtaken v tells = yes_of (Some class.Overtaken ≡ Some class.Overtaken) v tells refl
is_only class.HeadOn class.HeadOn v tells = yes_of (Some class.HeadOn ≡ Some class.HeadOn) v tells refl
is_only class.CrossingGives class.CrossingGives v tells = yes_of (Some class.CrossingGives ≡ Some class.CrossingGives) v tells refl
is_only class.CrossingStands class.CrossingStands v tells = yes_of (Some class.CrossingStands ≡ Some class.CrossingStands) v tells refl
is_only class.Passing class.Passing v tells = yes_of (Some class.Passing ≡ Some class.Passing) v tells refl
is_only class.Unclassified class.Unclassified v tells = yes_of (Some class.Unclassified ≡ Some class.Unclassified) v tells refl
is_only own kind v tells = no_of (Some own ≡ Some kind) v tells (λ same. cc)

abbrev atom_of : Class → Atom
atom_of class.Overtaking = atom.Overtaking
atom_of class.Overtaken = atom.Overtaken
atom_of class.HeadOn = atom.HeadOn
atom_of class.CrossingGives = atom.CrossingGives
atom_of class.CrossingStands = atom.CrossingStands
atom_of class.Passing = atom.Passing
atom_of class.Unclassified = atom.Unclassified

module _ (terms : Terms) where
  -- The atom of a kind says whether they are engaged with that kind.
  of_kind : (by_rank : ByRank) (state : EngagementState) (seen : Option PairStep) (answers : Atom → Verdict) → AreAnswers terms by_rank state seen answers
      → (kind : Class) → Tells (kind_of state ≡ Some kind) (answers (atom_of kind))
  of_kind by_rank state seen answers values class.Overtaking = values atom.Overtaking
  of_kind by_rank state seen answers values class.Overtaken = values atom.Overtaken
  of_kind by_rank state seen answers values class.HeadOn = values atom.HeadOn
  of_kind by_rank state seen answers values class.CrossingGives = values atom.CrossingGives
  of_kind by_rank state seen answers values class.CrossingStands = values atom.CrossingStands
  of_kind by_rank state seen answers values class.Passing = values atom.Passing
  of_kind by_rank state seen answers values class.Unclassified = values atom.Unclassified

  by_state : (by_rank : ByRank) (state : EngagementState) (seen : Option PairStep) (answers : Atom → Verdict) → AreAnswers terms by_rank state seen answers
      → (clear : Verdict) → at_four (answers atom.Engaged) (λ kind. answers (atom_of kind)) clear ≡ implied (answers atom.Engaged) clear
  by_state by_rank Apart seen answers values clear =
      let engaged : answers atom.Engaged ≡ No = no_of (IsSome (age_of Apart)) (answers atom.Engaged) (values atom.Engaged) (λ some. cc) in
      subst (λ (v : Verdict). at_four v (λ (kind : Class). answers (atom_of kind)) clear ≡ implied v clear) (sym engaged) refl
  by_state by_rank (Engaged own age a b) seen answers values clear =
      let engaged : answers atom.Engaged ≡ Yes = yes_of (IsSome (Some age)) (answers atom.Engaged) (values atom.Engaged) refl in
      let kinds : (λ (kind : Class). answers (atom_of kind)) ≡ only own =
      fun_ext (λ kind. is_only own kind (answers (atom_of kind)) (of_kind by_rank (Engaged own age a b) seen answers values kind)) in
      subst (λ (v : Verdict). at_four v (λ (kind : Class). answers (atom_of kind)) clear ≡ implied v clear) (sym engaged)
      (subst (λ (f : Class → Verdict). at_four Yes f clear ≡ clear) (sym kinds) (clear_alone own clear))

  -- ---- at a position of a trace

  module _ (steps : List (Option PairStep)) (trace : Trace) (metres i : ℕ) (ranks : ℕ → ByRank) (rows : AreRankedRows terms ranks steps trace) where
    abbrev answered : Atom → Option (Atom → Verdict) → Verdict
    answered a o = answer_at (λ row. row) trace a o

    by_row : (o : Option (Atom → Verdict)) → slice_get trace i ≡ o
        → at_four (answered atom.Engaged o) (λ kind. answered (atom_of kind) o) (answered (atom.Clear metres) o)
        ≡ implied (answered atom.Engaged o) (answered (atom.Clear metres) o)
    by_row None none = refl
    by_row (Some answers) some =
        let in_trace : i < length trace = slice_get_within trace i answers some in
        let count = rows.count in
        let within : i < length steps = omega arith in
        let row : IsRankedRow terms ranks steps i answers =
        subst (λ (o : Option (Atom → Verdict)). IsSomeAnd o (IsRankedRow terms ranks steps i)) some (rows.each i within) in
        by_state (ranks (beginning_at i row.state)) row.state (seen_at steps i) answers row.values (answers (atom.Clear metres))

    pub equal_distances : value_in trace (passes_safely (PerKind metres metres metres metres)) i ≡ value_in trace (passes_safely (One metres)) i
    equal_distances = by_row (slice_get trace i) refl
