-- Formulas whose values no distance and no bearing can change where the vessels are apart, and traces that differ in these alone.
use Rattle.std.specs.Prelude.{◌≡◌, Bool, true, not, ◌&&◌, Option, Some, None, is_none, List, [], ◌∷◌, ◌⊎◌}
use Rattle.mtl_formulas.specs.declared.atom.Atom.{Atom}
use Rattle.mtl_formulas.specs.declared.glance.Glance.{Glance}
use Rattle.mtl_formulas.specs.declared.glance.Glance.TheVariants.{Nothing, Apart}
use Rattle.mtl_formulas.specs.declared.verdict.Verdict.{Verdict}
use Rattle.mtl_formulas.specs.declared.verdict.Verdict.TheVariants.{No, Open, Yes}
use Rattle.mtl_formulas.specs.declared.formula.PairKind.{PairKind}
use Rattle.mtl_formulas.specs.declared.formula.PairKind.TheVariants.{And, Or, Implies}
use Rattle.mtl_formulas.specs.VerdictOrder.{turned_round, least, greatest}
use Rattle.mtl_formulas.specs.FormulaTree.{FormulaTree, leaf, negation, pair, span, link}
use Rattle.mtl_formulas.specs.Glances.{apart_answer, IsTold}
use Rattle.mtl_formulas.specs.Traces.{Trace}
use Rattle.mtl_monitor.specs.declared.node.ProgramNode.{ProgramNode}
use Rattle.mtl_monitor.specs.Inner.Quiet.{AreAnswered}

-- the values of operators whose operands' values may be unknown
abbrev pub known_turned : Option Verdict → Option Verdict
known_turned None = None
known_turned (Some v) = Some (turned_round v)

abbrev pub known_least : Option Verdict → Option Verdict → Option Verdict
known_least (Some No) w = Some No
known_least (Some Yes) w = w
known_least (Some Open) None = None
known_least (Some Open) (Some w) = Some (least Open w)
known_least None (Some No) = Some No
known_least None (Some Open) = None
known_least None (Some Yes) = None
known_least None None = None

abbrev pub known_greatest : Option Verdict → Option Verdict → Option Verdict
known_greatest (Some Yes) w = Some Yes
known_greatest (Some No) w = w
known_greatest (Some Open) None = None
known_greatest (Some Open) (Some w) = Some (greatest Open w)
known_greatest None (Some Yes) = Some Yes
known_greatest None (Some Open) = None
known_greatest None (Some No) = None
known_greatest None None = None

abbrev pub known_pair : PairKind → Option Verdict → Option Verdict → Option Verdict
known_pair And a b = known_least a b
known_pair Or a b = known_greatest a b
known_pair Implies a b = known_greatest (known_turned a) b

-- the formula's value at each position at which the vessels are apart, if the glance there decides it
abbrev pub apart_value : FormulaTree → Option Verdict
apart_value (leaf a) = apart_answer a
apart_value (negation t) = known_turned (apart_value t)
apart_value (pair kind s t) = known_pair kind (apart_value s) (apart_value t)
apart_value (span kind l u t) = None
apart_value (link kind l u s t) = None

-- No distance or bearing at a position at which the vessels are apart can change the formula's value: at any position or, if `apart`
-- is false, at a position at which they are not. A temporal operator looks at positions of both kinds. If an operator's value is
-- known where they are apart, its operands count only where they are not.
abbrev pub is_idle : Bool → FormulaTree → Bool
is_idle apart (leaf a) = not (apart && is_none (apart_answer a))
is_idle apart (negation t) = is_idle apart t
is_idle apart (pair kind s t) =
    is_idle (apart && is_none (known_pair kind (apart_value s) (apart_value t))) s && is_idle (apart && is_none (known_pair kind (apart_value s) (apart_value t))) t
is_idle apart (span kind l u t) = is_idle true t
is_idle apart (link kind l u s t) = is_idle true s && is_idle true t

-- Both rows are one. Or the program is idle, and the vessels are apart at both, which then differ in distances and bearings alone.
abbrev pub AreAlike : Bool → (Atom → Verdict) → (Atom → Verdict) → Type 0
AreAlike idle row other = (row ≡ other) ⊎ ((idle ≡ true) × IsTold Apart row × IsTold Apart other)

abbrev pub AreAlikeTraces : Bool → Trace → Trace → Type 0
AreAlikeTraces idle [] [] = Unit {0}
AreAlikeTraces idle (row ∷ rows) (other ∷ others) = AreAlike idle row other × AreAlikeTraces idle rows others
AreAlikeTraces idle [] (other ∷ others) = ⊥
AreAlikeTraces idle (row ∷ rows) [] = ⊥

-- A row that a glance shows so, and whose answers are the values of the atoms' nodes.
pub record IsShown (glance : Glance) (nodes : List ProgramNode) (values : List Verdict) : Type 0 where
  pub row : Atom → Verdict
  pub told : IsTold glance row
  pub answered : AreAnswered nodes values row

-- The glance shows nothing, or shows this of such a row.
abbrev pub HasShown : Glance → List ProgramNode → List Verdict → Type 0
HasShown glance nodes values = (glance ≡ Nothing) ⊎ IsShown glance nodes values

-- The row was read, or one that is alike to it is taken for it.
pub record IsReadAs (idle : Bool) (nodes : List ProgramNode) (values : List Verdict) (glance : Glance) (row : Atom → Verdict) : Type 0 where
  pub shown : IsShown glance nodes values
  pub alike : AreAlike idle shown.row row
