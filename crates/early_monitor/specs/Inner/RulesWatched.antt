-- The rules of a watch, and the state of each for a trace.
use Rattle.std.specs.Prelude.{ℕ, ◌≡◌, ◌≢◌, ◌<◌, List, [], ◌∷◌, length, get_or, Option, Some, None}
use Rattle.mtl_formulas.specs.FormulaTree.{FormulaTree, leaf}
use Rattle.mtl_formulas.specs.declared.atom.Atom.TheVariants.{Always}
use Rattle.mtl_formulas.specs.FormulaMeasures.{HasValidParts, reach_of}
use Rattle.mtl_formulas.specs.declared.verdict.Verdict.TheVariants.{No}
use Rattle.mtl_monitor.specs.Following.{IsProgramOf, last_value}
use Rattle.mtl_formulas.specs.Traces.{Trace}
use Rattle.mtl_monitor.specs.declared.program.Program.{Program}
use Rattle.mtl_monitor.specs.declared.trace_state.TraceState.{TraceState}
use Rattle.rule_set.specs.NamedTrees.{NamedTree}
use Rattle.early_monitor.specs.declared.early_rule.EarlyRule.{EarlyRule}
use Rattle.early_monitor.specs.declared.early_program.EarlyState.{EarlyState}
use Rattle.early_monitor.specs.declared.watched_rules.WatchedRules.{WatchedRules}
use Rattle.early_monitor.specs.Alarms.{tree_of_rule}
use Rattle.rule_program.specs.Lags.{lags_of}
use Rattle.early_monitor.specs.Inner.EarlyStates.{HasGivenAll, IsAt, IsEarlyProgramOf, IsStateOf, rows_fed}

-- The form of a rule with this formula: it has its own program, or each No comes with the last row that it reaches.
abbrev pub IsWatchedAs : Option EarlyRule → FormulaTree → Type 0
IsWatchedAs None t = HasValidParts t × ((lags_of t).no ≡ reach_of t)
IsWatchedAs (Some early) t = IsEarlyProgramOf early.program t

-- the same for each rule of a list
pub record AreEarlyRules (early : List (Option EarlyRule)) (rules : List NamedTree) : Type 0 where
  pub as_many : length early ≡ length rules
  pub each : (k : ℕ) → k < length rules → IsWatchedAs (get_or early k None) (tree_of_rule rules k)

-- The formula of a rule in the program of all: its own formula, or one that costs nothing if the rule has its own
-- program.
abbrev pub plain_tree : Option EarlyRule → FormulaTree → FormulaTree
plain_tree None t = t
plain_tree (Some early) t = leaf Always

abbrev pub plain_trees : List (Option EarlyRule) → List NamedTree → List FormulaTree
plain_trees (early ∷ more) (rule ∷ rules) = plain_tree early rule.tree ∷ plain_trees more rules
plain_trees _ _ = []

-- The program has the formula of each of these rules at the rule's index.
pub record IsPlainProgram (p : Program) (early : List (Option EarlyRule)) (rules : List NamedTree) : Type 0 where
  pub of : IsProgramOf p (plain_trees early rules)
  pub as_many : length early ≡ length rules

-- They are these rules.
pub record AreWatched (w : WatchedRules) (rules : List NamedTree) : Type 0 where
  pub program : IsPlainProgram w.program w.early.items rules
  pub early : AreEarlyRules w.early.items rules

abbrev pub early_at : WatchedRules → ℕ → Option EarlyRule
early_at w k = get_or w.early.items k None

-- ---- the state of the program for a trace

-- If the rule has no program of its own, its latest value is not No.
abbrev pub IsCalmRule : WatchedRules → TraceState → ℕ → Type 0
IsCalmRule w values k = early_at w k ≡ None → last_value w.program values k ≢ No

-- The same for all rules: a row that changes none of their values has only alarms of rules with their own programs.
abbrev pub IsCalm : WatchedRules → TraceState → Type 0
IsCalm w values = (k : ℕ) → k < length w.early.items → IsCalmRule w values k

-- ---- the state of a rule for a trace

-- It belongs to the rule, has taken this many rows, and has returned all that they decide.
abbrev pub FitsRule : ℕ → Option EarlyRule → Option EarlyState → Type 0
FitsRule fed None state = Unit {0}
FitsRule fed (Some early) None = ⊥
FitsRule fed (Some early) (Some state) = IsStateOf early.program state × HasGivenAll state × (rows_fed state ≡ fed)

-- It has taken these rows.
abbrev pub StandsForRule : Option EarlyRule → Option EarlyState → FormulaTree → Trace → Type 0
StandsForRule None state t rows = Unit {0}
StandsForRule (Some early) None t rows = ⊥
StandsForRule (Some early) (Some state) t rows = IsAt early.program state t rows

-- Each rule has this state before the first row of a trace.
pub record AreBegun (w : WatchedRules) (states : List (Option EarlyState)) : Type 0 where
  pub as_many : length states ≡ length w.early.items
  pub fits : (k : ℕ) → k < length w.early.items → FitsRule 0 (early_at w k) (get_or states k None)
  pub stands : (rules : List NamedTree) → AreWatched w rules → (k : ℕ) → k < length rules → StandsForRule (early_at w k) (get_or states k None) (tree_of_rule rules k) []
