-- How far back the value of a formula at a position can look.
use Rattle.std.specs.Prelude.{ℕ, ◌+◌, max}
use Rattle.mtl_formulas.specs.FormulaTree.{FormulaTree, leaf, link, negation, pair, span}
use Rattle.mtl_formulas.specs.declared.formula.LinkKind.{LinkKind}
use Rattle.mtl_formulas.specs.declared.formula.LinkKind.TheVariants.{S, U}
use Rattle.mtl_formulas.specs.declared.formula.SpanKind.{SpanKind}
use Rattle.mtl_formulas.specs.declared.formula.SpanKind.TheVariants.{F, G, H, O}

-- how many positions back an operator looks: those of the past look as far as their upper bound
abbrev pub span_lookback : SpanKind → ℕ → ℕ
span_lookback F u = 0
span_lookback G u = 0
span_lookback O u = u
span_lookback H u = u

abbrev pub link_lookback : LinkKind → ℕ → ℕ
link_lookback U u = 0
link_lookback S u = u

-- the same of a formula
abbrev pub lookback_of : FormulaTree → ℕ
lookback_of (leaf a) = 0
lookback_of (negation t) = lookback_of t
lookback_of (pair kind s t) = max (lookback_of s) (lookback_of t)
lookback_of (span kind l u t) = span_lookback kind u + lookback_of t
lookback_of (link kind l u s t) = link_lookback kind u + max (lookback_of s) (lookback_of t)
