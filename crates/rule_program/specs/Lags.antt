-- How many rows after a position are needed at least before its value can be No, and before it can be Yes. The operators
-- alone decide this, so it may be fewer than are needed in fact, and is never more.
use Rattle.std.specs.Prelude.{ℕ, ◌≡◌, ◌+◌, ◌-◌, ◌<◌, ◌==◌, length, max, min, if◌then◌else◌}
use Rattle.mtl_formulas.specs.declared.formula.PairKind.{PairKind}
use Rattle.mtl_formulas.specs.declared.formula.PairKind.TheVariants.{And, Or, Implies}
use Rattle.mtl_formulas.specs.declared.formula.SpanKind.{SpanKind}
use Rattle.mtl_formulas.specs.declared.formula.SpanKind.TheVariants.{F, G, O, H}
use Rattle.mtl_formulas.specs.declared.formula.LinkKind.{LinkKind}
use Rattle.mtl_formulas.specs.declared.formula.LinkKind.TheVariants.{U, S}
use Rattle.mtl_formulas.specs.declared.verdict.Verdict.TheVariants.{No}
use Rattle.mtl_formulas.specs.FormulaTree.{FormulaTree, leaf, negation, pair, span, link}
use Rattle.mtl_formulas.specs.FormulaMeasures.{reach_of}
use Rattle.mtl_formulas.specs.Traces.{Trace, value_in}
use Rattle.rule_program.specs.declared.lags.Lags.{Lags}

-- An operator that looks back looks at the position itself if its lower bound is 0.
abbrev pub here : ℕ → ℕ → ℕ
here l lag = if l == 0 then lag else 0

abbrev pub pair_lags : PairKind → Lags → Lags → Lags
pair_lags And a b = record { no = min a.no b.no; yes = max a.yes b.yes }
pair_lags Or a b = record { no = max a.no b.no; yes = min a.yes b.yes }
pair_lags Implies a b = record { no = max a.yes b.no; yes = min a.no b.yes }

abbrev pub span_lags : SpanKind → ℕ → ℕ → Lags → Lags
span_lags F l u a = record { no = u + a.no; yes = l + a.yes }
span_lags G l u a = record { no = l + a.no; yes = u + a.yes }
span_lags O l u a = record { no = here l a.no; yes = a.yes - u }
span_lags H l u a = record { no = a.no - u; yes = here l a.yes }

abbrev pub link_lags : LinkKind → ℕ → ℕ → Lags → Lags → Lags
link_lags U l u a b = record { no = min a.no (u + b.no); yes = l + b.yes }
link_lags S l u a b = record { no = here l b.no; yes = b.yes - u }

abbrev pub lags_of : FormulaTree → Lags
lags_of (leaf a) = record { no = 0; yes = 0 }
lags_of (negation t) = record { no = (lags_of t).yes; yes = (lags_of t).no }
lags_of (pair kind s t) = pair_lags kind (lags_of s) (lags_of t)
lags_of (span kind l u t) = span_lags kind l u (lags_of t)
lags_of (link kind l u s t) = link_lags kind l u (lags_of s) (lags_of t)

-- A value of No lies so far before the trace's end that all rows came which the formula reaches.
abbrev pub IsNoLast : FormulaTree → Type 0
IsNoLast t = (rows : Trace) (i : ℕ) → value_in rows t i ≡ No → i + reach_of t < length rows
