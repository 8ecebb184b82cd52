-- The value of a formula at a position of a trace, after Koymans (1990): bounded closed intervals over discrete positions,
-- and three values. A trace is a list of rows, its position 0 the first.
use Rattle.std.specs.Prelude.{ℕ, zero, suc, ◌+◌, ◌-◌, List, length, nat_lt, if◌then◌else◌, Option, Some, None, slice_get}
use Rattle.mtl_formulas.specs.declared.atom.Atom.{Atom}
use Rattle.mtl_formulas.specs.declared.verdict.Verdict.{Verdict}
use Rattle.mtl_formulas.specs.declared.verdict.Verdict.TheVariants.{No, Open, Yes}
use Rattle.mtl_formulas.specs.declared.formula.PairKind.{PairKind}
use Rattle.mtl_formulas.specs.declared.formula.PairKind.TheVariants.{And, Or, Implies}
use Rattle.mtl_formulas.specs.declared.formula.SpanKind.{SpanKind}
use Rattle.mtl_formulas.specs.declared.formula.SpanKind.TheVariants.{F, G, O, H}
use Rattle.mtl_formulas.specs.declared.formula.LinkKind.{LinkKind}
use Rattle.mtl_formulas.specs.declared.formula.LinkKind.TheVariants.{U, S}
use Rattle.mtl_formulas.specs.VerdictOrder.{turned_round, least, greatest}
use Rattle.mtl_formulas.specs.FormulaTree.{FormulaTree, leaf, negation, pair, span, link}

-- the greatest value at count positions from start on: No if there is none
abbrev pub greatest_over : (ℕ → Verdict) → ℕ → ℕ → Verdict
greatest_over f start zero = No
greatest_over f start (suc count) = greatest (f start) (greatest_over f (start + 1) count)

-- the least value at count positions from start on: Yes if there is none
abbrev pub least_over : (ℕ → Verdict) → ℕ → ℕ → Verdict
least_over f start zero = Yes
least_over f start (suc count) = least (f start) (least_over f (start + 1) count)

-- the positions i - u to i - l that are not below 0: the first of them, and how many they are
abbrev pub past_start : ℕ → ℕ → ℕ
past_start i u = i - u

abbrev pub past_count : ℕ → ℕ → ℕ → ℕ
past_count i l u = ((i + 1) - l) - (i - u)

-- how many positions lie from l to u
abbrev pub ahead_count : ℕ → ℕ → ℕ
ahead_count l u = (u + 1) - l

-- the value of an operator by the values of its operands at all positions
abbrev pub pair_value : PairKind → Verdict → Verdict → Verdict
pair_value And a b = least a b
pair_value Or a b = greatest a b
pair_value Implies a b = greatest (turned_round a) b

abbrev pub span_value : SpanKind → ℕ → ℕ → (ℕ → Verdict) → ℕ → Verdict
span_value F l u a i = greatest_over a (i + l) (ahead_count l u)
span_value G l u a i = least_over a (i + l) (ahead_count l u)
span_value O l u a i = greatest_over a (past_start i u) (past_count i l u)
span_value H l u a i = least_over a (past_start i u) (past_count i l u)

-- U: b at k, and a at i to k - 1. S: b at k, and a at k + 1 to i.
abbrev pub link_value : LinkKind → ℕ → ℕ → (ℕ → Verdict) → (ℕ → Verdict) → ℕ → Verdict
link_value U l u a b i = greatest_over (λ k. least (b k) (least_over a i (k - i))) (i + l) (ahead_count l u)
link_value S l u a b i = greatest_over (λ k. least (b k) (least_over a (k + 1) (i - k))) (past_start i u) (past_count i l u)

module _ {A : Type 0} (answer : A → Atom → Verdict) (rows : List A) where
  -- what the row at a position answers, and Open if there is none
  abbrev pub answer_at : Atom → Option A → Verdict
  answer_at a None = Open
  answer_at a (Some row) = answer row a

  -- Open at the trace's end and beyond
  abbrev pub before_end : ℕ → Verdict → Verdict
  before_end i v = if nat_lt i (length rows) then v else Open

  -- Every formula is Open at the trace's end and beyond.
  abbrev pub value_of : FormulaTree → ℕ → Verdict
  value_of (leaf a) i = answer_at a (slice_get rows i)
  value_of (negation t) i = turned_round (value_of t i)
  value_of (pair kind s t) i = pair_value kind (value_of s i) (value_of t i)
  value_of (span kind l u t) i = before_end i (span_value kind l u (value_of t) i)
  value_of (link kind l u s t) i = before_end i (link_value kind l u (value_of s) (value_of t) i)
