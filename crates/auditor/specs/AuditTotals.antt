-- The total of each rule over all traces.
use Rattle.std.specs.Prelude.{ℕ, ◌≡◌, ◌≢◌, ◌<◌, Bool, true, false, List, length, map, slice_get, IsSomeAnd}
use Rattle.std.specs.List.{AllPairs, Contains, filter, range_with_len, sum_by}
use Rattle.mtl_formulas.specs.FormulaTree.{FormulaTree}
use Rattle.mtl_formulas.specs.declared.verdict.Verdict.{Verdict}
use Rattle.mtl_formulas.specs.declared.verdict.Verdict.TheVariants.{No, Open, Yes}
use Rattle.mtl_formulas.specs.Traces.{Trace, value_in}
use Rattle.rule_set.specs.NamedTrees.{rule_at}
use Rattle.meetings.specs.declared.pair.Pair.{Pair}
use Rattle.audit_rows.specs.declared.row.Row.{Row}
use Rattle.auditor.specs.RuleCounts.{is_run_of, told}
use Rattle.traces.specs.Audited.{Begins, AuditNumbers, Sighting}
use Rattle.auditor.specs.AuditTracks.{IsTraceOf}
use Rattle.auditor.specs.declared.total.Total.{Total}

-- ---- the traces

-- one trace, with the values of the atoms at its steps
pub record Traced : Type 0 where
  pub pair : Pair
  pub start : ℕ
  pub trace : Trace

-- The list has each trace once.
pub record AreTraces (numbers : AuditNumbers) (ticks : List Sighting) (traces : List Traced) : Type 0 where
  pub each : (t : Traced) → Contains traces t → IsTraceOf numbers ticks t.pair t.start t.trace
  pub all : (pair : Pair) (start : ℕ) → Begins numbers ticks pair start → Contains (map (λ t. t.pair) traces) pair
  pub once : AllPairs ◌≢◌ (map (λ t. t.pair) traces)

-- ---- the total of a rule

abbrev pub is_value : Verdict → Verdict → Bool
is_value Yes Yes = true
is_value No No = true
is_value Open Open = true
is_value _ _ = false

-- the number of positions of a trace at which the formula has the value
abbrev pub positions_with : Verdict → FormulaTree → Traced → ℕ
positions_with value tree t = length (filter (λ i. is_value value (value_in t.trace tree i)) (range_with_len 0 (length t.trace)))

-- The total of a rule over all traces, and the stretches of broken positions among the rows.
pub record IsTotal (numbers : AuditNumbers) (traces : List Traced) (rows : List Row) (rule : ℕ) (total : Total) : Type 0 where
  pub positions : total.positions ≡ told (sum_by (λ t. length t.trace) traces)
  pub yes : total.yes ≡ told (sum_by (positions_with Yes (rule_at numbers.rules rule).tree) traces)
  pub no : total.no ≡ told (sum_by (positions_with No (rule_at numbers.rules rule).tree) traces)
  pub undecided : total.undecided ≡ told (sum_by (positions_with Open (rule_at numbers.rules rule).tree) traces)
  pub runs : total.runs ≡ told (length (filter (is_run_of rule) rows))

-- one total for each rule
pub record AreTotals (numbers : AuditNumbers) (ticks : List Sighting) (rows : List Row) (totals : List Total) : Type 0 where
  pub traces : List Traced
  pub are_traces : AreTraces numbers ticks traces
  pub count : length totals ≡ length numbers.rules
  pub each : (rule : ℕ) → rule < length numbers.rules → IsSomeAnd (slice_get totals rule) (IsTotal numbers traces rows rule)
