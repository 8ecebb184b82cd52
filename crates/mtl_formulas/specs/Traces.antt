-- Traces, and the values of formulas over them. A row of a trace is here what it answers to each atom.
use Rattle.std.specs.Prelude.{ℕ, List}
use Rattle.mtl_formulas.specs.declared.atom.Atom.{Atom}
use Rattle.mtl_formulas.specs.declared.verdict.Verdict.{Verdict}
use Rattle.mtl_formulas.specs.FormulaTree.{FormulaTree}
use Rattle.mtl_formulas.specs.FormulaValue.{value_of}

abbrev pub Trace : Type 0
Trace = List (Atom → Verdict)

-- the value of a formula at a position of a trace
abbrev pub value_in : Trace → FormulaTree → ℕ → Verdict
value_in trace t i = value_of (λ row. row) trace t i
